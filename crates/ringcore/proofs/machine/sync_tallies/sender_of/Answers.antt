use Rattle.std.proofs.Common.{sym, ◌∙◌}
use Rattle.ringcore.proofs.MachineLemmas.Tallies.{sender_is}
use Rattle.ringcore.proofs.machine.sync_tallies.sender_of.Goals as goal

pub returns-then-is_sync : goal.returns-then-is_sync
returns-then-is_sync c = sender_is c.args.raw c.cell_owner.result (sym c.is_sync.ensures ∙ c.if-is_sync.true) c.cell_owner.ensures
