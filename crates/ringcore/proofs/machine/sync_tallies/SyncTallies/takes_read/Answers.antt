use Rattle.std.proofs.Common.{◌≡◌, ◌+◌, List, ℕ, None, sym, subst, ◌∙◌}
use Rattle.ringcore.specs.machine.ConsumerViews.{command_at, commands_read}
use Rattle.ringcore.specs.machine.SyncTallies.{AreCounted}
use Rattle.ringcore.proofs.MachineLemmas.Tallies.{counts_fit, counted_next, none_next}
use Rattle.ringcore.proofs.machine.sync_tallies.SyncTallies.takes_read.Goals as goal
use Rattle.ringcore.proofs.machine.sync_tallies.SyncTallies.takes_read.Goals.{in-Some, in_default}

pub takes-requires : goal.takes-requires
takes-requires c =
    counts_fit c.args.self.now c.loop-offset.self c.args.consumer.now c.loop-offset.offset c.args.count c.in-Some.raw c.loop-offset-test.true
    (sym c.in-Some.ensures.value) c.loop-offset.invariant c.requires.counts

pub loop-offset-preserved : goal.loop-offset-preserved
loop-offset-preserved c = elim c.match-command.branch [
  | in-Some w ↦
      subst (λ (l : List ℕ). AreCounted c.args.self.now l (commands_read c.args.consumer.now (c.loop-offset.offset + 1))) (sym w.self-is)
      (counted_next c.args.self.now c.loop-offset.self w.takes.new.self c.args.consumer.now c.loop-offset.offset w.in-Some.raw (sym w.in-Some.ensures.value) c.loop-offset.invariant w.takes.ensures)
  | in_default w ↦
      let nothing : command_at c.args.consumer.now c.loop-offset.offset ≡ None = sym c.command.ensures.value ∙ w.in_default.is in
      subst (λ (l : List ℕ). AreCounted c.args.self.now l (commands_read c.args.consumer.now (c.loop-offset.offset + 1))) (sym w.self-is)
      (none_next c.args.self.now c.loop-offset.self c.args.consumer.now c.loop-offset.offset nothing c.loop-offset.invariant)
]
