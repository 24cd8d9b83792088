use Rattle.std.proofs.Common.{◌<◌, ◌≤◌, ℕ, suc, sym, ap, subst, ◌∙◌}
use Rattle.ring.specs.Runs.{acknowledged_by, syncs_taken}
use Rattle.ring.proofs.table.port.Port.acknowledge_sync.Goals as goal

pub closing_sender-requires : goal.closing_sender-requires
closing_sender-requires c = c.requires.due.closing

pub acknowledge-requires-clause-known : goal.acknowledge-requires-clause-known
acknowledge-requires-clause-known c = subst (λ (t : ℕ). t < c.args.ring.now.made_with.senders) (sym c.closing_sender.ensures) c.requires.due.known

pub acknowledge-requires-clause-next : goal.acknowledge-requires-clause-next
acknowledge-requires-clause-next c =
    c.closing_number.ensures ∙ c.requires.due.next ∙ ap (λ (s : ℕ). suc (acknowledged_by s c.args.self.now.trail)) (sym c.closing_sender.ensures)

pub acknowledge-requires-clause-taken : goal.acknowledge-requires-clause-taken
acknowledge-requires-clause-taken c =
    subst (λ (t : ℕ × ℕ). t.0 ≤ syncs_taken t.1 c.args.self.now.trail) (λ k. (sym c.closing_number.ensures k, sym c.closing_sender.ensures k)) c.requires.due.taken
