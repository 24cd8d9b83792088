use Rattle.std.proofs.Common.{◌<◌, ℕ, None, length, drop, ◌++◌, sym, ap, subst, ◌∙◌, add-one}
use Rattle.std.specs.Prelude.{replicate, slice_set}
use Rattle.transactions.specs.Outstanding.{Slots, IsEmptyAt}
use Rattle.transactions.proofs.FreeSlots.{one_cleared, was_clear}
use Rattle.transactions.proofs.outstanding.OutstandingTransactions.clear.Goals as goal
use Rattle.transactions.proofs.outstanding.OutstandingTransactions.clear.Goals.{in-Some, in_default}

pub loop-slot-preserved : goal.loop-slot-preserved
loop-slot-preserved c =
    let old = c.args.self.now in
    let slot = c.loop-slot.slot in
    let below : slot < length old = subst (λ (n : ℕ). slot < n) c.room-slot-end.ensures c.loop-slot-test.true in
    let next = ap (λ (n : ℕ). replicate n None ++ drop n old) (sym (add-one slot)) in
    elim c.match-get.branch [
      | in-Some w ↦ w.self-is ∙ w.remove.ensures ∙ ap (λ (s : Slots). slice_set s slot None) c.loop-slot.invariant ∙ one_cleared old slot below ∙ next
      | in_default w ↦ w.self-is ∙ c.loop-slot.invariant ∙ was_clear old slot below (subst (λ (s : Slots). IsEmptyAt s slot) c.loop-slot.invariant w.in_default.ensures) ∙ next
    ]
