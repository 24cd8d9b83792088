use Rattle.std.proofs.Common.{◌≡◌, ℕ, true, Ok, refl, ap, sym, subst, ◌∙◌}
use Rattle.std.specs.Prelude.{◌↔◌}
use Rattle.transactions.specs.Outstanding.{Slots}
use Rattle.transactions.specs.Tracking.{TrackingValue, tracked_with, IsTracked}
use Rattle.transactions.specs.declared.transaction.Ended.TheVariants.{LastCovered}
use Rattle.transactions.specs.Transactions.{TransactionValue, IsEndAnswer}
use Rattle.transactions.proofs.Covering.{ended_tracked, ended_one}
use Rattle.transactions.proofs.Together.{stays_together}
use Rattle.transactions.proofs.tracking.Tracking.end.Goals as goal

pub returns-in-Some-clause-ended : goal.returns-in-Some-clause-ended
returns-in-Some-clause-ended c unit =
    let old : TrackingValue = record { recent = c.self.inside.recent; outstanding = c.self.inside.outstanding; next_number = c.self.inside.next_number } in
    let new : TrackingValue = record old { outstanding = c.remove.new.self } in
    let transaction : TransactionValue = record { slot = c.transaction.inside.slot; number = c.transaction.inside.number } in
    subst (λ (x : TrackingValue × TransactionValue). IsEndAnswer (tracked_with unit x.0) x.1 (tracked_with unit new) (Ok c.of.result)) (λ k. (c.self.view_is k, c.transaction.view_is k))
    (ended_one (tracked_with unit old) (tracked_with unit new) transaction c.in-Some.outstanding c.of.result (sym c.unit_of.ensures ∙ c.if-unit_of.false ∙ c.unit_of-2.ensures) c.in-Some.ensures c.if-outstanding-transaction.true
    (ap (λ (s : Slots). tracked_with unit (record old { outstanding = s })) c.remove.ensures)
    (subst (λ (n : ℕ). (c.of.result ≡ LastCovered) ↔ ((c.in-Some.outstanding.covered ≡ true) × (n ≡ 0))) c.covered-left.ensures c.of.ensures))

pub returns-in-Some-clause-tracked : goal.returns-in-Some-clause-tracked
returns-in-Some-clause-tracked c unit list is =
    let before = subst (λ (t : TrackingValue). IsTracked (tracked_with unit t) list) (sym c.self.view_is) is in
    ended_tracked (record { unit = unit; recent = c.self.inside.recent; outstanding = c.self.inside.outstanding; next_number = c.self.inside.next_number }) list _ c.remove.new.self before c.remove.ensures

pub returns-in-Some-clause-together : goal.returns-in-Some-clause-together
returns-in-Some-clause-together c unit =
    stays_together (tracked_with unit c.args.self.now) (record { unit = unit; recent = c.self.inside.recent; outstanding = c.remove.new.self; next_number = c.self.inside.next_number })
    (returns-in-Some-clause-tracked c unit) refl
