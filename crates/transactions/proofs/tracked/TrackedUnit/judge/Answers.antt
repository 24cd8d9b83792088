use Rattle.std.proofs.Common.{None, Some, refl, subst}
use Rattle.transactions.specs.Between.{IsWaitAnswer}
use Rattle.transactions.specs.Tracking.{TrackedValue}
use Rattle.transactions.proofs.Judged.{waits_for_some, must_wait, need_not_wait, needs_no_wait}
use Rattle.transactions.proofs.tracked.TrackedUnit.judge.Goals as goal

pub returns-in-Some-clause-waits : goal.returns-in-Some-clause-waits
returns-in-Some-clause-waits c list is =
    let must = subst (λ (t : TrackedValue). IsWaitAnswer c.args.raw t.outstanding (Some c.in-Some.transactions)) c.self.view_is c.in-Some.ensures in
    (λ waiting. must_wait c.args.raw c.args.self.now c.in-Some.transactions must list is, λ all. tt)

pub returns-clause-waits : goal.returns-clause-waits
returns-clause-waits c list is =
    let free = subst (λ (t : TrackedValue). IsWaitAnswer c.args.raw t.outstanding None) c.self.view_is c.in_default.ensures in
    (λ never. absurd never, need_not_wait c.args.raw c.args.self.now free list is)

pub returns-clause-tracked : goal.returns-clause-tracked
returns-clause-tracked c =
    let free = subst (λ (t : TrackedValue). IsWaitAnswer c.args.raw t.outstanding None) c.self.view_is c.in_default.ensures in
    needs_no_wait c.args.raw c.args.self.now c.take.new.self _ free c.take.ensures.tracked

pub returns-in-Some-clause-judged : goal.returns-in-Some-clause-judged
returns-in-Some-clause-judged c =
    let must = subst (λ (t : TrackedValue). IsWaitAnswer c.args.raw t.outstanding (Some c.in-Some.transactions)) c.self.view_is c.in-Some.ensures in
    let waits = waits_for_some c.args.raw c.args.self.now c.in-Some.transactions must in
    (refl, waits.0, waits.1)

pub returns-clause-judged : goal.returns-clause-judged
returns-clause-judged c = record {
  judged = c.take.ensures.judged;
  covered = c.take.ensures.covered;
  next_number = c.take.ensures.next;
  none_waited_for = λ sync. (subst (λ (t : TrackedValue). IsWaitAnswer c.args.raw t.outstanding None) c.self.view_is c.in_default.ensures) sync.0 sync.1;
}
