use Rattle.std.proofs.Common.{None, Some, subst}
use Rattle.transactions.specs.Between.{IsWaitAnswer}
use Rattle.transactions.specs.TrackedQueueUnits.{TrackedQueueValue, tracked_in}
use Rattle.transactions.proofs.Judged.{must_wait, need_not_wait, needs_no_wait}
use Rattle.transactions.proofs.tracked_queue_unit.TrackedQueueUnit.judge.Goals as goal

pub returns-in-Some-clause-waits : goal.returns-in-Some-clause-waits
returns-in-Some-clause-waits c list is =
    let must = subst (λ (q : TrackedQueueValue). IsWaitAnswer c.args.raw q.outstanding (Some c.in-Some.transactions)) c.self.view_is c.in-Some.ensures in
    (λ waiting. must_wait c.args.raw (tracked_in c.args.self.now) c.in-Some.transactions must list is, λ all. tt)

pub returns-clause-waits : goal.returns-clause-waits
returns-clause-waits c list is =
    let free = subst (λ (q : TrackedQueueValue). IsWaitAnswer c.args.raw q.outstanding None) c.self.view_is c.in_default.ensures in
    (λ never. absurd never, need_not_wait c.args.raw (tracked_in c.args.self.now) free list is)

pub returns-clause-tracked : goal.returns-clause-tracked
returns-clause-tracked c =
    let free = subst (λ (q : TrackedQueueValue). IsWaitAnswer c.args.raw q.outstanding None) c.self.view_is c.in_default.ensures in
    let takes = c.in_ok-judgement.ensures.ok.takes in
    record { more = takes.0; took = takes.1; tracked = needs_no_wait c.args.raw (tracked_in c.args.self.now) (tracked_in c.take.new.self) takes.0 free takes.2 }
