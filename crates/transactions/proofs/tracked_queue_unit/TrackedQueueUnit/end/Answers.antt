use Rattle.std.proofs.Common.{[], subst}
use Rattle.transactions.specs.Tracking.{tracked_with, StaysTracked}
use Rattle.transactions.specs.TrackedQueueUnits.{TrackedQueueValue, tracked_in}
use Rattle.transactions.specs.Transactions.{IsEndAnswer}
use Rattle.transactions.proofs.tracked_queue_unit.TrackedQueueUnit.end.Goals as goal

pub returns-clause-ended : goal.returns-clause-ended
returns-clause-ended c =
    let unit = c.self.inside.queue.unit in
    subst (λ (q : TrackedQueueValue). IsEndAnswer (tracked_in q) c.args.transaction (tracked_with unit c.end.new.self) c.end.result) c.self.view_is (c.end.ensures.ended unit)

pub returns-clause-tracked : goal.returns-clause-tracked
returns-clause-tracked c =
    let unit = c.self.inside.queue.unit in
    subst (λ (q : TrackedQueueValue). StaysTracked (tracked_in q) (tracked_with unit c.end.new.self) []) c.self.view_is (c.end.ensures.tracked unit)
