use Rattle.std.proofs.Common.{[], subst}
use Rattle.transactions.specs.Tracking.{TrackedValue, tracked_with, StaysTracked}
use Rattle.transactions.specs.Together.{StaysTogether}
use Rattle.transactions.specs.Transactions.{IsEndAnswer}
use Rattle.transactions.proofs.tracked.TrackedUnit.end.Goals as goal

pub returns-clause-ended : goal.returns-clause-ended
returns-clause-ended c =
    subst (λ (t : TrackedValue). IsEndAnswer t c.args.transaction (tracked_with c.self.inside.unit c.end.new.self) c.end.result) c.self.view_is (c.end.ensures.ended c.self.inside.unit)

pub returns-clause-tracked : goal.returns-clause-tracked
returns-clause-tracked c =
    subst (λ (t : TrackedValue). StaysTracked t (tracked_with c.self.inside.unit c.end.new.self) []) c.self.view_is (c.end.ensures.tracked c.self.inside.unit)

pub returns-clause-together : goal.returns-clause-together
returns-clause-together c =
    subst (λ (t : TrackedValue). StaysTogether t (tracked_with c.self.inside.unit c.end.new.self)) c.self.view_is (c.end.ensures.together c.self.inside.unit)
