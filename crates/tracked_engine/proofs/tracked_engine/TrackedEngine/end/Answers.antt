use Rattle.std.proofs.Common.{subst}
use Rattle.transactions.specs.Transactions.{IsEndAnswer}
use Rattle.tracked_engine.specs.TrackedEngines.{TrackedEngineValue, IsTrackedEngine}
use Rattle.tracked_engine.proofs.Keeping.{engine_tracked, still_together, next_after_end}
use Rattle.tracked_engine.proofs.tracked_engine.TrackedEngine.end.Goals as goal

pub returns-clause-tracked : goal.returns-clause-tracked
returns-clause-tracked c =
    let together : IsTrackedEngine c.self.inside.consumer c.end.new.self = still_together _ _ _ c.self.invariant (next_after_end _ _ _ _ c.end.ensures.ended) c.end.ensures.tracked in
    engine_tracked _ _ together

pub returns-clause-ended : goal.returns-clause-ended
returns-clause-ended c = subst (λ (e : TrackedEngineValue). IsEndAnswer e.tracked c.args.transaction c.end.new.self c.end.result) c.self.view_is c.end.ensures.ended
