use Rattle.tracked_engine.specs.TrackedEngines.{IsTrackedEngine}
use Rattle.tracked_engine.proofs.Keeping.{engine_tracked, still_together, next_after_walk}
use Rattle.tracked_engine.proofs.tracked_engine.TrackedEngine.begin_outstanding_walk.Goals as goal

pub returns-clause-tracked : goal.returns-clause-tracked
returns-clause-tracked c =
    let together : IsTrackedEngine c.self.inside.consumer c.begin_outstanding_walk.new.self =
    still_together _ _ _ c.self.invariant (next_after_walk _ _ _ _ c.begin_outstanding_walk.ensures.begun) c.begin_outstanding_walk.ensures.tracked in
    engine_tracked _ _ together
