use Rattle.tracked_engine.specs.TrackedEngines.{IsTrackedEngine}
use Rattle.tracked_engine.proofs.Keeping.{engine_tracked, still_together, next_after_begin}
use Rattle.tracked_engine.proofs.tracked_engine.TrackedEngine.begin.Goals as goal

pub returns-clause-tracked : goal.returns-clause-tracked
returns-clause-tracked c =
    let together : IsTrackedEngine c.self.inside.consumer c.begin.new.self = still_together _ _ _ c.self.invariant (next_after_begin _ _ _ _ c.begin.ensures.begun) c.begin.ensures.tracked in
    engine_tracked _ _ together
