-- What is known of a tracked unit once its engine and all senders are joined.
use Rattle.std.specs.Prelude.{◌≡◌, ℕ, List, Some, slice_get}
use Rattle.ringcore.specs.world.World.{world}
use Rattle.ring.specs.Rings.{RingValue}
use Rattle.ring.specs.sender.Senders.{SenderValue}
use Rattle.ring.specs.Finishing.{SummaryValue, IsEnd}
use Rattle.engine.specs.Counting.{taken}
use Rattle.transactions.specs.Tracking.{TrackedValue, IsTracked}
use Rattle.transactions.specs.Told.{WasToldAllFully}
use Rattle.tracked_engine.specs.TrackedEngines.{TrackedEngineValue}

-- One run has all steps. The unit is tracked for what is taken in it. Whatever a sender was told in
-- it was true, of the entries that are held and of the transactions that are outstanding.
pub record IsTrackedEnd (ring : RingValue) (senders : List SenderValue)
    (engine : TrackedEngineValue) (end : SummaryValue) (tracked : TrackedValue) : Type 0 where
  pub end_is : IsEnd ring senders engine.consumer end
  pub tracked_is : IsTracked tracked (world end_is.run).taken
  pub told : (k : ℕ) (s : SenderValue)
      → slice_get senders k ≡ Some s → WasToldAllFully end_is.run tracked s
  pub taken_are : end.taken ≡ taken tracked.unit.counts
