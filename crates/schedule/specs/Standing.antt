-- When a machine stands for a state of the definition.
use Rattle.std.specs.Prelude.{◌≡◌}
use Rattle.ringcore.specs.machine.Core.{CoreValue, StandsAfter, ring_of}
use Rattle.schedule.specs.ScheduleText.{State}

-- The machine has the state's ring, and stands as after its run.
pub record Stands (core : CoreValue) (state : State) : Type 0 where
  pub ring : ring_of core ≡ state.ring
  pub run : StandsAfter core state.run
