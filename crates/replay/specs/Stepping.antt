-- What a step of the program does, by what the definition says of the step.
use Rattle.std.specs.Prelude.{◌≡◌, ℕ, List, ◌++◌, Bool}
use Rattle.simulator.specs.State.{State}
use Rattle.simulator.specs.Standing.{SimulatorValue, Stands}
use Rattle.replay.specs.effects.UnitLines.{Step}

-- A step says this, and `new` stands for the state after it.
pub record Stepped (step : Step) (new : SimulatorValue) (answer : List ℕ) (may_follow : Bool) : Type 0 where
  pub text : step.text ≡ answer
  pub follows : step.may_follow ≡ may_follow
  pub after : Stands new step.state

-- What was appended is what the step says, from each state that `old` stands for.
pub record Steps (step : State → Step) (old new : SimulatorValue) (before after : List ℕ) (may_follow : Bool) : Type 0 where
  pub answer : List ℕ
  pub text : after ≡ before ++ answer
  pub steps : (state : State) → Stands old state → Stepped (step state) new answer may_follow
