-- What the lines of the unit do.
use Rattle.std.specs.Prelude.{ℕ, zero, suc, List, [], ◌++◌, Bool, true, false, ⊤, Result, Ok, Err, if◌then◌else◌}
use Rattle.std.specs.FinMap as finite
use Rattle.engine.specs.declared.answer.StepAnswer.{StepAnswer}
use Rattle.engine.specs.declared.answer.StepAnswer.TheVariants.{Empty, Drained, Unwritten, Applied, Stopped, Replaced, StillStopped, Exhausted}
use Rattle.engine.specs.declared.remedy.Remedy.{Remedy}
use Rattle.engine.specs.declared.remedy.AckFault.{AckFault}
use Rattle.engine.specs.Stops.{label_of}
use Rattle.script.specs.Effects.{Effect, answers}
use Rattle.simulator.specs.State.{State, Answered, entries, counted, registers}
use Rattle.simulator.specs.Steps.{stepped, acknowledged}
use Rattle.replay.specs.texts.Refusals.{refused_text}
use Rattle.replay.specs.texts.UnitLines.{step_text, acknowledged_text, dump_text}
use Rattle.replay.specs.effects.Answering.{tells}

-- ---- steps

-- A command was completed, so that another step may follow on the same line.
abbrev pub completes : StepAnswer → Bool
completes Empty = false
completes Drained = false
completes Unwritten = false
completes (Applied command removed) = true
completes (Stopped ill) = false
completes (Replaced ill) = true
completes StillStopped = false
completes Exhausted = false

-- what one step does, and whether another may follow it
pub record Step : Type 0 where
  pub text : List ℕ
  pub state : State
  pub may_follow : Bool

abbrev pub told_as : Answered StepAnswer → Step
told_as told = record { text = step_text told.answer; state = told.state; may_follow = completes told.answer }

abbrev pub step_of : State → Step
step_of state = told_as (stepped state)

abbrev pub followed : Step → (State → Step) → Step
followed step rest =
    if step.may_follow then record { text = step.text ++ (rest step.state).text; state = (rest step.state).state; may_follow = (rest step.state).may_follow }
    else step

-- `count` steps, but none after one that none may follow
unfoldable pub steps_of : ℕ → State → Step
steps_of zero state = record { text = []; state = state; may_follow = true }
steps_of (suc count) state = followed (step_of state) (steps_of count)

unfoldable pub step_effect : ℕ → State → Effect State
step_effect count state = answers (steps_of count state).text (steps_of count state).state

-- ---- an acknowledgement

abbrev pub acknowledgement_text : Result ⊤ AckFault → List ℕ
acknowledgement_text (Ok done) = acknowledged_text
acknowledgement_text (Err fault) = refused_text (label_of fault)

abbrev pub acknowledge_effect : ℕ → Remedy → State → Effect State
acknowledge_effect gerrorn remedy state = tells acknowledgement_text (acknowledged gerrorn remedy state)

-- ---- a dump

abbrev pub dump_effect : State → Effect State
dump_effect state = answers (dump_text (registers state) (counted state.run state.history) (finite.values (entries state))) state
