-- The text that a schedule is answered with.
use Rattle.std.specs.Prelude.{ℕ, List, [], ◌∷◌, Bool, true, Option, Some, None, codes, ⊤}
use Rattle.script.specs.Answers.{Answer}
use Rattle.script.specs.Effects.{Effect, answers, faults}
use Rattle.script.specs.Kinds as kinds
use Rattle.script.specs.Kinds.{Kind}
use Rattle.script.specs.Texts.{ring_text}
use Rattle.ringcore.specs.declared.ring_fault.RingFault.{RingFault}
use Rattle.ringcore.specs.declared.machine.step.Step.{Step}
use Rattle.ringcore.specs.declared.machine.step_fault.StepFault.{StepFault}
use Rattle.ringcore.specs.world.Trails.{Run}
use Rattle.ringcore.specs.world.Allowed.{Ring}
use Rattle.ringcore.specs.machine.Faults.{fault_of}
use Rattle.ringcore.specs.machine.FaultNames.{label_of}
use Rattle.ringcore.specs.RingFaults.{fault_label}
use Rattle.ringcore.specs.machine.StepAnswers.{event_of}
use Rattle.ringcore.specs.machine.Core.{ring_with, core_fault, answer_to as seen_by}
use Rattle.schedule.specs.declared.request.Request.{Request}
use Rattle.schedule.specs.declared.request.Request.TheVariants as asks
use Rattle.schedule.specs.Lines.{named}
use Rattle.schedule.specs.Steps.{step_of}
use Rattle.schedule.specs.Texts.{answer_line}

-- the state once the ring is made: the ring, and what happened to it so far
pub record State : Type 0 where
  pub ring : Ring
  pub run : Run

-- ---- ring

-- a ring that nothing happened to
abbrev pub made : ℕ → ℕ → State
made log2 senders = record { ring = ring_with log2 senders; run = [] }

-- given which of its numbers is out of range, if one is
abbrev pub ring_or_fault : ℕ → ℕ → ℕ → Option RingFault → Effect State
ring_or_fault number log2 senders (Some fault) = faults number (fault_label fault) None
ring_or_fault number log2 senders None = answers (ring_text log2) (made log2 senders)

-- ---- steps

-- the state after the step
abbrev pub taken : State → Step → State
taken state step = record { ring = state.ring; run = event_of state.ring state.run step ∷ state.run }

abbrev pub step_or_fault : ℕ → Step → Bool → State → Option StepFault → Effect State
step_or_fault number step is_counted state (Some fault) = faults number (label_of fault) (Some state)
step_or_fault number step is_counted state None =
    answers (answer_line step is_counted (seen_by state.ring state.run step)) (taken state step)

unfoldable pub step_effect : ℕ → Step → Bool → State → Effect State
step_effect number step is_counted state = step_or_fault number step is_counted state (fault_of state.ring state.run step)

-- ---- lines

-- what a request does once the ring is made
unfoldable pub served : ℕ → Request → State → Effect State
served number asks.Nothing state = answers [] state
served number (asks.Ring log2 senders) state = faults number (codes "second ring") (Some state)
served number (asks.Step asked is_counted) state = step_effect number (step_of asked) is_counted state

-- what a request does before the ring is made
unfoldable pub first_served : ℕ → Request → Effect State
first_served number asks.Nothing = record { text = []; state = None; goes_on = true }
first_served number (asks.Ring log2 senders) = ring_or_fault number log2 senders (core_fault log2 senders)
first_served number (asks.Step asked is_counted) = faults number (codes "no ring") None

-- A schedule's requests ignore whether memory runs out, so a script has one answer.
abbrev pub schedules : Kind State Request
schedules = record { nothing = asks.Nothing; named = named; first_served = first_served; served = λ number wanting. served number; holds = λ state. ⊤ }

-- what a line asks for; None is a bad line
abbrev pub request_of : List ℕ → Option Request
request_of line = kinds.request_of schedules line

-- the answer to a script
abbrev pub answer_to : List ℕ → Answer
answer_to script = kinds.answer_to schedules [] script
