-- What a line does, in a script that makes a ring before anything else.
use Rattle.std.specs.Prelude.{ℕ, List, Bool, true, false, Option, Some}
use Rattle.script.specs.Outcome.{fault_line}

-- A line's answer, the state after it once a ring is made, and whether the run goes on.
pub record Effect (State : Type 0) : Type 0 where
  pub text : List ℕ
  pub state : Option State
  pub goes_on : Bool

abbrev pub answers : {State : Type 0} → List ℕ → State → Effect State
answers text state = record { text = text; state = Some state; goes_on = true }

-- the run ends with a fault
abbrev pub faults : {State : Type 0} → ℕ → List ℕ → Option State → Effect State
faults number name state = record { text = fault_line number name; state = state; goes_on = false }
