-- What comes of serving lines.
use Rattle.std.specs.Prelude.{◌≡◌, ℕ, ◌+◌, List, ◌∷◌, ◌++◌, Option, Some, codes, decimal}
use Rattle.script.specs.declared.ending.Ending.{Ending}
use Rattle.script.specs.declared.ending.Ending.TheVariants.{Refused}

-- The text that is written, and how the run ends. Without an ending, the text is a beginning of what is written.
pub record Outcome : Type 0 where
  pub text : List ℕ
  pub ending : Option Ending

-- the outcome with more text before it
abbrev pub with_front : List ℕ → Outcome → Outcome
with_front text outcome = record { text = text ++ outcome.text; ending = outcome.ending }

-- the text of a fault that ends the run at the line of this number
abbrev pub fault_line : ℕ → List ℕ → List ℕ
fault_line number name = codes "line " ++ decimal number ++ codes ": " ++ name ++ codes "\n"

-- the outcome of a fault
abbrev pub fault : ℕ → List ℕ → Outcome
fault number name = record { text = fault_line number name; ending = Some Refused }

-- A line was answered and the run goes on: `new` says what the lines after it may come to, and `old` gives that with
-- this line's answer before it.
pub record Continues (old new : ℕ → List (List ℕ) → Outcome → Type 0) (number : ℕ) (line before after : List ℕ) : Type 0 where
  pub answer : List ℕ
  pub text : after ≡ before ++ answer
  pub rest : (lines : List (List ℕ)) (outcome : Outcome) → new (number + 1) lines outcome → old number (line ∷ lines) (with_front answer outcome)

-- A line ended the run, whatever lines come after it.
pub record Ends (old : ℕ → List (List ℕ) → Outcome → Type 0) (number : ℕ) (line before after : List ℕ) : Type 0 where
  pub answer : List ℕ
  pub text : after ≡ before ++ answer
  pub rest : (lines : List (List ℕ)) → old number (line ∷ lines) (record { text = answer; ending = Some Refused })
