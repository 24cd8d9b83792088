-- The whole answer to some lines.
use Rattle.std.specs.Prelude.{◌≡◌, ℕ, List, ◌++◌, Bool, true, false, Option, Some, None}
use Rattle.script.specs.declared.ending.Ending.{Ending}
use Rattle.script.specs.declared.ending.Ending.TheVariants.{Finished, Refused}

-- all that is written, and whether the run came to the end of the script
pub record Answer : Type 0 where
  pub text : List ℕ
  pub is_good : Bool

abbrev pub with_text : List ℕ → Answer → Answer
with_text text answer = record { text = text ++ answer.text; is_good = answer.is_good }

-- The answer is this text and ends so; without an ending, it begins with the text.
abbrev pub EndsAs : Answer → List ℕ → Option Ending → Type 0
EndsAs answer text (Some Finished) = answer ≡ record { text = text; is_good = true }
EndsAs answer text (Some Refused) = answer ≡ record { text = text; is_good = false }
EndsAs answer text None = (rest : List ℕ) × (answer.text ≡ text ++ rest)
