-- What lines are answered with, one after another. `answer_of` says what a line is answered with.
use Rattle.std.specs.Prelude.{ℕ, ◌+◌, nat_lt, List, [], ◌∷◌, Bool, true, false, if◌then◌else◌, length, codes}
use Rattle.std.specs.List.{list_all}
use Rattle.script.specs.Answers.{Answer, with_text, EndsAs}
use Rattle.script.specs.Outcome.{Outcome, fault_line}
use Rattle.line_answers.specs.LineAnswers.{LineAnswer}

-- The texts of the lines, the first of which has this number, and whether all were served: one of more than 4,096 bytes
-- ends the run.
unfoldable pub answers_from : (List ℕ → LineAnswer) → ℕ → List (List ℕ) → Answer
answers_from answer_of number [] = record { text = []; is_good = true }
answers_from answer_of number (line ∷ lines) =
    if nat_lt 4096 (length line) then record { text = fault_line number (codes "long line"); is_good = false }
    else with_text (answer_of line).text (answers_from answer_of (number + 1) lines)

-- the form that crate script asks for
abbrev pub Comes : (List ℕ → LineAnswer) → ℕ → List (List ℕ) → Outcome → Type 0
Comes answer_of number lines outcome = EndsAs (answers_from answer_of number lines) outcome.text outcome.ending

-- Each line is good.
abbrev pub all_good : (List ℕ → LineAnswer) → List (List ℕ) → Bool
all_good answer_of lines = list_all (λ line. (answer_of line).is_good) lines
