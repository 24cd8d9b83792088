-- What the lines of a log come to, line by line.
use Rattle.std.specs.Prelude.{ℕ, ◌+◌, nat_lt, List, [], ◌∷◌, map, Bool, true, false, if◌then◌else◌, length, codes}
use Rattle.script.specs.Answers.{Answer, with_text, EndsAs}
use Rattle.script.specs.Outcome.{Outcome, fault_line}
use Rattle.words.specs.declared.log_line.LogLine.{LogLine}
use Rattle.words.specs.LogLines.{log_line}
use Rattle.words.specs.LogAnswers.{log_answer}

abbrev pub is_long : List ℕ → Bool
is_long line = nat_lt 4096 (length line)

-- the lines before the first one of more than 4,096 bytes, by what they bring
unfoldable pub served : List (List ℕ) → List LogLine
served [] = []
served (line ∷ lines) = if is_long line then [] else log_line line ∷ served lines

-- that line's text, and whether there is none; the first line has this number
unfoldable pub end_from : ℕ → List (List ℕ) → Answer
end_from number [] = record { text = []; is_good = true }
end_from number (line ∷ lines) =
    if is_long line then record { text = fault_line number (codes "long line"); is_good = false } else end_from (number + 1) lines

-- The texts of the lines, the first of which has this number, and whether all were served.
abbrev pub answers_from : ℕ → List (List ℕ) → Answer
answers_from number lines = with_text (log_answer (served lines)).text (end_from number lines)

-- the form that crate script asks for
abbrev pub Comes : ℕ → List (List ℕ) → Outcome → Type 0
Comes number lines outcome = EndsAs (answers_from number lines) outcome.text outcome.ending

-- Each is good.
abbrev pub all_good : List (List ℕ) → Bool
all_good lines = (log_answer (map log_line lines)).is_good
