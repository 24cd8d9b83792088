-- One line of a log behind another, as far as that one counts.
use Rattle.std.specs.Prelude.{◌≡◌, ℕ, List, ◌∷◌, ◌++◌, map, Bool, true, false, ◌&&◌}
use Rattle.decode.specs.CommandText.{words_text}
use Rattle.script.specs.Answers.{Answer, with_text, EndsAs}
use Rattle.script.specs.Outcome.{Outcome}
use Rattle.words.specs.declared.log_line.LogLine.{LogLine}
use Rattle.words.specs.declared.log_line.LogLine.TheVariants.{Half, Received, Other}
use Rattle.line_answers.specs.LineAnswers.{LineAnswer, skipped}
use Rattle.words.specs.LineAnswers.{told, bad_line}
use Rattle.words.specs.LogLines.{log_line}
use Rattle.words.specs.LogAnswers.{log_answer}
use Rattle.words.specs.Logs.{served, end_from}

abbrev pub is_half : LogLine → Bool
is_half (Half half) = true
is_half Received = false
is_half Other = false

-- what is written at a line
abbrev pub answer_behind : LogLine → LogLine → LineAnswer
answer_behind (Half lo) (Half hi) = told (words_text (record { lo = lo; hi = hi }))
answer_behind (Half lo) Received = bad_line
answer_behind (Half lo) Other = bad_line
answer_behind Received line = skipped
answer_behind Other line = skipped

-- how it counts for the next line: the second half of a command doesn't, and an event's words don't end the event
abbrev pub counted_behind : LogLine → LogLine → LogLine
counted_behind (Half lo) (Half hi) = Other
counted_behind (Half lo) Received = Received
counted_behind (Half lo) Other = Other
counted_behind Received (Half word) = Received
counted_behind Received Received = Received
counted_behind Received Other = Other
counted_behind Other line = line

-- what lines come to behind one
abbrev pub answers_behind : LogLine → ℕ → List (List ℕ) → Answer
answers_behind before number lines = with_text (log_answer (before ∷ served lines)).text (end_from number lines)

abbrev pub ComesBehind : LogLine → ℕ → List (List ℕ) → Outcome → Type 0
ComesBehind before number lines outcome = EndsAs (answers_behind before number lines) outcome.text outcome.ending

-- All these lines are good, whatever follows them, if `good` says so and what follows is good behind `before`.
abbrev pub AreJudged : Bool → LogLine → List (List ℕ) → Type 0
AreJudged good before lines =
    (more : List LogLine) → (log_answer (map log_line lines ++ more)).is_good ≡ (good && (log_answer (before ∷ more)).is_good)
