-- What crate script asks of those who serve lines, of a log behind one of its lines.
use Rattle.std.specs.Prelude.{◌≡◌, ℕ, ◌+◌, ◌<◌, List, [], ◌∷◌, ◌++◌, false, cond, Some, None, length, codes, refl}
use Rattle.std.proofs.Common.{ap, ◌∙◌}
use Rattle.std.proofs.lemmas.Bool.{lt-ltb}
use Rattle.script.specs.declared.ending.Ending.TheVariants.{Finished}
use Rattle.script.specs.Answers.{with_text}
use Rattle.script.specs.Outcome.{Outcome, fault, fault_line}
use Rattle.line_answers.specs.AnsweringLaws.{ends_cut}
use Rattle.words.specs.declared.log_line.LogLine.{LogLine}
use Rattle.words.specs.declared.log_line.LogLine.TheVariants.{Half, Received, Other}
use Rattle.words.specs.LogLines.{log_line}
use Rattle.words.specs.LogAnswers.{pairs, halves_of, halves_answer, log_answer}
use Rattle.words.specs.Logs.{served, end_from}
use Rattle.words.specs.LogSteps.{answers_behind, ComesBehind}

-- nothing is written at the end of a log
no_text_left : (before : LogLine) → (log_answer (before ∷ [])).text ≡ []
unfolding pairs halves_of halves_answer log_answer
no_text_left (Half lo) = refl
no_text_left Received = refl
no_text_left Other = refl

pub nothing_left : (before : LogLine) (n : ℕ) → ComesBehind before n [] (record { text = []; ending = Some Finished })
unfolding served end_from
nothing_left before n = ap (λ text. with_text text (end_from n [])) (no_text_left before)

pub long_line : (before : LogLine) (n : ℕ) (line : List ℕ) (lines : List (List ℕ)) → 4096 < length line → ComesBehind before n (line ∷ lines) (fault n (codes "long line"))
unfolding served end_from
long_line before n line lines long =
    ap (λ is_long. with_text (log_answer (before ∷ cond is_long [] (log_line line ∷ served lines))).text
    (cond is_long (record { text = fault_line n (codes "long line"); is_good = false }) (end_from (n + 1) lines)))
    (lt-ltb 4096 (length line) long)
    ∙ ap (λ text. with_text text (record { text = fault_line n (codes "long line"); is_good = false })) (no_text_left before)

pub begins : (before : LogLine) (n : ℕ) (lines : List (List ℕ)) → ComesBehind before n lines (record { text = []; ending = None })
begins before n lines = ((answers_behind before n lines).text, refl)

pub cut : (before : LogLine) (n : ℕ) (lines : List (List ℕ)) (outcome : Outcome) (front rest : List ℕ) → ComesBehind before n lines outcome
    → outcome.text ≡ front ++ rest → ComesBehind before n lines (record { text = front; ending = None })
cut before n lines outcome front rest comes split = ends_cut (answers_behind before n lines) outcome.text front rest outcome.ending comes split
