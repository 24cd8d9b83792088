-- One line of a log behind others.
use Rattle.std.proofs.Common.{◌≡◌, ℕ, ◌+◌, ◌≤◌, ◌&&◌, Bool, true, false, cond, not, List, [], ◌∷◌, ◌++◌, map, length, codes, ap, sym, ◌∙◌, subst, refl, append_assoc}
use Rattle.std.proofs.Math.Bool.{and_assoc}
use Rattle.std.proofs.lemmas.Bool.{le-ltb}
use Rattle.std.proofs.lemmas.List.{map-append}
use Rattle.decode.specs.CommandText.{words_text}
use Rattle.script.specs.Answers.{Answer, with_text, EndsAs}
use Rattle.script.specs.Outcome.{Continues, fault_line}
use Rattle.script.proofs.AnswerLemmas.{ends_front}
use Rattle.script.proofs.MayLemmas.{Implies}
use Rattle.line_answers.specs.LineAnswers.{LineAnswer}
use Rattle.words.specs.declared.log_line.LogLine.{LogLine}
use Rattle.words.specs.declared.log_line.LogLine.TheVariants.{Half, Received, Other}
use Rattle.words.specs.LineAnswers.{told, bad_line}
use Rattle.words.specs.LogLines.{last_or, log_line}
use Rattle.words.specs.LogAnswers.{followed_by, pairs, halves_of, halves_answer, log_answer}
use Rattle.words.specs.Logs.{served, end_from, Comes}
use Rattle.words.specs.LogSteps.{is_half, answer_behind, counted_behind, answers_behind, ComesBehind, AreJudged}

-- ---- the last word

pub last_of_none : (word : List ℕ) → last_or word [] ≡ word
unfolding last_or
last_of_none word = refl

pub last_of_more : (word next : List ℕ) (words : List (List ℕ)) → last_or word (next ∷ words) ≡ last_or next words
unfolding last_or
last_of_more word next words = refl

-- ---- the answer to a line and to those after it

followed_by_both : (a b c : LineAnswer) → followed_by (followed_by a b) c ≡ followed_by a (followed_by b c)
followed_by_both a b c =
    ap (λ text. record { text = text; is_good = (a.is_good && b.is_good) && c.is_good }) (append_assoc a.text b.text c.text)
    ∙ ap (λ is_good. record { text = a.text ++ (b.text ++ c.text); is_good = is_good }) (and_assoc a.is_good b.is_good c.is_good)

first_pair : (lo hi : ℕ) (halves : List ℕ) (later : List (List ℕ))
    → halves_answer (lo ∷ hi ∷ halves) later ≡ followed_by (told (words_text (record { lo = lo; hi = hi }))) (halves_answer halves later)
unfolding pairs halves_answer
first_pair lo hi halves [] = refl
first_pair lo hi halves (next ∷ later) = followed_by_both (told (words_text (record { lo = lo; hi = hi }))) (pairs bad_line halves) (halves_answer next later)

pub one_step : (before line : LogLine) (more : List LogLine)
    → log_answer (before ∷ line ∷ more) ≡ followed_by (answer_behind before line) (log_answer (counted_behind before line ∷ more))
unfolding pairs halves_of halves_answer log_answer
one_step (Half lo) (Half hi) more = first_pair lo hi (halves_of more).first (halves_of more).later
one_step (Half lo) Received more = refl
one_step (Half lo) Other more = refl
one_step Received (Half word) more = refl
one_step Received Received more = refl
one_step Received Other more = refl
one_step Other (Half half) more = refl
one_step Other Received more = refl
one_step Other Other more = refl

short_line : (before : LogLine) (number : ℕ) (line : List ℕ) (lines : List (List ℕ)) → length line ≤ 4096
    → answers_behind before number (line ∷ lines)
    ≡ with_text (answer_behind before (log_line line)).text (answers_behind (counted_behind before (log_line line)) (number + 1) lines)
unfolding served end_from
short_line before number line lines short =
    let left = log_answer (counted_behind before (log_line line) ∷ served lines) in
    ap (λ is_long. with_text (log_answer (before ∷ cond is_long [] (log_line line ∷ served lines))).text
    (cond is_long (record { text = fault_line number (codes "long line"); is_good = false }) (end_from (number + 1) lines)))
    (le-ltb _ _ short)
    ∙ ap (λ (a : LineAnswer). with_text a.text (end_from (number + 1) lines)) (one_step before (log_line line) (served lines))
    ∙ ap (λ text. record { text = text; is_good = (end_from (number + 1) lines).is_good })
    (append_assoc (answer_behind before (log_line line)).text left.text (end_from (number + 1) lines).text)

continues_line : (before : LogLine) (number : ℕ) (line old new : List ℕ) → length line ≤ 4096 → new ≡ old ++ (answer_behind before (log_line line)).text
    → Continues (ComesBehind before) (ComesBehind (counted_behind before (log_line line))) number line old new
continues_line before number line old new short text = record {
  answer = (answer_behind before (log_line line)).text;
  text = text;
  rest = λ lines outcome comes.
      subst (λ (a : Answer). EndsAs a ((answer_behind before (log_line line)).text ++ outcome.text) outcome.ending) (sym (short_line before number line lines short))
      (ends_front (answer_behind before (log_line line)).text (answers_behind (counted_behind before (log_line line)) (number + 1) lines) outcome.text outcome.ending comes);
}

-- what the code found the line to be, and how it counts
pub continues : (before found after : LogLine) (number : ℕ) (line old new : List ℕ) → found ≡ log_line line → after ≡ counted_behind before found → length line ≤ 4096
    → new ≡ old ++ (answer_behind before found).text → Continues (ComesBehind before) (ComesBehind after) number line old new
continues before found after number line old new is counts short text =
    subst (λ b. Continues (ComesBehind before) (ComesBehind b) number line old new) (sym (counts ∙ ap (counted_behind before) is))
    (continues_line before number line old new short (text ∙ ap (λ l. old ++ (answer_behind before l).text) is))

-- ---- whether lines are good

one_more : (past : List (List ℕ)) (line : List ℕ) (more : List LogLine) → map log_line (past ++ line ∷ []) ++ more ≡ map log_line past ++ log_line line ∷ more
one_more past line more = ap (λ lines. lines ++ more) (map-append log_line past (line ∷ [])) ∙ append_assoc (map log_line past) (log_line line ∷ []) more

judged_line : (good : Bool) (before : LogLine) (past : List (List ℕ)) (line : List ℕ) → AreJudged good before past
    → AreJudged (good && (answer_behind before (log_line line)).is_good) (counted_behind before (log_line line)) (past ++ line ∷ [])
judged_line good before past line judged more =
    ap (λ lines. (log_answer lines).is_good) (one_more past line more)
    ∙ judged (log_line line ∷ more)
    ∙ ap (λ (a : LineAnswer). good && a.is_good) (one_step before (log_line line) more)
    ∙ sym (and_assoc good (answer_behind before (log_line line)).is_good (log_answer (counted_behind before (log_line line) ∷ more)).is_good)

pub judged_on : (good after_good : Bool) (before found after : LogLine) (past : List (List ℕ)) (line : List ℕ) → found ≡ log_line line → after ≡ counted_behind before found
    → after_good ≡ (good && (answer_behind before found).is_good) → AreJudged good before past → AreJudged after_good after (past ++ line ∷ [])
judged_on good after_good before found after past line is counts judges judged =
    subst (λ g. AreJudged g after (past ++ line ∷ [])) (sym (judges ∙ ap (λ l. good && (answer_behind before l).is_good) is))
    (subst (λ b. AreJudged (good && (answer_behind before (log_line line)).is_good) b (past ++ line ∷ [])) (sym (counts ∙ ap (counted_behind before) is))
    (judged_line good before past line judged))

pub judged_first : AreJudged true Other []
unfolding pairs halves_of halves_answer log_answer
judged_first more = refl

-- ---- the first line, and the last

pub comes_first : (before : LogLine) → before ≡ Other → Implies (ComesBehind before) Comes
unfolding pairs halves_of halves_answer log_answer
comes_first before first number lines outcome comes = subst (λ b. ComesBehind b number lines outcome) first comes

pub good_last : (before : LogLine) → (log_answer (before ∷ [])).is_good ≡ not (is_half before)
unfolding pairs halves_of halves_answer log_answer
good_last (Half lo) = refl
good_last Received = refl
good_last Other = refl
