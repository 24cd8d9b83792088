-- One line after others.
use Rattle.std.proofs.Common.{◌≡◌, ℕ, ◌+◌, ◌≤◌, ◌&&◌, Bool, true, false, cond, List, [], ◌∷◌, ◌++◌, length, codes, ap, ap₂, sym, ◌∙◌, subst, refl}
use Rattle.std.proofs.lemmas.Bool.{le-ltb}
use Rattle.std.proofs.lemmas.List.Folds.{list_all-append}
use Rattle.script.specs.Answers.{Answer, with_text, EndsAs}
use Rattle.script.specs.Outcome.{Continues, fault_line}
use Rattle.script.proofs.AnswerLemmas.{ends_front}
use Rattle.line_answers.specs.LineAnswers.{LineAnswer}
use Rattle.line_answers.specs.Answering.{answers_from, Comes, all_good}

short_line : (answer_of : List ℕ → LineAnswer) (number : ℕ) (line : List ℕ) (lines : List (List ℕ)) → length line ≤ 4096
    → answers_from answer_of number (line ∷ lines) ≡ with_text (answer_of line).text (answers_from answer_of (number + 1) lines)
unfolding answers_from
short_line answer_of number line lines short =
    ap (λ t. cond t (record { text = fault_line number (codes "long line"); is_good = false }) (with_text (answer_of line).text (answers_from answer_of (number + 1) lines)))
    (le-ltb _ _ short)

pub continues : (answer_of : List ℕ → LineAnswer) (number : ℕ) (line before after : List ℕ) → length line ≤ 4096 → after ≡ before ++ (answer_of line).text
    → Continues (Comes answer_of) (Comes answer_of) number line before after
continues answer_of number line before after short text = record {
  answer = (answer_of line).text;
  text = text;
  rest = λ lines outcome comes.
      subst (λ (a : Answer). EndsAs a ((answer_of line).text ++ outcome.text) outcome.ending) (sym (short_line answer_of number line lines short))
      (ends_front (answer_of line).text (answers_from answer_of (number + 1) lines) outcome.text outcome.ending comes);
}

and_true : (b : Bool) → (b && true) ≡ b
and_true true = refl
and_true false = refl

-- one line more that is good or not
pub one_more : (answer_of : List ℕ → LineAnswer) (past : List (List ℕ)) (line : List ℕ)
    → all_good answer_of (past ++ line ∷ []) ≡ (all_good answer_of past && (answer_of line).is_good)
one_more answer_of past line =
    list_all-append (λ l. (answer_of l).is_good) past (line ∷ []) ∙ ap (λ b. all_good answer_of past && b) (and_true (answer_of line).is_good)

-- Answers that judge each line alike judge all lines alike.
pub judged_alike : (one other : List ℕ → LineAnswer) → ((line : List ℕ) → (one line).is_good ≡ (other line).is_good) → (lines : List (List ℕ))
    → all_good one lines ≡ all_good other lines
judged_alike one other alike [] = refl
judged_alike one other alike (line ∷ lines) = ap₂ (λ first rest. first && rest) (alike line) (judged_alike one other alike lines)
