-- What crate script asks of those who serve lines.
use Rattle.std.specs.Prelude.{◌≡◌, ℕ, ◌+◌, ◌<◌, List, [], ◌∷◌, ◌++◌, false, cond, Option, Some, None, length, codes, refl}
use Rattle.std.proofs.Common.{ap, ◌∙◌, append_assoc}
use Rattle.std.proofs.lemmas.Bool.{lt-ltb}
use Rattle.script.specs.declared.ending.Ending.{Ending}
use Rattle.script.specs.declared.ending.Ending.TheVariants.{Finished, Refused}
use Rattle.script.specs.Answers.{Answer, with_text, EndsAs}
use Rattle.script.specs.Outcome.{Outcome, fault, fault_line}
use Rattle.line_answers.specs.LineAnswers.{LineAnswer}
use Rattle.line_answers.specs.Answering.{answers_from, Comes}

pub nothing_left : (answer_of : List ℕ → LineAnswer) (n : ℕ) → Comes answer_of n [] (record { text = []; ending = Some Finished })
unfolding answers_from
nothing_left answer_of n = refl

pub long_line : (answer_of : List ℕ → LineAnswer) (n : ℕ) (line : List ℕ) (lines : List (List ℕ)) → 4096 < length line
    → Comes answer_of n (line ∷ lines) (fault n (codes "long line"))
unfolding answers_from
long_line answer_of n line lines long =
    ap (λ t. cond t (record { text = fault_line n (codes "long line"); is_good = false }) (with_text (answer_of line).text (answers_from answer_of (n + 1) lines)))
    (lt-ltb 4096 (length line) long)

pub begins : (answer_of : List ℕ → LineAnswer) (n : ℕ) (lines : List (List ℕ)) → Comes answer_of n lines (record { text = []; ending = None })
begins answer_of n lines = ((answers_from answer_of n lines).text, refl)

pub ends_cut : (answer : Answer) (text front rest : List ℕ) (ending : Option Ending) → EndsAs answer text ending → text ≡ front ++ rest → EndsAs answer front None
ends_cut answer text front rest (Some Finished) e split = (rest, ap (λ (a : Answer). a.text) e ∙ split)
ends_cut answer text front rest (Some Refused) e split = (rest, ap (λ (a : Answer). a.text) e ∙ split)
ends_cut answer text front rest None e split = (rest ++ e.0, e.1 ∙ ap (λ t. t ++ e.0) split ∙ append_assoc front rest e.0)

pub cut : (answer_of : List ℕ → LineAnswer) (n : ℕ) (lines : List (List ℕ)) (outcome : Outcome) (front rest : List ℕ) → Comes answer_of n lines outcome
    → outcome.text ≡ front ++ rest → Comes answer_of n lines (record { text = front; ending = None })
cut answer_of n lines outcome front rest comes split = ends_cut (answers_from answer_of n lines) outcome.text front rest outcome.ending comes split
