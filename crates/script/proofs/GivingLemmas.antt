-- From what a line does to what it and the lines after it may come to.
use Rattle.std.proofs.Common.{◌≡◌, ℕ, ◌+◌, Bool, true, false, cond, List, [], ◌∷◌, ◌++◌, length, refl, ap, sym, ◌∙◌, Option, Some, None, subst, codes}
use Rattle.std.specs.Prelude.{nat_lt, IfSome}
use Rattle.script.specs.Outcome.{Continues, Ends}
use Rattle.script.specs.Answers.{Answer, with_text, EndsAs}
use Rattle.script.specs.Effects.{Effect, faults}
use Rattle.script.specs.Kinds.{Kind, HasNoChoice, request_of, request_effect, asked_effect, line_effect, after_effect, first_choice, later_choice, answer_from, AllHold}
use Rattle.script.specs.Standing.{StandsAt, ActsAt}
use Rattle.script.specs.declared.ending.Ending.{Ending}
use Rattle.script.specs.Giving.{MayAnswer, MayGive, Answers, HeldThroughout, Holds}
use Rattle.script.proofs.AnswerLemmas.{ends_front}
use Rattle.script.proofs.MayLemmas.{Implies}

-- ---- the answer to a line and to those after it

goes_on : {State : Type 0} (effect : Effect State) (rest : Option State → Answer) (text : List ℕ) → effect.text ≡ text → effect.goes_on ≡ true → after_effect effect rest ≡ with_text text (rest effect.state)
goes_on effect rest text t on =
    ap (λ b. cond b (with_text effect.text (rest effect.state)) (record { text = effect.text; is_good = false })) on ∙ ap (λ x. with_text x (rest effect.state)) t

is_over : {State : Type 0} (effect : Effect State) (rest : Option State → Answer) (text : List ℕ) → effect.text ≡ text → effect.goes_on ≡ false
    → after_effect effect rest ≡ record { text = text; is_good = false }
is_over effect rest text t off =
    ap (λ b. cond b (with_text effect.text (rest effect.state)) (record { text = effect.text; is_good = false })) off ∙ ap (λ x. record { text = x; is_good = false }) t

-- ---- if no request looks at the choice

asked_alike : {State Request : Type 0} → (kind : Kind State Request) → HasNoChoice kind → (number : ℕ) (wanting : Bool) (asked : Option Request) (state : Option State)
    → asked_effect kind number wanting asked state ≡ asked_effect kind number false asked state
unfolding request_effect
asked_alike kind alike number wanting None state = refl
asked_alike kind alike number wanting (Some request) None = refl
asked_alike kind alike number wanting (Some request) (Some state) = alike number wanting request state

line_alike : {State Request : Type 0} → (kind : Kind State Request) → HasNoChoice kind → (number : ℕ) (wanting : Bool) (line : List ℕ) (state : Option State)
    → line_effect kind number wanting line state ≡ line_effect kind number false line state
unfolding line_effect
line_alike kind alike number wanting line state =
    ap (λ effect. cond (nat_lt 4096 (length line)) (faults number (codes "long line") state) effect) (asked_alike kind alike number wanting (request_of kind line) state)

-- every choice comes to the same answer
one_answer : {State Request : Type 0} → (kind : Kind State Request) → HasNoChoice kind → (number : ℕ) (choice : List Bool) (state : Option State) (lines : List (List ℕ))
    → answer_from kind number choice state lines ≡ answer_from kind number [] state lines
unfolding answer_from
one_answer kind alike number choice state [] = refl
one_answer kind alike number choice state (line ∷ lines) =
    let effect = line_effect kind number false line state in
    ap (λ e. after_effect e (λ left. answer_from kind (number + 1) (later_choice choice) left lines)) (line_alike kind alike number (first_choice choice) line state)
    ∙ ap (λ a. cond effect.goes_on (with_text effect.text a) (record { text = effect.text; is_good = false })) (one_answer kind alike (number + 1) (later_choice choice) effect.state lines)

-- ---- what held

held_on : {State Request : Type 0} → (kind : Kind State Request) (number : ℕ) (wanting : Bool) (choice : List Bool) (state : Option State) (line : List ℕ) (lines : List (List ℕ)) (ending : Option Ending)
    → IfSome (line_effect kind number wanting line state).state kind.holds → HeldThroughout kind (number + 1) choice (line_effect kind number wanting line state).state lines ending
    → HeldThroughout kind number (wanting ∷ choice) state (line ∷ lines) ending
unfolding AllHold
held_on kind number wanting choice state line lines None now later = tt
held_on kind number wanting choice state line lines (Some ending) now later = λ on. (now, later)

held_over : {State Request : Type 0} → (kind : Kind State Request) (number : ℕ) (wanting : Bool) (state : Option State) (line : List ℕ) (lines : List (List ℕ))
    → (line_effect kind number wanting line state).goes_on ≡ false → AllHold kind number (wanting ∷ []) state (line ∷ lines)
unfolding AllHold
held_over kind number wanting state line lines off = λ on. let no : false ≡ true = sym off ∙ on in absurd cc

-- ---- what is given

module _ {Kept State Request : Type 0} (kind : Kind State Request) (Stands : Kept → State → Type 0) where
  pub continues : (old new : Option Kept) (number : ℕ) (line before after : List ℕ) (on : Bool) → ActsAt Stands (λ wanting state. line_effect kind number wanting line state) old new before after on
      → Holds kind Stands new → on ≡ true → Continues (MayGive kind Stands old) (MayGive kind Stands new) number line before after
  unfolding answer_from
  continues old new number line before after on acts held is_on = record {
    answer = acts.answer;
    text = acts.text;
    rest = λ lines outcome may state stands.
        let done = acts.produces state stands in
        let effect = line_effect kind number done.wanting line state in
        let stand = done.after is_on in
        let later = may effect.state stand in (
          done.wanting ∷ later.0,
          subst (λ (a : Answer). EndsAs a (acts.answer ++ outcome.text) outcome.ending)
              (sym (goes_on effect (λ left. answer_from kind (number + 1) later.0 left lines) acts.answer done.text (done.ending ∙ is_on)))
              (ends_front acts.answer (answer_from kind (number + 1) later.0 effect.state lines) outcome.text outcome.ending later.1),
          held_on kind number done.wanting later.0 state line lines outcome.ending (held effect.state stand) later.2,
        );
  }

  pub ends : (old new : Option Kept) (number : ℕ) (line before after : List ℕ) (on : Bool) → ActsAt Stands (λ wanting state. line_effect kind number wanting line state) old new before after on
      → on ≡ false → Ends (MayGive kind Stands old) number line before after
  unfolding answer_from
  ends old new number line before after on acts is_off = record {
    answer = acts.answer;
    text = acts.text;
    rest = λ lines state stands.
        let done = acts.produces state stands in
        let off = done.ending ∙ is_off in (
          done.wanting ∷ [],
          is_over (line_effect kind number done.wanting line state) (λ left. answer_from kind (number + 1) [] left lines) acts.answer done.text off,
          held_over kind number done.wanting state line lines off,
        );
  }

  -- What is given before a ring is made is what a script may come to.
  pub may_come : (kept : Option Kept) → kept ≡ None → Implies (MayGive kind Stands kept) (MayAnswer kind)
  may_come kept none number lines outcome may = may None (subst (λ m. StandsAt Stands m None) (sym none) tt)

-- And what it comes to, if no request looks at the choice.
pub answers_come : {State Request : Type 0} → (kind : Kind State Request) → HasNoChoice kind → Implies (MayAnswer kind) (Answers kind)
answers_come kind alike number lines outcome may =
    subst (λ (a : Answer). EndsAs a outcome.text outcome.ending) (one_answer kind alike number may.0 None lines) may.1
