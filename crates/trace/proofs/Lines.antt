-- One line of a log, and those after it.
use Rattle.std.proofs.Common.{◌≡◌, ℕ, ◌+◌, List, [], ◌∷◌, ◌++◌, Bool, true, false, Option, Some, None, inl, inr, refl, ap, sym, subst, append_assoc}
use Rattle.ringcore.specs.world.World.{Taken}
use Rattle.script.specs.declared.ending.Ending.{Ending}
use Rattle.script.specs.declared.ending.Ending.TheVariants.{Refused}
use Rattle.script.specs.Outcome.{Continues, Ends}
use Rattle.script.proofs.MayLemmas.{Implies}
use Rattle.trace.specs.declared.reply.Reply.{Reply}
use Rattle.trace.specs.Replies.{reply_text}
use Rattle.trace.specs.Traces.{TraceValue}
use Rattle.trace.specs.Logs.{IsAnswered, Comes, EndsSo, MayTell, Gives, AnswersLine, IsLineAnswer, IsNew}

module _ (taken more : List Taken) (old new : TraceValue) (number : ℕ) (line answer : List ℕ) (said : Reply)
    (answered : IsAnswered taken line old said new more) (is : answer ≡ reply_text said) where
  first_of : (lines : List (List ℕ)) (text : List ℕ) (ending : Ending) → Comes (taken ++ more) new (number + 1) lines text ending
      → Comes taken old number (line ∷ lines) (answer ++ text) ending
  unfolding Comes
  first_of lines text ending comes = inl (said, new, more, text, answered, ap (λ (t : List ℕ). t ++ text) is, comes)

  goes_on : (lines : List (List ℕ)) (text : List ℕ) (ending : Option Ending) → EndsSo (taken ++ more) new (number + 1) lines text ending
      → EndsSo taken old number (line ∷ lines) (answer ++ text) ending
  goes_on lines text (Some ending) comes = first_of lines text ending comes
  goes_on lines text None (first, later, rest, ending, split, comes) = (
    line ∷ first,
    later,
    rest,
    ending,
    ap (λ (l : List (List ℕ)). line ∷ l) split,
    subst (λ (t : List ℕ). Comes taken old number (line ∷ first) t ending) (sym (append_assoc answer text rest)) (first_of first (text ++ rest) ending comes),
  )

pub continues : (number : ℕ) (line : List ℕ) (old new : TraceValue) (before after : List ℕ) (on : Bool) → IsLineAnswer number line old new before after on → on ≡ true
    → Continues (Gives (Some old)) (Gives (Some new)) number line before after
continues number line old new before after false a on = absurd cc
continues number line old new before after true a on = record {
  answer = a.answer;
  text = a.text;
  rest = λ lines outcome gives taken is.
      let said = a.answers taken is in
      goes_on taken said.1 old new number line a.answer said.0 said.2 said.3 lines outcome.text outcome.ending (gives (taken ++ said.1) said.4);
}

ended : (taken : List Taken) (old : TraceValue) (number : ℕ) (line answer : List ℕ) (new : TraceValue) → AnswersLine number line old new answer false
    → (lines : List (List ℕ)) → Comes taken old number (line ∷ lines) answer Refused
unfolding Comes
ended taken old number line answer new (name, why, is) lines = inr (name, why, is, refl)

pub ends : (number : ℕ) (line : List ℕ) (old new : TraceValue) (before after : List ℕ) (on : Bool) → IsLineAnswer number line old new before after on → on ≡ false
    → Ends (Gives (Some old)) number line before after
ends number line old new before after true a off = absurd cc
ends number line old new before after false a off = record {
  answer = a.answer;
  text = a.text;
  rest = λ lines taken is. ended taken old number line a.answer new a.answers lines;
}

-- before the first line
pub comes_first : (t : Option TraceValue) → IsNew t → Implies (Gives t) MayTell
comes_first None new number lines outcome gives = gives
comes_first (Some t) new number lines outcome gives =
    subst (λ (x : TraceValue). EndsSo [] x number lines outcome.text outcome.ending) new.0 (gives [] new.1)
