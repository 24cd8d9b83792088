-- From what a request does before the ring is made, or after, to what it does, and then the line.
use Rattle.std.proofs.Common.{◌≡◌, ℕ, ◌≤◌, Bool, false, cond, List, ◌++◌, length, ap, sym, ◌∙◌, Option, Some, None, subst, codes}
use Rattle.std.proofs.lemmas.Bool.{le-ltb}
use Rattle.script.specs.Outcome.{fault_line}
use Rattle.script.specs.Effects.{faults}
use Rattle.script.specs.Kinds.{Kind, request_of, request_effect, asked_effect, line_effect}
use Rattle.script.specs.Standing.{StandsAt, Produces, Acts, ActsAt}
use Rattle.script.proofs.EffectLemmas.{produces_at, acts_same_at}

short_line : {State Request : Type 0} → (kind : Kind State Request) (number : ℕ) (line : List ℕ) (asked : Option Request) → length line ≤ 4096 → asked ≡ request_of kind line → (wanting : Bool) (state : Option State)
    → line_effect kind number wanting line state ≡ asked_effect kind number wanting asked state
unfolding line_effect
short_line kind number line asked short e wanting state =
    ap (λ t. cond t (faults number (codes "long line") state) (asked_effect kind number wanting (request_of kind line) state)) (le-ltb 4096 (length line) short)
    ∙ ap (λ r. asked_effect kind number wanting r state) (sym e)

module _ {Kept State Request : Type 0} (kind : Kind State Request) (Stands : Kept → State → Type 0) where
  -- once the ring is made
  pub acts_after : (number : ℕ) (request : Request) (at : Option Kept) (old new : Kept) (before after : List ℕ) (goes_on : Bool) → at ≡ Some old
      → Acts Stands (λ wanting. kind.served number wanting request) old new before after goes_on
      → ActsAt Stands (λ wanting state. request_effect kind number wanting request state) at (Some new) before after goes_on
  unfolding request_effect
  acts_after number request at old new before after goes_on e acts = record {
    answer = acts.answer;
    text = acts.text;
    produces = λ state s. by_state state (subst (λ m. StandsAt Stands m state) e s);
  }
    where
      by_state : (state : Option State) → StandsAt Stands (Some old) state → Produces Stands (λ wanting. request_effect kind number wanting request state) (Some new) acts.answer goes_on
      by_state None s = absurd s
      by_state (Some state) s = acts.produces state s

  -- before
  pub acts_first : (number : ℕ) (request : Request) (at new : Option Kept) (before after : List ℕ) (goes_on : Bool) → at ≡ None
      → ActsAt Stands (λ wanting state. kind.first_served number request) None new before after goes_on
      → ActsAt Stands (λ wanting state. request_effect kind number wanting request state) at new before after goes_on
  unfolding request_effect
  acts_first number request at new before after goes_on e acts = record {
    answer = acts.answer;
    text = acts.text;
    produces = λ state s. by_state state (subst (λ m. StandsAt Stands m state) e s);
  }
    where
      by_state : (state : Option State) → StandsAt Stands None state → Produces Stands (λ wanting. request_effect kind number wanting request state) new acts.answer goes_on
      by_state None s = acts.produces None tt
      by_state (Some state) s = absurd s

  pub line_acts : (number : ℕ) (line : List ℕ) (request : Request) (old new : Option Kept) (before after : List ℕ) (goes_on : Bool) → length line ≤ 4096 → Some request ≡ request_of kind line
      → ActsAt Stands (λ wanting state. request_effect kind number wanting request state) old new before after goes_on
      → ActsAt Stands (λ wanting state. line_effect kind number wanting line state) old new before after goes_on
  line_acts number line request old new before after goes_on short e acts =
      acts_same_at Stands (λ wanting state. line_effect kind number wanting line state) (λ wanting state. request_effect kind number wanting request state) old new before after goes_on
      (short_line kind number line (Some request) short e) acts

  pub bad_line : (number : ℕ) (line : List ℕ) (old : Option Kept) (before after : List ℕ) → length line ≤ 4096 → None ≡ request_of kind line
      → after ≡ before ++ fault_line number (codes "bad line") → ActsAt Stands (λ wanting state. line_effect kind number wanting line state) old old before after false
  bad_line number line old before after short e text = record {
    answer = fault_line number (codes "bad line");
    text = text;
    produces = λ state s.
        produces_at Stands (λ wanting. line_effect kind number wanting line state) old false (faults number (codes "bad line") state)
        (short_line kind number line None short e false state) (λ on. absurd cc);
  }
