-- What is done by an effect that is known, or by the same effect under another name.
use Rattle.std.proofs.Common.{◌≡◌, ℕ, Bool, true, false, List, [], ◌++◌, ap, sym, ◌∙◌, Option, Some, None, subst, append-nil}
use Rattle.script.specs.Outcome.{fault_line}
use Rattle.script.specs.Effects.{Effect, faults}
use Rattle.script.specs.Standing.{StandsAt, Produces, Acts, ActsAt}

module _ {Kept State : Type 0} (Stands : Kept → State → Type 0) where
  -- an effect that is known, with memory running out or not
  pub produces_at : (effect : Bool → Effect State) (new : Option Kept) (wanting : Bool) (known : Effect State) → effect wanting ≡ known
      → (known.goes_on ≡ true → StandsAt Stands new known.state) → Produces Stands effect new known.text known.goes_on
  produces_at effect new wanting known e stands = record {
    wanting = wanting;
    text = ap (λ (x : Effect State). x.text) e;
    ending = ap (λ (x : Effect State). x.goes_on) e;
    after = λ on. subst (λ (x : Effect State). StandsAt Stands new x.state) (sym e) (stands on);
  }

  -- the same effect by another name
  produces_same : (effect known : Bool → Effect State) (new : Option Kept) (answer : List ℕ) (goes_on : Bool) → ((wanting : Bool) → effect wanting ≡ known wanting)
      → Produces Stands known new answer goes_on → Produces Stands effect new answer goes_on
  produces_same effect known new answer goes_on same p = record {
    wanting = p.wanting;
    text = ap (λ (x : Effect State). x.text) (same p.wanting) ∙ p.text;
    ending = ap (λ (x : Effect State). x.goes_on) (same p.wanting) ∙ p.ending;
    after = λ on. subst (λ (x : Effect State). StandsAt Stands new x.state) (sym (same p.wanting)) (p.after on);
  }

  pub acts_same_at : (effect known : Bool → Option State → Effect State) (old new : Option Kept) (before after : List ℕ) (goes_on : Bool)
      → ((wanting : Bool) (state : Option State) → effect wanting state ≡ known wanting state) → ActsAt Stands known old new before after goes_on
      → ActsAt Stands effect old new before after goes_on
  acts_same_at effect known old new before after goes_on same acts = record {
    answer = acts.answer;
    text = acts.text;
    produces = λ state s.
        produces_same (λ wanting. effect wanting state) (λ wanting. known wanting state) new acts.answer goes_on (λ wanting. same wanting state) (acts.produces state s);
  }

  -- ---- once the ring is made

  pub fault_told : (effect : Bool → State → Effect State) (old new : Kept) (number : ℕ) (name before after : List ℕ)
      → ((state : State) → Stands old state → effect false state ≡ faults number name (Some state)) → after ≡ before ++ fault_line number name
      → Acts Stands effect old new before after false
  fault_told effect old new number name before after e text = record {
    answer = fault_line number name;
    text = text;
    produces = λ state s. produces_at (λ wanting. effect wanting state) (Some new) false (faults number name (Some state)) (e state s) (λ on. absurd cc);
  }

  -- ---- before

  pub nothing_first : (effect : Effect State) (kept : Option Kept) (text : List ℕ) → kept ≡ None → effect ≡ record { text = []; state = None; goes_on = true }
      → ActsAt Stands (λ wanting state. effect) None kept text text true
  nothing_first effect kept text none e = record {
    answer = [];
    text = sym (append-nil text);
    produces = λ state s. produces_at (λ wanting. effect) kept false (record { text = []; state = None; goes_on = true }) e (λ on. subst (λ m. StandsAt Stands m None) (sym none) tt);
  }
