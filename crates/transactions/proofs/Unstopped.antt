-- What a step answers that found a tracked unit neither stopped nor exhausted, by what its unit answered.
use Rattle.std.proofs.Common.{◌≡◌, ℕ, Bool, false, ap, subst, ◌∙◌}
use Rattle.std.specs.Prelude.{IsTrue, ◌↔◌}
use Rattle.ringcore.specs.Limits.{most_reserved}
use Rattle.engine.specs.Counting.{CountsValue, taken}
use Rattle.engine.specs.Engines.{IsExhausted}
use Rattle.engine.specs.Stops.{IsStopped}
use Rattle.engine.specs.Units.{UnitValue}
use Rattle.engine.proofs.Unstopped.{not_still, not_exhausted}

pub goes_on : {still : Type 0} (unit asked : UnitValue) (b : Bool) → asked ≡ unit → (still → ⊥) → IsTrue b ↔ IsStopped asked.stop.mode → b ≡ false → still ↔ IsStopped unit.stop.mode
goes_on {still = still} unit asked b is other told runs = subst (λ (u : UnitValue). still ↔ IsStopped u.stop.mode) is (not_still b other told runs)

pub has_more : {exhausted : Type 0} (unit asked : UnitValue) (counts : CountsValue) (n : ℕ) → asked ≡ unit → counts ≡ asked.counts → n ≡ taken counts → (exhausted → ⊥) → (n ≡ most_reserved → ⊥)
    → exhausted ↔ IsExhausted unit
has_more unit asked counts n is counts_are n_is other more = not_exhausted other (λ most. more (n_is ∙ ap taken counts_are ∙ ap (λ (u : UnitValue). taken u.counts) is ∙ most))
