-- What a step answers that found the unit neither stopped nor exhausted.
use Rattle.std.proofs.Common.{◌≡◌, Bool, false}
use Rattle.std.specs.Prelude.{IsTrue, ◌↔◌}

pub not_still : {still stopped : Type 0} (b : Bool) → (still → ⊥) → IsTrue b ↔ stopped → b ≡ false → still ↔ stopped
not_still b other told is = (λ s. absurd (other s), λ s. let yes = told.1 s in absurd (cc))

pub not_exhausted : {exhausted stopped all : Type 0} → (exhausted → ⊥) → (all → ⊥) → exhausted ↔ ((stopped → ⊥) × all)
not_exhausted other more = (λ e. absurd (other e), λ both. absurd (more both.1))
