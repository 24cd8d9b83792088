-- At which line a run ended.
use Rattle.std.specs.Prelude.{◌≡◌, ℕ, ◌+◌, List, ◌∷◌, ◌++◌, Some, length}
use Rattle.script.specs.declared.ending.Ending.TheVariants.{Refused}
use Rattle.script.specs.Outcome.{Outcome}

-- One of the lines, numbered from `first`, ended the run, whatever follows it, and `is_last` holds of its number and
-- bytes.
pub record EndsAtLine (may : ℕ → List (List ℕ) → Outcome → Type 0) (is_last : ℕ → List ℕ → Type 0) (first : ℕ) (lines : List (List ℕ)) (outcome : Outcome) : Type 0 where
  pub before : List (List ℕ)
  pub line : List ℕ
  pub after : List (List ℕ)
  pub split : lines ≡ before ++ line ∷ after
  pub ends : (more : List (List ℕ)) → may first (before ++ line ∷ more) outcome
  pub last : is_last (first + length before) line

-- The same if a line ended the run, in the form of what lines may come to, so that it can be passed on as that.
abbrev pub EndsKnown : (ℕ → List (List ℕ) → Outcome → Type 0) → (ℕ → List ℕ → Type 0) → ℕ → List (List ℕ) → Outcome → Type 0
EndsKnown may is_last first lines outcome = outcome.ending ≡ Some Refused → EndsAtLine may is_last first lines outcome
