-- What a search for a byte tells of the bytes before the place that it found.
use Rattle.std.proofs.Common.{◌≡◌, ℕ, suc, ◌<◌, ◌≤◌, ◌==◌, Bool, true, false, List, ◌∷◌, length, get_or, refl, arith, Option, Some, None, unwrap_or}
use Rattle.memchr.specs.Find.{IsFirstByte, is_byte}

-- no byte before place k is b
abbrev pub NoneBefore : ℕ → List ℕ → ℕ → Type 0
NoneBefore b xs k = (i : ℕ) → i < k → get_or xs i 0 == b ≡ true → ⊥

pub not_true : (b : Bool) → (b ≡ true → ⊥) → b ≡ false
not_true true h = absurd (h refl)
not_true false h = refl

-- the same of the bytes after the first
pub none_before_tail : (b x : ℕ) (xs : List ℕ) (k : ℕ) → NoneBefore b (x ∷ xs) (suc k) → NoneBefore b xs k
none_before_tail b x xs k h i low e = h (suc i) (omega arith) e

-- the place that a search found, or the end
pub found_or_end : (b : ℕ) (xs : List ℕ) (r : Option ℕ) (k : ℕ) → IsFirstByte (is_byte b) xs r → k ≡ unwrap_or r (length xs)
    → NoneBefore b xs k × (k ≤ length xs) × (k < length xs → get_or xs k 0 == b ≡ true)
found_or_end b xs None k h e = (λ i low. h i (omega arith) (omega arith), omega arith, λ inside. absurd (omega arith))
found_or_end b xs (Some j) k h e =
    (λ i low. h.0.before i (omega arith) (omega arith), (let inside = h.0.high in omega arith), λ inside. rw e h.1)
