-- An element of a list that another continues, and the first n of a list.
use Rattle.std.proofs.Common.{◌≡◌, ℕ, zero, suc, ◌<◌, List, [], ◌∷◌, ◌++◌, length, Some, refl, arith, ◌+◌, take, ap, ◌∙◌}
use Rattle.std.specs.Prelude.{slice_get}
use Rattle.std.proofs.lemmas.List.{take_more as take_more_or}
use Rattle.std.proofs.lemmas.Option.{slice_get_within, get_or_from_slice_get}

pub in_front : {A : Type 0} (xs ys : List A) (i : ℕ) → i < length xs → slice_get (xs ++ ys) i ≡ slice_get xs i
in_front [] ys i low = absurd (omega (arith, low))
in_front (x ∷ xs) ys zero low = refl
in_front (x ∷ xs) ys (suc i) low = in_front xs ys i (omega (arith, low))

pub at_end : {A : Type 0} (xs : List A) (y : A) (ys : List A) → slice_get (xs ++ y ∷ ys) (length xs) ≡ Some y
at_end [] y ys = refl
at_end (x ∷ xs) y ys = at_end xs y ys

-- ---- the first n

pub take_more : {A : Type 0} (xs : List A) (n : ℕ) (x : A) → slice_get xs n ≡ Some x → take (n + 1) xs ≡ take n xs ++ x ∷ []
take_more xs n x at = take_more_or xs n x (slice_get_within xs n x at) ∙ ap (λ y. take n xs ++ y ∷ []) (get_or_from_slice_get xs n x x at)

-- one of the first n, with those before and after it
pub split_at : {A : Type 0} (xs : List A) (i n : ℕ) (x : A) → i < n → slice_get xs i ≡ Some x → (behind : List A) × (take n xs ≡ take i xs ++ x ∷ behind)
split_at [] i n x low at = absurd (cc)
split_at (y ∷ xs) i zero x low at = absurd (omega (arith, low))
split_at (y ∷ xs) zero (suc n) x low at = let e : y ≡ x = cc in (take n xs, ap (λ z. z ∷ take n xs) e)
split_at (y ∷ xs) (suc i) (suc n) x low at =
    let rest = split_at xs i n x (omega (arith, low)) at in (rest.0, ap (λ l. y ∷ l) rest.1)
