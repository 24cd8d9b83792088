-- Facts of lists and tests that the laws use.
use Rattle.std.proofs.Common.{◌≡◌, ℕ, zero, suc, ◌+◌, ◌<◌, ◌≤◌, true, false, List, [], ◌∷◌, ◌++◌, length, map, Some, None, refl, sym, ap, ap₂, ◌∙◌, arith}
use Rattle.std.proofs.lemmas.Bool.{true≢false}
use Rattle.std.proofs.lemmas.Option.{slice_get_within, same_Some}
use Rattle.std.specs.Prelude.{slice_get}
use Rattle.ringcore.specs.world.Delivery.{Begins}

pub off : {X : Type 0} → false ≡ true → X
off e = absurd (true≢false (sym e))

pub none_some : {A X : Type 0} (x : A) → None ≡ Some x → X
none_some x e = absurd (cc)

-- ---- the i-th element

pub get_longer : {A : Type 0} (xs ys : List A) (i : ℕ) (x : A) → slice_get xs i ≡ Some x → slice_get (xs ++ ys) i ≡ Some x
get_longer [] ys i x e = none_some x e
get_longer (y ∷ xs) ys zero x e = e
get_longer (y ∷ xs) ys (suc i) x e = get_longer xs ys i x e

pub get_behind : {A : Type 0} (xs ys : List A) (i : ℕ) → slice_get (xs ++ ys) (length xs + i) ≡ slice_get ys i
get_behind [] ys i = ap (slice_get ys) (omega arith)
get_behind (x ∷ xs) ys i =
    let next : length (x ∷ xs) + i ≡ suc (length xs + i) = omega arith in ap (slice_get ((x ∷ xs) ++ ys)) next ∙ get_behind xs ys i

pub get_shorter : {A : Type 0} (xs ys : List A) (i : ℕ) → i < length xs → slice_get (xs ++ ys) i ≡ slice_get xs i
get_shorter [] ys i h = absurd (omega (arith, h))
get_shorter (x ∷ xs) ys zero h = refl
get_shorter (x ∷ xs) ys (suc i) h = get_shorter xs ys i (omega (arith, h))

pub get_map : {A B : Type 0} (f : A → B) (xs : List A) (i : ℕ) (x : A) → slice_get xs i ≡ Some x → slice_get (map f xs) i ≡ Some (f x)
get_map f [] i x e = none_some x e
get_map f (y ∷ xs) zero x e = ap (λ z. Some (f z)) (same_Some y x e)
get_map f (y ∷ xs) (suc i) x e = get_map f xs i x e

-- ---- beginnings

pub follows : {A : Type 0} (rest xs : List A) → ((i : ℕ) (x : A) → slice_get xs i ≡ Some x → slice_get rest i ≡ Some x) → Begins xs rest
follows rest [] f = (rest, refl)
follows [] (x ∷ xs) f = none_some x (f 0 x refl)
follows (y ∷ rest) (x ∷ xs) f =
    let more = follows rest xs (λ i z e. f (suc i) z e) in (more.0, ap₂ (λ z l. z ∷ l) (same_Some y x (f 0 x refl)) more.1)

pub get_begun : {A : Type 0} (xs ys : List A) → Begins xs ys → (i : ℕ) → i < length xs → slice_get ys i ≡ slice_get xs i
get_begun xs ys begins i h = ap (λ l. slice_get l i) begins.1 ∙ get_shorter xs begins.0 i h

-- The shorter of two beginnings of a list begins the longer.
pub begins_shorter : {A : Type 0} (xs ys whole : List A) → Begins xs whole → Begins ys whole → length xs ≤ length ys → Begins xs ys
begins_shorter xs ys whole x y le =
    follows ys xs (λ i z e.
    let inside : i < length xs = slice_get_within xs i z e in
    sym (get_begun ys whole y i (omega (arith, inside, le))) ∙ get_begun xs whole x i inside ∙ e)
