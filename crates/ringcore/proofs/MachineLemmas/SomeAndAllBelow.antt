-- Some and all of the numbers below a bound, as told by a list's elements.
use Rattle.std.proofs.Common.{◌≡◌, ℕ, zero, suc, ◌+◌, ◌<◌, ◌≤◌, Bool, true, false, ◌||◌, ◌&&◌, List, [], ◌∷◌, Some, None, length, take, drop, refl, sym, ap, ap₂, ◌∙◌, inl, inr, arith}
use Rattle.std.proofs.Math.Bool.{or-true}
use Rattle.std.proofs.lemmas.List.{length-drop, get_or-drop}
use Rattle.std.proofs.lemmas.Bool.{cases_lt}
use Rattle.std.specs.Prelude.{slice_index_or, if◌then◌else◌}
use Rattle.std.specs.List.{list_any, list_all}
use Rattle.ringcore.specs.machine.Open.{some_below, all_below, first_below}

or_swap : (a b c : Bool) → (a || (b || c)) ≡ (b || (a || c))
or_swap true true c = refl
or_swap true false c = refl
or_swap false true c = refl
or_swap false false c = refl

and_swap : (a b c : Bool) → (a && (b && c)) ≡ (b && (a && c))
and_swap true true c = refl
and_swap true false c = refl
and_swap false true c = refl
and_swap false false c = refl

some_first : (n : ℕ) (f : ℕ → Bool) → some_below (suc n) f ≡ (f 0 || some_below n (λ k. f (suc k)))
some_first zero f = refl
some_first (suc n) f = ap (λ v. f (suc n) || v) (some_first n f) ∙ or_swap (f (suc n)) (f 0) (some_below n (λ k. f (suc k)))

all_first : (n : ℕ) (f : ℕ → Bool) → all_below (suc n) f ≡ (f 0 && all_below n (λ k. f (suc k)))
all_first zero f = refl
all_first (suc n) f = ap (λ v. f (suc n) && v) (all_first n f) ∙ and_swap (f (suc n)) (f 0) (all_below n (λ k. f (suc k)))

module _ {A : Type 0} (p : A → Bool) (d : A) where
  any_below : (xs : List A) (n : ℕ) (f : ℕ → Bool) → n ≤ length xs → ((k : ℕ) → k < n → p (slice_index_or xs k d) ≡ f k)
      → list_any p (take n xs) ≡ some_below n f
  any_below xs zero f within is = refl
  any_below [] (suc n) f within is = absurd (omega (arith, within))
  any_below (x ∷ xs) (suc n) f within is =
      ap₂ (λ a b. a || b) (is 0 (omega arith)) (any_below xs n (λ k. f (suc k)) (omega (arith, within)) (λ k low. is (suc k) (omega (arith, low))))
      ∙ sym (some_first n f)

  all_of_below : (xs : List A) (n : ℕ) (f : ℕ → Bool) → n ≤ length xs → ((k : ℕ) → k < n → p (slice_index_or xs k d) ≡ f k)
      → list_all p (take n xs) ≡ all_below n f
  all_of_below xs zero f within is = refl
  all_of_below [] (suc n) f within is = absurd (omega (arith, within))
  all_of_below (x ∷ xs) (suc n) f within is =
      ap₂ (λ a b. a && b) (is 0 (omega arith)) (all_of_below xs n (λ k. f (suc k)) (omega (arith, within)) (λ k low. is (suc k) (omega (arith, low))))
      ∙ sym (all_first n f)

  pub any_is : (xs : List A) (offset n : ℕ) (f : ℕ → Bool) → offset + n ≤ length xs → ((k : ℕ) → k < n → p (slice_index_or xs (offset + k) d) ≡ f k)
      → list_any p (take n (drop offset xs)) ≡ some_below n f
  any_is xs offset n f within is =
      let left = length-drop offset xs in
      any_below (drop offset xs) n f (omega (arith, within, left)) (λ k low. ap p (get_or-drop offset xs k d) ∙ is k low)

  pub all_is : (xs : List A) (offset n : ℕ) (f : ℕ → Bool) → offset + n ≤ length xs → ((k : ℕ) → k < n → p (slice_index_or xs (offset + k) d) ≡ f k)
      → list_all p (take n (drop offset xs)) ≡ all_below n f
  all_is xs offset n f within is =
      let left = length-drop offset xs in
      all_of_below (drop offset xs) n f (omega (arith, within, left)) (λ k low. ap p (get_or-drop offset xs k d) ∙ is k low)

-- One that passes is enough.
pub some_there : (f : ℕ → Bool) (d : ℕ) → f d ≡ true → (n : ℕ) → d < n → some_below n f ≡ true
some_there f d here zero low = absurd (omega (arith, low))
some_there f d here (suc n) low = elim (cases_lt d n) [
  | inl less ↦ ap (λ v. f n || v) (some_there f d here n less) ∙ or-true (f n)
  | inr more ↦ let last : d ≡ n = omega (arith, low, more) in ap (λ v. v || some_below n f) (sym (ap f last) ∙ here)
]

-- ---- the first that passes

module _ (f : ℕ → Bool) (d : ℕ) (before : (k : ℕ) → k < d → f k ≡ false) where
  some_not : (n : ℕ) → n ≤ d → some_below n f ≡ false
  some_not zero le = refl
  some_not (suc n) le = ap₂ (λ a b. a || b) (before n (omega (arith, le))) (some_not n (omega (arith, le)))

  pub first_not : (n : ℕ) → n ≤ d → first_below n f ≡ None
  first_not zero le = refl
  first_not (suc n) le =
      ap₂ (λ (a b : Bool). if a then first_below n f else (if b then Some n else None)) (some_not n (omega (arith, le))) (before n (omega (arith, le)))

  module _ (here : f d ≡ true) where
    at_end : (n : ℕ) → n ≡ d → f n ≡ true
    at_end n is = ap f is ∙ here

    pub first_is : (n : ℕ) → d < n → first_below n f ≡ Some d
    first_is zero lt = absurd (omega (arith, lt))
    first_is (suc n) lt = elim (cases_lt d n) [
      | inl low ↦
          ap (λ (a : Bool). if a then first_below n f else (if f n then Some n else None)) (some_there f d here n low) ∙ first_is n low
      | inr high ↦
          let last : n ≡ d = omega (arith, lt, high) in
          ap₂ (λ (a b : Bool). if a then first_below n f else (if b then Some n else None)) (some_not n (omega (arith, last))) (at_end n last)
          ∙ ap Some last
    ]
