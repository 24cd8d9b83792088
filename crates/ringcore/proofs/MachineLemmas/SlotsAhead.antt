-- How far a slot is ahead of a position.
use Rattle.std.proofs.Common.{◌≡◌, ◌≢◌, ℕ, ◌+◌, ◌-◌, ◌%◌, ◌<◌, ◌≤◌, sym, ap, ◌∙◌, inl, inr, arith}
use Rattle.std.proofs.Math.Nat.{mod-add-mod, mod-eq_of_lt, add-mod_right}
use Rattle.std.proofs.lemmas.Bool.{cases_lt}
use Rattle.qindex.specs.Positions.{size, place}
use Rattle.ringcore.proofs.MemoryLemmas.Places.{place-lt}

module _ (g start slot : ℕ) (there : slot < size g) where
  abbrev pub ahead : ℕ
  ahead = (slot + size g - start % size g) % size g

  abbrev r : ℕ
  r = place g start

  low : r < size g
  low = place-lt g start

  place_on : (k : ℕ) → place g (start + k) ≡ place g (r + k)
  place_on k = sym (mod-add-mod start (size g) k)

  not_passed : r ≤ slot → ahead ≡ slot - r
  not_passed le =
      let n : ℕ = size g in
      let x : ℕ = r in
      let is : slot + n - x ≡ slot - x + n = omega (arith, le) in
      ap (λ (m : ℕ). m % n) is ∙ add-mod_right (slot - x) n ∙ mod-eq_of_lt (omega (arith, there))

  passed : slot < r → ahead ≡ slot + size g - r
  passed lt = let n : ℕ = size g in let x : ℕ = r in let below : x < n = low in mod-eq_of_lt (omega (arith, lt, below))

  pub here : place g (start + ahead) ≡ slot
  here = place_on ahead ∙ elim (cases_lt slot r) [
    | inl lt ↦
        let n : ℕ = size g in
        let x : ℕ = r in
        let far : ahead ≡ slot + n - x = passed lt in
        let below : x < n = low in
        let is : x + ahead ≡ slot + n = omega (arith, far, lt, below) in
        ap (place g) is ∙ add-mod_right slot n ∙ mod-eq_of_lt there
    | inr le ↦
        let x : ℕ = r in
        let far : ahead ≡ slot - x = not_passed le in
        let is : x + ahead ≡ slot = omega (arith, far, le) in
        ap (place g) is ∙ mod-eq_of_lt there
  ]

  pub nearer : (k : ℕ) → k < ahead → place g (start + k) ≢ slot
  nearer k before e = let is : place g (r + k) ≡ slot = sym (place_on k) ∙ e in elim (cases_lt slot r) [
    | inl lt ↦
        let n : ℕ = size g in
        let x : ℕ = r in
        let far : ahead ≡ slot + n - x = passed lt in
        let below : x < n = low in
        elim (cases_lt (x + k) n) [
          | inl first ↦ let at : place g (x + k) ≡ x + k = mod-eq_of_lt first in omega (arith, at, is, lt)
          | inr second ↦
              let back : x + k - n + n ≡ x + k = omega (arith, second) in
              let at : place g (x + k) ≡ x + k - n = ap (place g) (sym back) ∙ add-mod_right (x + k - n) n ∙ mod-eq_of_lt (omega (arith, far, before, there, second, below)) in
              omega (arith, at, is, far, before, second)
        ]
    | inr le ↦
        let n : ℕ = size g in
        let x : ℕ = r in
        let far : ahead ≡ slot - x = not_passed le in
        let at : place g (x + k) ≡ x + k = mod-eq_of_lt (omega (arith, far, before, there, le)) in
        omega (arith, at, is, far, before, le)
  ]
