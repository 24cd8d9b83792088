-- What the worked runs say of each of a few.
use Rattle.std.proofs.Common.{◌≡◌, ℕ, zero, suc, ◌+◌, ◌<◌, Bool, List, [], ◌∷◌, Some, refl, ap, ◌∙◌, leb-true, arith}
use Rattle.std.specs.Prelude.{slice_get, ⊤}
use Rattle.cmdcodec.specs.declared.raw.Raw.{Raw}
use Rattle.cmdcodec.specs.Bodies.{IsBody}
use Rattle.qindex.specs.declared.control.Control.{Control}
use Rattle.ringcore.specs.declared.world.event.Half.{Half}
use Rattle.ringcore.specs.declared.world.event.Half.TheVariants.{Lo, Hi}
use Rattle.ringcore.specs.world.Trails.{Trail, half_read}
use Rattle.ringcore.specs.world.World.{half_of}
use Rattle.std.proofs.lemmas.Option.{none-some, same_Some}

pub none : (P : ℕ → Type 0) (i : ℕ) → i < 0 → P i
none P i less = absurd (omega (arith, less))

pub one : (P : ℕ → Type 0) → P 0 → (i : ℕ) → i < 1 → P i
one P a zero less = a
one P a (suc i) less = absurd (omega (arith, less))

pub two : (P : ℕ → Type 0) → P 0 → P 1 → (i : ℕ) → i < 2 → P i
two P a b zero less = a
two P a b (suc zero) less = b
two P a b (suc (suc i)) less = absurd (omega (arith, less))

pub three : (P : ℕ → Type 0) → P 0 → P 1 → P 2 → (i : ℕ) → i < 3 → P i
three P a b c zero less = a
three P a b c (suc zero) less = b
three P a b c (suc (suc zero)) less = c
three P a b c (suc (suc (suc i))) less = absurd (omega (arith, less))

pub each : (P : Half → Type 0) → P Lo → P Hi → (half : Half) → P half
each P a b Lo = a
each P a b Hi = b

pub halves_of_one : (P : ℕ → Half → Type 0) → P 0 Lo → P 0 Hi → (i : ℕ) (half : Half) → i < 1 → P i half
halves_of_one P a b zero half less = each (P 0) a b half
halves_of_one P a b (suc i) half less = absurd (omega (arith, less))

pub halves_of_two : (P : ℕ → Half → Type 0) → P 0 Lo → P 0 Hi → P 1 Lo → P 1 Hi → (i : ℕ) (half : Half) → i < 2 → P i half
halves_of_two P a b c d zero half less = each (P 0) a b half
halves_of_two P a b c d (suc zero) half less = each (P 1) c d half
halves_of_two P a b c d (suc (suc i)) half less = absurd (omega (arith, less))

pub halves_of_three : (P : ℕ → Half → Type 0) → P 0 Lo → P 0 Hi → P 1 Lo → P 1 Hi → P 2 Lo → P 2 Hi → (i : ℕ) (half : Half) → i < 3 → P i half
halves_of_three P a b c d e f zero half less = each (P 0) a b half
halves_of_three P a b c d e f (suc zero) half less = each (P 1) c d half
halves_of_three P a b c d e f (suc (suc zero)) half less = each (P 2) e f half
halves_of_three P a b c d e f (suc (suc (suc i))) half less = absurd (omega (arith, less))

-- from the i-th on these commands were read
abbrev pub AreRead : Trail → ℕ → List Raw → Type 0
AreRead mine i [] = ⊤
AreRead mine i (raw ∷ raws) = (half_read i Lo mine ≡ Some raw.lo) × (half_read i Hi mine ≡ Some raw.hi) × AreRead mine (suc i) raws

read_from : (mine : Trail) (first : ℕ) (raws : List Raw) → AreRead mine first raws → (i : ℕ) (raw : Raw) (half : Half) → slice_get raws i ≡ Some raw
    → half_read (first + i) half mine ≡ Some (half_of half raw)
read_from mine first [] all i raw half at = absurd (none-some raw at)
read_from mine first (r ∷ raws) all zero raw half at =
    let here : first + 0 ≡ first = omega arith in
    let is = same_Some r raw at in
    ap (λ n. half_read n half mine) here ∙ each (λ h. half_read first h mine ≡ Some (half_of h r)) all.0 all.1 half ∙ ap (λ (z : Raw). Some (half_of half z)) is
read_from mine first (r ∷ raws) all (suc i) raw half at =
    let on : first + suc i ≡ suc first + i = omega arith in ap (λ n. half_read n half mine) on ∙ read_from mine (suc first) raws all.2 i raw half at

pub read_all : (mine : Trail) (raws : List Raw) → AreRead mine 0 raws → (i : ℕ) (raw : Raw) (half : Half) → slice_get raws i ≡ Some raw
    → half_read i half mine ≡ Some (half_of half raw)
read_all mine raws all i raw half at =
    let here : i ≡ 0 + i = omega arith in ap (λ n. half_read n half mine) here ∙ read_from mine 0 raws all i raw half at

-- CFGI_STE of stream 5, Leaf 1
abbrev pub x : Raw
x = record { lo = 0x500000003; hi = 1 }

-- CFGI_STE of stream 6, Leaf 1
abbrev pub y : Raw
y = record { lo = 0x600000003; hi = 1 }

pub body_of_one : IsBody (x ∷ [])
body_of_one = record {
  some = leb-true 1 1 refl;
  few = leb-true 1 63 refl;
  no_sync = refl;
}

pub body_of_y : IsBody (y ∷ [])
body_of_y = record {
  some = leb-true 1 1 refl;
  few = leb-true 1 63 refl;
  no_sync = refl;
}

pub body_of_two : IsBody (x ∷ x ∷ [])
body_of_two = record {
  some = leb-true 1 2 refl;
  few = leb-true 2 63 refl;
  no_sync = refl;
}

-- what a look shows
abbrev pub shows : ℕ → ℕ → ℕ → Bool → Control
shows geometry prod cons closed =
    record { prod = record { geometry = geometry; number = prod }; cons = record { geometry = geometry; number = cons }; closed = closed }
