-- What open reservations hold, as it is found view by view.
use Rattle.std.proofs.Common.{◌≡◌, ℕ, zero, suc, ◌+◌, ◌<◌, true, false, inl, inr, refl, sym, ap, ap₂, ◌∙◌, subst, arith}
use Rattle.std.proofs.Math.Bool.{or-true, and-false}
use Rattle.std.proofs.lemmas.Bool.{cases_lt}
use Rattle.std.specs.Prelude.{Bool, Option, Some, None, is_some, ◌==◌, ◌||◌, ◌&&◌, if◌then◌else◌}
use Rattle.qindex.specs.Positions.{place}
use Rattle.ringcore.specs.declared.world.event.Who.TheVariants.{Sender}
use Rattle.ringcore.specs.world.Trails.{Run, trail_of, reserved_length}
use Rattle.ringcore.specs.world.World.{world}
use Rattle.ringcore.specs.world.Allowed.{Ring}
use Rattle.ringcore.specs.machine.Open.{some_below, all_below, first_below, is_open, own_offset, holds_slot}

-- One that doesn't pass is enough.
pub not_all : (f : ℕ → Bool) (d : ℕ) → f d ≡ false → (n : ℕ) → d < n → all_below n f ≡ false
not_all f d here zero low = absurd (omega (arith, low))
not_all f d here (suc n) low = elim (cases_lt d n) [
  | inl less ↦ ap (λ v. f n && v) (not_all f d here n less) ∙ and-false (f n)
  | inr more ↦ let last : d ≡ n = omega (arith, low, more) in ap (λ v. v && all_below n f) (sym (ap f last) ∙ here)
]

-- what is found one further
pub none_further : (f : ℕ → Bool) (n : ℕ) → f n ≡ false → some_below n f ≡ false → some_below (n + 1) f ≡ false
none_further f n here below = let next : suc n ≡ n + 1 = omega arith in subst (λ m. some_below m f ≡ false) next (ap₂ (λ a b. a || b) here below)

pub all_further : (f : ℕ → Bool) (n : ℕ) → f n ≡ true → all_below n f ≡ true → all_below (n + 1) f ≡ true
all_further f n here below = let next : suc n ≡ n + 1 = omega arith in subst (λ m. all_below m f ≡ true) next (ap₂ (λ a b. a && b) here below)

-- There is a first exactly if there is some.
pub first_is_some : (n : ℕ) (f : ℕ → Bool) → is_some (first_below n f) ≡ some_below n f
first_is_some zero f = refl
first_is_some (suc n) f = by_rest (some_below n f) (first_is_some n f) (f n)
  where
    by_rest : (b : Bool) → is_some (first_below n f) ≡ b → (here : Bool)
        → is_some (if b then first_below n f else (if here then Some n else None)) ≡ (here || b)
    by_rest true rest here = rest ∙ sym (or-true here)
    by_rest false rest true = refl
    by_rest false rest false = refl

-- A sender holds a slot exactly if the slot has an offset in its open reservation.
pub holds_where : (ring : Ring) (run : Run) (s slot : ℕ) → is_some (own_offset ring run s slot) ≡ holds_slot ring run slot s
holds_where ring run s slot = by_open (is_open (trail_of (Sender s) run)) _ _
    (first_is_some (reserved_length (trail_of (Sender s) run)) (λ offset. place ring.geometry ((world run).start s + offset) == slot))
  where
    by_open : (b : Bool) (first : Option ℕ) (some : Bool) → is_some first ≡ some → is_some (if b then first else None) ≡ (b && some)
    by_open true first some is = is
    by_open false first some is = refl
