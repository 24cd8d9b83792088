-- The legal beginning of a run.
use Rattle.std.proofs.Common.{◌≡◌, ℕ, zero, suc, ◌+◌, ◌<◌, inl, inr, List, [], ◌∷◌, take, Some, sym, ap, ◌∙◌, arith}
use Rattle.std.proofs.lemmas.Bool.{cases_lt}
use Rattle.std.specs.Prelude.{slice_get}
use Rattle.cmdcodec.specs.declared.raw.Raw.{Raw}
use Rattle.ringcore.specs.declared.world.event.Outcome.TheVariants.{Applied}
use Rattle.ringcore.specs.world.World.{outcome_of}
use Rattle.ring.specs.consumer.Completing.{HasOutcome}

-- the first so many are legal
abbrev pub AreLegal : ℕ → List Raw → Type 0
AreLegal count raws = (i : ℕ) (raw : Raw) → i < count → slice_get raws i ≡ Some raw → Applied ≡ outcome_of raw

in_take : (xs : List Raw) (n i : ℕ) (x : Raw) → slice_get (take n xs) i ≡ Some x → (slice_get xs i ≡ Some x) × (i < n)
in_take [] zero i x at = absurd (cc)
in_take [] (suc n) i x at = absurd (cc)
in_take (y ∷ ys) zero i x at = absurd (cc)
in_take (y ∷ ys) (suc n) zero x at = (at, omega arith)
in_take (y ∷ ys) (suc n) (suc i) x at = let rest = in_take ys n i x at in (rest.0, omega (arith, rest.1))

pub has_outcome : (raws : List Raw) (count : ℕ) → AreLegal count raws → HasOutcome Applied (take count raws)
has_outcome raws count legal i raw at = let there = in_take raws count i raw at in legal i raw there.1 there.0

pub one_more : (raws : List Raw) (count : ℕ) (raw : Raw) → AreLegal count raws → slice_get raws count ≡ Some raw → Applied ≡ outcome_of raw → AreLegal (count + 1) raws
one_more raws count raw legal at is i other low there = elim (cases_lt i count) [
  | inl before ↦ legal i other before there
  | inr not_before ↦
      let same : i ≡ count = omega (arith, low, not_before) in
      let one : raw ≡ other = (let e : Some raw ≡ Some other = sym at ∙ ap (slice_get raws) (sym same) ∙ there in cc) in
      is ∙ ap outcome_of one
]
