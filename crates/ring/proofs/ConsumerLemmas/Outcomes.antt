-- Which outcome the first commands of a run have, all together.
use Rattle.std.proofs.Common.{◌≡◌, ◌<◌, ◌+◌, ℕ, zero, suc, List, [], ◌∷◌, take, Some, None, ◌⊎◌, ⊎_elim, sym, ap, ◌∙◌, arith}
use Rattle.std.specs.Prelude.{slice_get}
use Rattle.std.proofs.lemmas.Option.{same_Some}
use Rattle.cmdcodec.specs.declared.raw.Raw.{Raw}
use Rattle.cmdcodec.specs.declared.ill.Ill.{Ill}
use Rattle.cmdcodec.specs.Legality.{first_ill}
use Rattle.ringcore.specs.declared.world.event.Outcome.TheVariants.{Applied, Replaced}
use Rattle.ringcore.specs.world.World.{outcome_of}
use Rattle.ring.specs.consumer.Completing.{HasOutcome}
use Rattle.ring.specs.consumer.PendingConsumers.{AreLegal, IsFirstIllegal}

-- what stands at a place of the first so many stands there in all
at_first : {A : Type 0} (xs : List A) (n i : ℕ) (x : A) → slice_get (take n xs) i ≡ Some x → (i < n) × (slice_get xs i ≡ Some x)
at_first [] zero i x at = absurd (cc)
at_first [] (suc n) i x at = absurd (cc)
at_first (y ∷ xs) zero i x at = absurd (cc)
at_first (y ∷ xs) (suc n) zero x at = (omega arith, at)
at_first (y ∷ xs) (suc n) (suc i) x at = let there = at_first xs n i x at in let low = there.0 in (omega (arith, low), there.1)

is_applied : (r : Raw) → first_ill r ≡ None → Applied ≡ outcome_of r
is_applied r none = search

is_replaced : (r : Raw) (ill : Ill) → first_ill r ≡ Some ill → Replaced ≡ outcome_of r
is_replaced r ill its = search

pub all_applied : (raws : List Raw) (n : ℕ) → AreLegal n raws → HasOutcome Applied (take n raws)
all_applied raws n legal i raw at = let there = at_first raws n i raw at in is_applied raw (legal i raw there.0 there.1)

this_or_before : (i n : ℕ) → i < n + 1 → (i < n) ⊎ (i ≡ n)
this_or_before i n low = grind arith

pub one_more_legal : (raws : List Raw) (n : ℕ) (last : Raw) → slice_get raws n ≡ Some last → first_ill last ≡ None → AreLegal n raws → AreLegal (n + 1) raws
one_more_legal raws n last there none legal i raw low at =
    ⊎_elim (λ (before : i < n). legal i raw before at)
    (λ (this : i ≡ n). let same : raw ≡ last = same_Some raw last (sym at ∙ ap (λ k. slice_get raws k) this ∙ there) in ap (λ (r : Raw). first_ill r) same ∙ none)
    (this_or_before i n low)

-- of a single command
pub one_replaced : (raws : List Raw) (n : ℕ) (ill : Ill) → n ≡ 1 → IsFirstIllegal n raws ill → HasOutcome Replaced (take n raws)
one_replaced raws n ill one first i raw at =
    let there = at_first raws n i raw at in
    let low = there.0 in
    let early = first.early in
    let place : i ≡ first.place = omega (arith, one, low, early) in
    let same : raw ≡ first.raw = same_Some raw first.raw (sym there.1 ∙ ap (λ k. slice_get raws k) place ∙ first.at) in
    is_replaced raw ill (ap (λ (r : Raw). first_ill r) same ∙ first.ill_is)
