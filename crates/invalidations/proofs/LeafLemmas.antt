-- Ranges of whole leaves.
use Rattle.std.proofs.Common.{◌≡◌, ℕ, zero, suc, ◌+◌, ◌-◌, ◌*◌, ◌/◌, ◌%◌, ◌<◌, ◌≤◌, inl, inr, Some, None, refl, ap, ◌∙◌, arith}
use Rattle.std.proofs.lemmas.Bool.{cases_Bool}
use Rattle.std.proofs.lemmas.Nat.{pow_pos, shr_split, mul-lt}
use Rattle.std.proofs.Math.Nat.{mul-mod_left, add-mul, mul-sub, mul_comm}
use Rattle.cmdcodec.specs.declared.reach.Granule.{Granule}
use Rattle.cmdcodec.specs.declared.reach.Granule.TheVariants.{Kib4, Kib16, Kib64}
use Rattle.invalidations.specs.declared.entries.Level.TheVariants.{One, Two, Three}
use Rattle.invalidations.specs.declared.entries.Entries.{Entries}
use Rattle.invalidations.specs.declared.entries.Entries.TheVariants.{Any, Leaves}
use Rattle.invalidations.specs.declared.request.Target.{Target}
use Rattle.invalidations.specs.Targets.{leaf_bits, leaf_granules, leaf_pages}
use Rattle.cmdcodec.specs.PageRuns.{granule_pages}
use Rattle.invalidations.specs.Pieces.{scale_of, count_of, reached_of}
use Rattle.invalidations.specs.ByAddress.{step_of}
use Rattle.invalidations.proofs.PieceLemmas.{multiple_of_lower, scale_at_least, reached_is}

pub few_bits : (granule : Granule) (entries : Entries) → leaf_bits granule entries ≤ 26
few_bits granule Any = omega arith
few_bits granule (Leaves None) = omega arith
few_bits granule (Leaves (Some Three)) = omega arith
few_bits Kib4 (Leaves (Some Two)) = omega arith
few_bits Kib16 (Leaves (Some Two)) = omega arith
few_bits Kib64 (Leaves (Some Two)) = omega arith
few_bits Kib4 (Leaves (Some One)) = omega arith
few_bits Kib16 (Leaves (Some One)) = omega arith
few_bits Kib64 (Leaves (Some One)) = omega arith

pub leaf_some : (target : Target) → 0 < leaf_granules target
leaf_some target = pow_pos (leaf_bits target.granule target.entries)

pub granule_some : (granule : Granule) → 0 < granule_pages granule
granule_some Kib4 = omega arith
granule_some Kib16 = omega arith
granule_some Kib64 = omega arith

pub pages_some : (target : Target) → 0 < leaf_pages target
pages_some target = mul-lt 0 0 (leaf_granules target) (granule_pages target.granule) (leaf_some target) (granule_some target.granule)

-- whole leaves as a product, and back
pub in_leaves : (target : Target) (n : ℕ) → n % leaf_granules target ≡ 0 → n ≡ n / leaf_granules target * leaf_granules target
in_leaves target n whole = let split = shr_split n (leaf_bits target.granule target.entries) in omega (arith, split, whole)

pub of_leaves : (target : Target) (n q : ℕ) → n ≡ q * leaf_granules target → n % leaf_granules target ≡ 0
of_leaves target n q is = ap (λ m. m % leaf_granules target) is ∙ mul-mod_left q (leaf_granules target)

-- The next command stands for whole leaves.
pub step_whole : (target : Target) (left : ℕ) → 0 < left → left % leaf_granules target ≡ 0 → (q : ℕ) × (step_of target left ≡ q * leaf_granules target)
unfolding step_of
step_whole target left some whole =
    elim (cases_Bool target.ranged) as (λ _. (q : ℕ) × (step_of target left ≡ q * leaf_granules target)) [
      | inl is ↦
          let step : step_of target left ≡ reached_of left = rw is refl in
          let bits = leaf_bits target.granule target.entries in
          let few = few_bits target.granule target.entries in
          let scale = scale_at_least left bits (left / leaf_granules target) some (omega (arith, few)) (in_leaves target left whole) in
          let lower = multiple_of_lower (reached_of left) (count_of left) (scale_of left) bits scale (reached_is left) in
          (lower.0, step ∙ lower.1)
      | inr isnt ↦ (1, rw isnt (omega arith))
    ]

pub added_whole : (target : Target) (m n : ℕ) → m % leaf_granules target ≡ 0 → n % leaf_granules target ≡ 0 → (m + n) % leaf_granules target ≡ 0
added_whole target m n one other =
    let unit = leaf_granules target in
    let sum : (m / unit + n / unit) * unit ≡ m / unit * unit + n / unit * unit = add-mul (m / unit) (n / unit) unit in
    of_leaves target (m + n) (m / unit + n / unit) (let a = in_leaves target m one in let b = in_leaves target n other in omega (arith, sum, a, b))

less : {a b c d : ℕ} → a ≡ b → c ≡ d → a - c ≡ b - d
less one other = omega (arith, one, other)

pub left_whole : (target : Target) (m n : ℕ) → m % leaf_granules target ≡ 0 → n % leaf_granules target ≡ 0 → (m - n) % leaf_granules target ≡ 0
left_whole target m n one other =
    let unit = leaf_granules target in
    let difference : (m / unit - n / unit) * unit ≡ m / unit * unit - n / unit * unit =
    mul_comm (m / unit - n / unit) unit ∙ mul-sub unit (m / unit) (n / unit) ∙ less (mul_comm unit (m / unit)) (mul_comm unit (n / unit)) in
    of_leaves target (m - n) (m / unit - n / unit) (let a = in_leaves target m one in let b = in_leaves target n other in omega (arith, difference, a, b))

-- Behind the next command, the range begins with a leaf, and whole leaves are left.
pub next_begins : (target : Target) (first left : ℕ) → 0 < left → first % leaf_granules target ≡ 0 → left % leaf_granules target ≡ 0
    → (first + step_of target left) % leaf_granules target ≡ 0
next_begins target first left some begins whole =
    let step = step_whole target left some whole in added_whole target first (step_of target left) begins (of_leaves target (step_of target left) step.0 step.1)

pub next_whole : (target : Target) (left : ℕ) → 0 < left → left % leaf_granules target ≡ 0 → (left - step_of target left) % leaf_granules target ≡ 0
next_whole target left some whole =
    let step = step_whole target left some whole in left_whole target left (step_of target left) whole (of_leaves target (step_of target left) step.0 step.1)

-- At least a leaf is left, if any granule is.
some_leaves : (q unit left : ℕ) → left ≡ q * unit → 0 < left → unit ≤ left
some_leaves zero unit left is some = absurd (omega (arith, is, some))
some_leaves (suc q) unit left is some = omega (arith, is)

pub leaf_within : (target : Target) (left : ℕ) → 0 < left → left % leaf_granules target ≡ 0 → leaf_granules target ≤ left
leaf_within target left some whole = some_leaves (left / leaf_granules target) (leaf_granules target) left (in_leaves target left whole) some
