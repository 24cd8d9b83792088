-- The granules that hold some bytes are in the space.
use Rattle.std.proofs.Common.{◌≡◌, ℕ, ◌+◌, ◌-◌, ◌*◌, ◌/◌, ◌^◌, ◌<◌, ◌≤◌, ◌==◌, false, refl, ap, sym, subst, ◌∙◌, arith}
use Rattle.std.proofs.lemmas.Bool.{ne_eqb}
use Rattle.std.proofs.lemmas.Nat.{pow-add}
use Rattle.std.proofs.Math.Nat.{add-mul, mul_assoc, mul-mod_left, mul-le-mul_right, mul-div_cancel, div-lt_iff_lt-mul, le-div_iff_mul-le, div-mul-le_self, zero-mod}
use Rattle.cmdcodec.specs.declared.reach.Granule.{Granule}
use Rattle.cmdcodec.specs.declared.reach.Granule.TheVariants.{Kib4, Kib16, Kib64}
use Rattle.cmdcodec.specs.PageRuns.{granule_pages}
use Rattle.invalidations.specs.declared.space.Space.{Space}
use Rattle.invalidations.specs.declared.space.Space.TheVariants.{Stage1, Hypervisor, Stage2}
use Rattle.invalidations.specs.declared.request.Target.{Target}
use Rattle.invalidations.specs.Spaces.{size_of}
use Rattle.invalidations.specs.Targets.{leaf_bits, leaf_granules, leaf_pages, leaf_bytes, granules_in, Fits}
use Rattle.invalidations.specs.Plans.{granules_of, none_of}
use Rattle.invalidations.proofs.PieceLemmas.{lower}
use Rattle.invalidations.proofs.LeafLemmas.{few_bits, granule_some, pages_some}

granule_bits : Granule → ℕ
granule_bits Kib4 = 0
granule_bits Kib16 = 2
granule_bits Kib64 = 4

granule_power : (granule : Granule) → granule_pages granule ≡ 2 ^ granule_bits granule
unfolding granule_bits
granule_power Kib4 = refl
granule_power Kib16 = refl
granule_power Kib64 = refl

few_granule_bits : (granule : Granule) → granule_bits granule ≤ 4
unfolding granule_bits
few_granule_bits Kib4 = omega arith
few_granule_bits Kib16 = omega arith
few_granule_bits Kib64 = omega arith

pages_power : (target : Target) → leaf_pages target ≡ 2 ^ (leaf_bits target.granule target.entries + granule_bits target.granule)
pages_power target =
    ap (λ n. leaf_granules target * n) (granule_power target.granule)
    ∙ sym (pow-add 2 (leaf_bits target.granule target.entries) (granule_bits target.granule))

pub size_most : (space : Space) → size_of space ≤ 2 ^ 52
size_most (Stage1 vmid asid) = omega arith
size_most (Hypervisor asid) = omega arith
size_most (Stage2 vmid) = omega arith

size_multiple : (space : Space) → (q : ℕ) × (size_of space ≡ q * 2 ^ 40)
size_multiple (Stage1 vmid asid) = (4096, refl)
size_multiple (Hypervisor asid) = (4096, refl)
size_multiple (Stage2 vmid) = (1, refl)

-- A space consists of whole leaves.
pub size_whole : (target : Target) → size_of target.space ≡ size_of target.space / leaf_pages target * leaf_pages target
size_whole target =
    let power = pages_power target in
    let multiple = size_multiple target.space in
    let few = few_bits target.granule target.entries in
    let fewer = few_granule_bits target.granule in
    let bits = leaf_bits target.granule target.entries + granule_bits target.granule in
    subst (λ n. size_of target.space ≡ size_of target.space / n * n) (sym power)
    (lower (size_of target.space) multiple.0 40 bits (omega (arith, few, fewer)) multiple.1)

-- The number of its leaves, in granules.
size_in_leaves : (target : Target) → size_of target.space / leaf_pages target * leaf_granules target ≡ granules_in target
size_in_leaves target =
    let n = size_of target.space / leaf_pages target in
    let turned : n * leaf_granules target * granule_pages target.granule ≡ size_of target.space =
    mul_assoc n (leaf_granules target) (granule_pages target.granule) ∙ sym (size_whole target) in
    sym (mul-div_cancel (n * leaf_granules target) (granule_some target.granule)) ∙ ap (λ m. m / granule_pages target.granule) turned

pub bytes_some : (target : Target) → 0 < leaf_bytes target
bytes_some target = let some = pages_some target in omega (arith, some)

-- The last leaf is one of the space.
pub leaf_inside : (target : Target) (last : ℕ) → last < size_of target.space * 4096 → last / leaf_bytes target < size_of target.space / leaf_pages target
leaf_inside target last inside =
    let n = size_of target.space / leaf_pages target in
    let whole : n * leaf_bytes target ≡ size_of target.space * 4096 = sym (mul_assoc n (leaf_pages target) 4096) ∙ ap (λ m. m * 4096) (sym (size_whole target)) in
    (div-lt_iff_lt-mul (bytes_some target)).1 (omega (arith, whole, inside))

pub end_inside : (target : Target) (last : ℕ) → last < size_of target.space * 4096 → (last / leaf_bytes target + 1) * leaf_granules target ≤ granules_in target
end_inside target last inside =
    let below = leaf_inside target last inside in
    let n = size_of target.space / leaf_pages target in
    let product : (last / leaf_bytes target + 1) * leaf_granules target ≤ n * leaf_granules target = mul-le-mul_right (leaf_granules target) (omega (arith, below)) in
    let size = size_in_leaves target in omega (arith, product, size)

pub in_order : (target : Target) (first last : ℕ) → first ≤ last → first / leaf_bytes target ≤ last / leaf_bytes target
in_order target first last order =
    (le-div_iff_mul-le (bytes_some target)).1 (let least = div-mul-le_self first (leaf_bytes target) in omega (arith, least, order))

parts : (a b unit : ℕ) → a ≤ b → a * unit + (b - a) * unit ≡ b * unit
parts a b unit order = sym (add-mul a (b - a) unit) ∙ ap (λ n. n * unit) (let same : a + (b - a) ≡ b = omega (arith, order) in same)

pub rounded_fits : (target : Target) (first length : ℕ) → 0 < length → first + length ≤ size_of target.space * 4096
    → Fits (record { target = target; range = granules_of target (record { first = first; length = length }) })
rounded_fits target first length some inside =
    let last = first + length - 1 in
    let isnt : (length == 0) ≡ false = ne_eqb length 0 (λ none. omega (arith, some, none)) in
    let end = end_inside target last (omega (arith, some, inside)) in
    let order = in_order target first last (omega (arith, some)) in
    let f = first / leaf_bytes target in
    let l = last / leaf_bytes target + 1 in
    let sum = parts f l (leaf_granules target) (omega (arith, order)) in
    rw isnt (record {
      inside = omega (arith, sum, end);
      begins = mul-mod_left f (leaf_granules target);
      whole = mul-mod_left (l - f) (leaf_granules target);
    })

pub none_fits : (target : Target) → Fits (none_of target)
none_fits target = record { inside = omega arith; begins = zero-mod (leaf_granules target); whole = zero-mod (leaf_granules target) }
