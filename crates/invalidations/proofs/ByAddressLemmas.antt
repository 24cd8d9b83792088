-- The commands of an invalidation, one by one.
use Rattle.std.proofs.Common.{◌≡◌, ℕ, zero, suc, ◌+◌, ◌-◌, ◌*◌, ◌/◌, ◌%◌, ◌<◌, ◌≤◌, ◌==◌, false, inl, inr, [], ◌∷◌, refl, ap, arith}
use Rattle.std.proofs.lemmas.Bool.{cases_Bool, ne_eqb}
use Rattle.cmdcodec.specs.declared.reach.Granule.{Granule}
use Rattle.cmdcodec.specs.declared.reach.Granule.TheVariants.{Kib4, Kib16, Kib64}
use Rattle.cmdcodec.specs.PageRuns.{granule_pages}
use Rattle.invalidations.specs.declared.request.Request.{Request}
use Rattle.invalidations.specs.declared.request.Target.{Target}
use Rattle.invalidations.specs.Spaces.{size_of}
use Rattle.invalidations.specs.Targets.{leaf_granules, Fits}
use Rattle.invalidations.specs.ByAddress.{step_of, command_of, commands_up_to, commands_by_address}
use Rattle.invalidations.proofs.PieceLemmas.{reached_some, reached_within}
use Rattle.invalidations.proofs.LeafLemmas.{leaf_some, leaf_within, next_begins, next_whole}

pub step_some : (target : Target) (left : ℕ) → 0 < step_of target left
unfolding step_of
step_some target left =
    elim (cases_Bool target.ranged) [
      | inl is ↦ rw is (reached_some left)
      | inr isnt ↦ rw isnt (leaf_some target)
    ]

pub step_within : (target : Target) (left : ℕ) → 0 < left → left % leaf_granules target ≡ 0 → step_of target left ≤ left
unfolding step_of
step_within target left some whole =
    elim (cases_Bool target.ranged) [
      | inl is ↦ rw is (reached_within left some)
      | inr isnt ↦ rw isnt (leaf_within target left some whole)
    ]

-- As many commands as granules are enough.
enough : (most other : ℕ) (target : Target) (first left : ℕ) → left ≤ most → left ≤ other
    → commands_up_to most target first left ≡ commands_up_to other target first left
unfolding commands_up_to
enough zero zero target first left fits also = refl
enough zero (suc other) target first left fits also =
    let none : left ≡ 0 = omega (arith, fits) in rw none refl
enough (suc most) zero target first left fits also =
    let none : left ≡ 0 = omega (arith, also) in rw none refl
enough (suc most) (suc other) target first left fits also =
    elim (cases_Bool (left == 0)) [
      | inl is ↦ rw is refl
      | inr isnt ↦
          let some = step_some target left in
          rw isnt (ap (λ rest. command_of target first left ∷ rest)
          (enough most other target (first + step_of target left) (left - step_of target left) (omega (arith, fits, some)) (omega (arith, also, some))))
    ]

pub none_left : (request : Request) → request.range.count ≡ 0 → commands_by_address request ≡ []
unfolding commands_by_address commands_up_to
none_left request none = rw none refl

next_of : (target : Target) (first left : ℕ) → 0 < left
    → commands_up_to left target first left
    ≡ command_of target first left ∷ commands_up_to (left - step_of target left) target (first + step_of target left) (left - step_of target left)
unfolding commands_up_to
next_of target first zero some = absurd (omega (arith, some))
next_of target first (suc left) some =
    let none : (suc left == 0) ≡ false = ne_eqb (suc left) 0 (λ is. omega (arith, is)) in
    let rest = suc left - step_of target (suc left) in
    let least = step_some target (suc left) in
    rw none (ap (λ rest. command_of target first (suc left) ∷ rest)
    (enough left rest target (first + step_of target (suc left)) rest (omega (arith, least)) (omega arith)))

pub next_one : (request : Request) → 0 < request.range.count
    → commands_by_address request
    ≡ command_of request.target request.range.first request.range.count
    ∷ commands_by_address (record {
      target = request.target;
      range = record { first = request.range.first + step_of request.target request.range.count; count = request.range.count - step_of request.target request.range.count };
    })
unfolding commands_by_address
next_one request some = next_of request.target request.range.first request.range.count some

in_space : (granule : Granule) (size first : ℕ) → first ≤ size / granule_pages granule → first * granule_pages granule ≤ size
in_space Kib4 size first fits = omega (arith, fits)
in_space Kib16 size first fits = omega (arith, fits)
in_space Kib64 size first fits = omega (arith, fits)

-- The range's pages are in the space.
pub ends_inside : (target : Target) (end : ℕ) → end ≤ size_of target.space / granule_pages target.granule → end * granule_pages target.granule ≤ size_of target.space
ends_inside target end fits = in_space target.granule (size_of target.space) end fits

before : (granule : Granule) (size first end : ℕ) → first < end → end * granule_pages granule ≤ size → first * granule_pages granule < size
before Kib4 size first end some fits = omega (arith, some, fits)
before Kib16 size first end some fits = omega (arith, some, fits)
before Kib64 size first end some fits = omega (arith, some, fits)

pub begins_inside : (request : Request) → 0 < request.range.count → Fits request → request.range.first * granule_pages request.target.granule < size_of request.target.space
begins_inside request some fits =
    let end = request.range.first + request.range.count in
    before request.target.granule (size_of request.target.space) request.range.first end (omega (arith, some)) (ends_inside request.target end fits.inside)

-- What is left behind the next command fits too.
pub next_fits : (request : Request) → 0 < request.range.count → Fits request → Fits (record {
  target = request.target;
  range = record { first = request.range.first + step_of request.target request.range.count; count = request.range.count - step_of request.target request.range.count };
})
next_fits request some fits =
    let first = request.range.first in
    let count = request.range.count in
    let within = step_within request.target count some fits.whole in
    record {
      inside = (let inside = fits.inside in omega (arith, inside, within));
      begins = next_begins request.target first count some fits.begins fits.whole;
      whole = next_whole request.target count some fits.whole;
    }
