-- The commands for a run of pages reach exactly these pages.
use Rattle.std.proofs.Common.{◌≡◌, ℕ, zero, suc, ◌+◌, ◌-◌, ◌*◌, ◌/◌, ◌^◌, ◌<◌, ◌≤◌, ◌==◌, nat_lt, true, inl, inr, List, [], ◌∷◌, All, Any, AllPairs, refl, ap, sym, subst, ◌∙◌, arith}
use Rattle.std.proofs.lemmas.Bool.{cases_Bool, cases_lt, eqb-true, eqb-false, ltb-false}
use Rattle.std.proofs.lemmas.List.Elements.{All-cons}
use Rattle.std.proofs.lemmas.List.Kept.{AllPairs-cons}
use Rattle.cmdcodec.specs.declared.command.Command.TheVariants.{TlbiNhVa}
use Rattle.cmdcodec.specs.declared.reach.Granule.TheVariants.{Kib4}
use Rattle.cmdcodec.specs.declared.reach.Reach.TheVariants.{Range}
use Rattle.cmdcodec.specs.declared.reach.PageRun.{PageRun}
use Rattle.cmdcodec.specs.PageRuns.{least, run_from, IsIn}
use Rattle.batch.specs.Ranges.{scale_of, count_of, reached_of, reach_of, commands_up_to, range_commands}
use Rattle.batch.specs.Laws.{IsLastLevelOf, runs_of, AreJoined, IsBelow, RangesAreReachedExactly}
use Rattle.batch.proofs.RangeLemmas.{count_some, reached_some, reached_within}

-- A run that ends in the address space isn't cut.
uncut : (end space : ℕ) → end ≤ space → least end space ≡ end
uncut end space fits =
    elim (cases_Bool (nat_lt end space)) [
      | inl is ↦ rw is refl
      | inr isnt ↦ rw isnt (let past = ltb-false end space isnt in omega (arith, fits, past))
    ]

reached_is : (pages : ℕ) → reached_of pages ≡ count_of pages * 2 ^ scale_of pages
unfolding reached_of
reached_is pages = refl

-- a range of granules of one page, with NUM the count minus one
range_run : (page count scale reached : ℕ) → 0 < count → reached ≡ count * 2 ^ scale → page + reached ≤ 2 ^ 52
    → run_from page (Range Kib4 (count - 1) scale) (2 ^ 52) ≡ record { first = page; end = page + reached }
range_run page count scale reached some is fits =
    let again : count - 1 + 1 ≡ count = omega (arith, some) in
    let product = ap (λ n. n * 2 ^ scale) again in
    let end : page / 1 * 1 + (count - 1 + 1) * 2 ^ scale * 1 ≡ page + reached = omega (arith, product, is) in
    let first : page / 1 * 1 ≡ page = omega arith in
    let cut = ap (λ n. least n (2 ^ 52)) end ∙ uncut (page + reached) (2 ^ 52) fits in
    ap (λ n. record { first = n; end = least (page / 1 * 1 + (count - 1 + 1) * 2 ^ scale * 1) (2 ^ 52) }) first
    ∙ ap (λ n. record { first = page; end = n }) cut

-- what the next command reaches
next_run : (page pages : ℕ) → 0 < pages → page + pages ≤ 2 ^ 52
    → run_from page (reach_of pages) (2 ^ 52) ≡ record { first = page; end = page + reached_of pages }
unfolding reach_of
next_run page pages some fits =
    let within = reached_within pages some in
    elim (cases_Bool (reached_of pages == 1)) [
      | inl is ↦ rw is (ap (λ n. record { first = page; end = page + n }) (sym (eqb-true (reached_of pages) 1 is)))
      | inr isnt ↦ rw isnt (range_run page (count_of pages) (scale_of pages) (reached_of pages) (count_some pages) (reached_is pages) (omega (arith, within, fits)))
    ]

joined_up_to : (most vmid asid page pages : ℕ) → pages ≤ most → page + pages ≤ 2 ^ 52
    → AreJoined page (page + pages) (runs_of (commands_up_to most vmid asid page pages))
unfolding commands_up_to
joined_up_to zero vmid asid page pages few fits = omega (arith, few)
joined_up_to (suc most) vmid asid page pages few fits =
    elim (cases_Bool (pages == 0)) [
      | inl is ↦ rw is (let none = eqb-true pages 0 is in omega (arith, none))
      | inr isnt ↦
          let some : 0 < pages = let other = eqb-false pages 0 isnt in omega (arith, other) in
          let within = reached_within pages some in
          let least_one = reached_some pages in
          let left = pages - reached_of pages in
          let rest = runs_of (commands_up_to most vmid asid (page + reached_of pages) left) in
          let on : AreJoined (page + reached_of pages) (page + reached_of pages + left) rest =
          joined_up_to most vmid asid (page + reached_of pages) left (omega (arith, few, least_one)) (omega (arith, within, fits)) in
          let same : page + reached_of pages + left ≡ page + pages = omega (arith, within) in
          let ended = subst (λ end. AreJoined (page + reached_of pages) end rest) same on in
          let now : AreJoined page (page + pages) (record { first = page; end = page + reached_of pages } ∷ rest) = (refl, omega (arith, least_one), ended) in
          rw isnt (subst (λ run. AreJoined page (page + pages) (run ∷ rest)) (sym (next_run page pages some fits)) now)
    ]

alike_up_to : (most vmid asid page pages : ℕ) → All (IsLastLevelOf vmid asid) (commands_up_to most vmid asid page pages)
unfolding commands_up_to
alike_up_to zero vmid asid page pages = λ k d below. absurd (omega (arith, below))
alike_up_to (suc most) vmid asid page pages =
    elim (cases_Bool (pages == 0)) [
      | inl is ↦ rw is (λ k d below. absurd (omega (arith, below)))
      | inr isnt ↦ rw isnt (All-cons (IsLastLevelOf vmid asid) (TlbiNhVa vmid asid true page (reach_of pages))
          (commands_up_to most vmid asid (page + reached_of pages) (pages - reached_of pages)) (refl, refl, refl)
          (alike_up_to most vmid asid (page + reached_of pages) (pages - reached_of pages)))
    ]

-- ---- Runs that are joined.

IsWithin : ℕ → ℕ → PageRun → Type 0
IsWithin first end run = (first ≤ run.first) × (run.end ≤ end)

joined_within : (first end : ℕ) (runs : List PageRun) → AreJoined first end runs → (first ≤ end) × All (IsWithin first end) runs
unfolding IsWithin
joined_within first end [] ends = (omega (arith, ends), λ k d below. absurd (omega (arith, below)))
joined_within first end (run ∷ runs) (begins, some, joined) =
    let later = joined_within run.end end runs joined in (
      omega (arith, begins, some, later.0),
      All-cons (IsWithin first end) run runs (omega (arith, begins), later.0)
          (λ k d below. let here = later.1 k d below in (omega (arith, begins, some, here.0), here.1)),
    )

joined_disjoint : (first end : ℕ) (runs : List PageRun) → AreJoined first end runs → AllPairs IsBelow runs
unfolding IsWithin
joined_disjoint first end [] ends = λ i j d before below. absurd (omega (arith, below))
joined_disjoint first end (run ∷ runs) (begins, some, joined) =
    let later = joined_within run.end end runs joined in
    AllPairs-cons IsBelow run runs (λ k d below. (later.1 k d below).0) (joined_disjoint run.end end runs joined)

later_one : {P : PageRun → Type 0} (run : PageRun) (runs : List PageRun) → Any P runs → Any P (run ∷ runs)
later_one run runs (k, other, below, is, holds) = (suc k, other, omega (arith, below), is, holds)

joined_reaches : (first end other : ℕ) (runs : List PageRun) → AreJoined first end runs → first ≤ other → other < end → Any (IsIn other) runs
joined_reaches first end other [] ends from to = absurd (omega (arith, ends, from, to))
joined_reaches first end other (run ∷ runs) (begins, some, joined) from to =
    elim (cases_lt other run.end) [
      | inl below ↦ (0, run, omega arith, refl, (omega (arith, begins, from), below))
      | inr past ↦ later_one run runs (joined_reaches run.end end other runs joined past to)
    ]

joined_only : (first end other : ℕ) (runs : List PageRun) → AreJoined first end runs → Any (IsIn other) runs → (first ≤ other) × (other < end)
unfolding IsWithin
joined_only first end other runs joined (k, run, below, is, holds) =
    let within = subst (IsWithin first end) is ((joined_within first end runs joined).1 k run below) in
    (omega (arith, within.0, holds.0), omega (arith, within.1, holds.1))

pub reached_exactly : RangesAreReachedExactly
unfolding range_commands
reached_exactly vmid asid page pages fits =
    let commands = commands_up_to pages vmid asid page pages in
    let joined = joined_up_to pages vmid asid page pages (omega arith) fits in
    record {
      alike = alike_up_to pages vmid asid page pages;
      joined = joined;
      disjoint = joined_disjoint page (page + pages) (runs_of commands) joined;
      exact = λ other. (
        (λ any. joined_only page (page + pages) other (runs_of commands) joined any),
        (λ is. joined_reaches page (page + pages) other (runs_of commands) joined is.0 is.1),
      );
    }
