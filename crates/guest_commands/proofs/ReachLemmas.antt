-- How far the host's invalidations by address reach.
use Rattle.std.proofs.Common.{◌≡◌, ℕ, zero, suc, ◌+◌, ◌*◌, ◌/◌, ◌^◌, ◌<◌, ◌≤◌, ◌==◌, ◌&&◌, ◌⊎◌, Bool, true, false, cond, inl, inr, Some, None, refl, subst, nat_lt, arith}
use Rattle.std.proofs.lemmas.Bool.{and_from, and_parts, eqb-true, ltb-false, lt-ltb, ltb-true}
use Rattle.cmdcodec.specs.declared.reach.Granule.{Granule}
use Rattle.cmdcodec.specs.declared.reach.Granule.TheVariants.{Kib4, Kib16, Kib64}
use Rattle.cmdcodec.specs.declared.reach.PageRun.{PageRun}
use Rattle.cmdcodec.specs.declared.reach.Reach.{Reach}
use Rattle.cmdcodec.specs.declared.reach.Reach.TheVariants.{Page, Range}
use Rattle.cmdcodec.specs.PageRuns.{run_from, least}
use Rattle.caches.specs.Blocks.{meets}
use Rattle.range_hints.specs.declared.ttl.Ttl.{Ttl}
use Rattle.range_hints.specs.declared.ttl.Ttl.TheVariants.{AnyLevel, Level1, Level2, Level3}
use Rattle.range_hints.specs.Hints.{ttl_number}
use Rattle.smmu_features.specs.declared.smmu.Smmu.{Smmu}
use Rattle.invalidations.specs.ByAddress.{single}
use Rattle.invalidations.specs.Plans.{has_granule}
use Rattle.guest_commands.specs.HostCommands.{known_ttl, is_any, is_one, by_range, by_page, host_reach}
use Rattle.guest_commands.specs.Theorems.{IsLevelOf, HasReach, granule_in}

-- ---- Runs of pages.

-- One run lies in the other.
pub record IsWithin (a b : PageRun) : Type 0 where
  pub first : b.first ≤ a.first
  pub end : a.end ≤ b.end

pub meets_more : (pages a b : PageRun) → IsWithin a b → meets pages a ≡ true → meets pages b ≡ true
meets_more pages a b within e =
    let both = and_parts (nat_lt pages.first a.end) (nat_lt a.first pages.end) e in
    let low = ltb-true pages.first a.end both.0 in
    let high = ltb-true a.first pages.end both.1 in
    and_from _ _ (lt-ltb pages.first b.end (omega (arith, low, within.end))) (lt-ltb b.first pages.end (omega (arith, high, within.first)))

same_run : (a : PageRun) → IsWithin a a
same_run a = record { first = omega arith; end = omega arith }

least_at : (m n : ℕ) (b : Bool) → nat_lt m n ≡ b → cond b m n ≤ m
least_at m n true e = omega arith
least_at m n false e = ltb-false m n e

least_le : (m n : ℕ) → least m n ≤ m
least_le m n = least_at m n (nat_lt m n) refl

least_more_at : (m k n : ℕ) (a b : Bool) → nat_lt m n ≡ a → nat_lt k n ≡ b → m ≤ k → cond a m n ≤ cond b k n
least_more_at m k n true true e f h = h
least_more_at m k n true false e f h = omega (arith, ltb-true m n e)
least_more_at m k n false true e f h = omega (arith, ltb-false m n e, h)
least_more_at m k n false false e f h = omega arith

least_more : (m k n : ℕ) → m ≤ k → least m n ≤ least k n
least_more m k n h = least_more_at m k n (nat_lt m n) (nat_lt k n) refl refl h

abbrev pub IsNear : ℕ → Reach → Reach → Type 0
IsNear page reach other = IsWithin (run_from page reach (2 ^ 52)) (run_from page other (2 ^ 52))

within_granule : (page : ℕ) (tg : Granule) → IsNear page (Range tg 0 0) (single tg)
within_granule page Kib4 = record { first = omega arith; end = omega (arith, least_le (page / 1 * 1 + 1) (2 ^ 52)) }
within_granule page Kib16 = record { first = omega arith; end = least_more (page / 4 * 4 + 4) (page / 4 * 4 + 8) (2 ^ 52) (omega arith) }
within_granule page Kib64 = record { first = omega arith; end = least_more (page / 16 * 16 + 16) (page / 16 * 16 + 32) (2 ^ 52) (omega arith) }

one_parts : (num scale : ℕ) → is_one num scale ≡ true → (num ≡ 0) × (scale ≡ 0)
one_parts num scale e = let both = and_parts (num == 0) (scale == 0) e in (eqb-true num 0 both.0, eqb-true scale 0 both.1)

one_is_near : (page num scale : ℕ) (tg : Granule) → is_one num scale ≡ true → IsNear page (Range tg num scale) (single tg)
one_is_near page num scale tg e = let zero = one_parts num scale e in rw (zero.0, zero.1) (within_granule page tg)

-- ---- Hints.

known_level : (tg : Granule) (ttl : Ttl) → IsLevelOf tg (known_ttl tg ttl)
known_level Kib4 ttl = tt
known_level Kib16 AnyLevel = tt
known_level Kib16 Level1 = tt
known_level Kib16 Level2 = tt
known_level Kib16 Level3 = tt
known_level Kib64 ttl = tt

abbrev pub IsKept : Ttl → Ttl → Type 0
IsKept host ttl = (host ≡ AnyLevel) ⊎ (host ≡ ttl)

known_kept : (tg : Granule) (ttl : Ttl) → IsKept (known_ttl tg ttl) ttl
known_kept Kib4 ttl = inr refl
known_kept Kib16 AnyLevel = inr refl
known_kept Kib16 Level1 = inl refl
known_kept Kib16 Level2 = inr refl
known_kept Kib16 Level3 = inr refl
known_kept Kib64 ttl = inr refl

-- ---- The host's reach.

-- It reaches as far, the SMMU has it, and its hint is the guest's or none.
pub record IsGoodReach (smmu : Smmu) (page : ℕ) (reach : Reach) (ttl : Ttl) (host : Reach × Ttl) : Type 0 where
  pub near : IsNear page reach host.0
  pub had : HasReach smmu host.1 host.0
  pub kept : (host.1 ≡ AnyLevel) ⊎ ((host.1 ≡ ttl) × (granule_in host.0 ≡ granule_in reach))

not_zero : (num scale : ℕ) (ttl : Ttl) → (is_one num scale && is_any ttl) ≡ false → 0 < num + scale + ttl_number ttl
not_zero zero zero AnyLevel e = cc
not_zero (suc num) scale AnyLevel e = omega arith
not_zero zero (suc scale) AnyLevel e = omega arith
not_zero num scale Level1 e = omega arith
not_zero num scale Level2 e = omega arith
not_zero num scale Level3 e = omega arith

single_had : (smmu : Smmu) (tg : Granule) → smmu.range_invalidation ≡ true → has_granule smmu tg ≡ true → HasReach smmu AnyLevel (single tg)
single_had smmu Kib4 ranged granule = refl
single_had smmu Kib16 ranged granule = (ranged, granule, tt, omega arith)
single_had smmu Kib64 ranged granule = (ranged, granule, tt, omega arith)

by_range_at : (smmu : Smmu) (page num scale : ℕ) (tg : Granule) (known ttl : Ttl) (b : Bool) → (is_one num scale && is_any known) ≡ b → smmu.range_invalidation ≡ true → has_granule smmu tg ≡ true
    → IsLevelOf tg known → IsKept known ttl → IsGoodReach smmu page (Range tg num scale) ttl (cond b (single tg, AnyLevel) (Range tg num scale, known))
by_range_at smmu page num scale tg known ttl true e ranged granule level kept = record {
  near = one_is_near page num scale tg (and_parts (is_one num scale) (is_any known) e).0;
  had = single_had smmu tg ranged granule;
  kept = inl refl;
}
by_range_at smmu page num scale tg known ttl false e ranged granule level kept =
    record { near = same_run _; had = (ranged, granule, level, not_zero num scale known e); kept = elim kept [ inl none ↦ inl none | inr same ↦ inr (same, refl) ] }

pair_same : (x y : Reach × Ttl) → Some x ≡ Some y → x ≡ y
pair_same x y e = cc

by_page_at : (smmu : Smmu) (page num scale : ℕ) (ttl : Ttl) (host : Reach × Ttl) (b : Bool) → is_one num scale ≡ b → cond b (Some (Page, AnyLevel)) None ≡ Some host
    → IsGoodReach smmu page (Range Kib4 num scale) ttl host
by_page_at smmu page num scale ttl host true e is =
    subst (IsGoodReach smmu page (Range Kib4 num scale) ttl) (pair_same (Page, AnyLevel) host is) (record { near = one_is_near page num scale Kib4 e; had = refl; kept = inl refl })
by_page_at smmu page num scale ttl host false e is = cc

by_page_good : (smmu : Smmu) (page num scale : ℕ) (tg : Granule) (ttl : Ttl) (host : Reach × Ttl) → by_page tg num scale ≡ Some host → IsGoodReach smmu page (Range tg num scale) ttl host
by_page_good smmu page num scale Kib4 ttl host is = by_page_at smmu page num scale ttl host (is_one num scale) refl is
by_page_good smmu page num scale Kib16 ttl host is = cc
by_page_good smmu page num scale Kib64 ttl host is = cc

range_at : (smmu : Smmu) (page num scale : ℕ) (tg : Granule) (ttl : Ttl) (host : Reach × Ttl) (b : Bool) → (smmu.range_invalidation && has_granule smmu tg) ≡ b
    → cond b (Some (by_range tg num scale (known_ttl tg ttl))) (by_page tg num scale) ≡ Some host → IsGoodReach smmu page (Range tg num scale) ttl host
range_at smmu page num scale tg ttl host true e is =
    let both = and_parts smmu.range_invalidation (has_granule smmu tg) e in
    let known = known_ttl tg ttl in
    subst (IsGoodReach smmu page (Range tg num scale) ttl) (pair_same (by_range tg num scale known) host is)
    (by_range_at smmu page num scale tg known ttl (is_one num scale && is_any known) refl both.0 both.1 (known_level tg ttl) (known_kept tg ttl))
range_at smmu page num scale tg ttl host false e is = by_page_good smmu page num scale tg ttl host is

pub good_reach : (smmu : Smmu) (page : ℕ) (reach : Reach) (ttl : Ttl) (host : Reach × Ttl) → host_reach smmu reach ttl ≡ Some host → IsGoodReach smmu page reach ttl host
good_reach smmu page Page ttl host is =
    subst (IsGoodReach smmu page Page ttl) (pair_same (Page, AnyLevel) host is) (record { near = same_run _; had = refl; kept = inl refl })
good_reach smmu page (Range tg num scale) ttl host is = range_at smmu page num scale tg ttl host (smmu.range_invalidation && has_granule smmu tg) refl is
