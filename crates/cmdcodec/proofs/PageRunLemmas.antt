-- How far a range may reach, and which pages it reaches.
use Rattle.std.proofs.Common.{ℕ, ◌+◌, ◌*◌, ◌/◌, ◌^◌, ◌<◌, ◌≤◌, nat_lt, inl, inr, arith}
use Rattle.std.proofs.lemmas.Bool.{cases_Bool, ltb-true, ltb-false}
use Rattle.std.proofs.lemmas.Nat.{mul-le}
use Rattle.std.proofs.Math.Nat.{pow-le-pow_right}
use Rattle.cmdcodec.specs.declared.reach.Granule.TheVariants.{Kib4, Kib16, Kib64}
use Rattle.cmdcodec.specs.declared.reach.Reach.TheVariants.{Page, Range}
use Rattle.cmdcodec.specs.PageRuns.{least}
use Rattle.cmdcodec.specs.Laws.{RunsAreOfWholeGranules}

pub granules_fit : (num scale : ℕ) → num < 32 → scale < 32 → (num + 1) * 2 ^ scale ≤ 2 ^ 36
granules_fit num scale n s =
    let below : scale ≤ 31 = omega (arith, s) in
    mul-le (num + 1) (2 ^ scale) 32 (2 ^ 31) (omega (arith, n)) (pow-le-pow_right (omega arith) below)

below_both : (k m n : ℕ) → k < least m n → (k < m) × (k < n)
below_both k m n below =
    elim (cases_Bool (nat_lt m n)) [
      | inl less ↦ let first : k < m = rw less at below in (first, omega (arith, first, ltb-true m n less))
      | inr not ↦ let second : k < n = rw not at below in (omega (arith, second, ltb-false m n not), second)
    ]

below_least : (k m n : ℕ) → k < m → k < n → k < least m n
below_least k m n first second =
    elim (cases_Bool (nat_lt m n)) [
      | inl less ↦ rw less first
      | inr not ↦ rw not second
    ]

pub whole_granules : RunsAreOfWholeGranules
whole_granules page space other Page inside =
    ((λ h. omega (arith, h.0, h.1)), (λ is. (omega (arith, is), omega (arith, is))))
whole_granules page space other (Range Kib4 num scale) inside =
    let count = (num + 1) * 2 ^ scale in (
      (λ h. let both = below_both other (page / 1 * 1 + count * 1) space h.1 in (omega (arith, h.0), omega (arith, both.0), both.1)),
      (λ h. (omega (arith, h.0), below_least other (page / 1 * 1 + count * 1) space (omega (arith, h.1)) h.2)),
    )
whole_granules page space other (Range Kib16 num scale) inside =
    let count = (num + 1) * 2 ^ scale in (
      (λ h. let both = below_both other (page / 4 * 4 + count * 4) space h.1 in (omega (arith, h.0), omega (arith, both.0), both.1)),
      (λ h. (omega (arith, h.0), below_least other (page / 4 * 4 + count * 4) space (omega (arith, h.1)) h.2)),
    )
whole_granules page space other (Range Kib64 num scale) inside =
    let count = (num + 1) * 2 ^ scale in (
      (λ h. let both = below_both other (page / 16 * 16 + count * 16) space h.1 in (omega (arith, h.0), omega (arith, both.0), both.1)),
      (λ h. (omega (arith, h.0), below_least other (page / 16 * 16 + count * 16) space (omega (arith, h.1)) h.2)),
    )
