-- The run of an invalidation by address has a page, and ends within the address space.
use Rattle.std.proofs.Common.{ℕ, ◌+◌, ◌*◌, ◌/◌, ◌^◌, ◌<◌, ◌≤◌, nat_lt, inl, inr, arith}
use Rattle.std.proofs.lemmas.Bool.{cases_Bool, ltb-true}
use Rattle.std.proofs.lemmas.Nat.{pow_pos, mul-le}
use Rattle.cmdcodec.specs.declared.command.Command.{Command}
use Rattle.cmdcodec.specs.declared.command.Command.TheVariants.{TlbiNhVa, TlbiNhVaa, TlbiEl2Va, TlbiEl2Vaa, TlbiS2Ipa}
use Rattle.cmdcodec.specs.declared.reach.Granule.TheVariants.{Kib4, Kib16, Kib64}
use Rattle.cmdcodec.specs.declared.reach.Reach.{Reach}
use Rattle.cmdcodec.specs.declared.reach.Reach.TheVariants.{Page, Range}
use Rattle.cmdcodec.specs.PageRuns.{least, run_from, run_of}
use Rattle.caches.specs.Laws.{HasPageInRange}
use Rattle.regions.specs.declared.pages.Pages.TheVariants as pages
use Rattle.regions.specs.CommandRegions.{pages_of_run}
use Rattle.regions.specs.Regions.{HasPages}

ends : (k m n : ℕ) → k < m → k < n → (k < least m n) × (least m n ≤ n)
ends k m n first second =
    elim (cases_Bool (nat_lt m n)) [
      | inl less ↦ rw less (first, omega (arith, ltb-true m n less))
      | inr not ↦ rw not (second, omega arith)
    ]

count_some : (num scale : ℕ) → 0 < (num + 1) * 2 ^ scale
count_some num scale = omega (arith, mul-le 1 1 (num + 1) (2 ^ scale) (omega arith) (pow_pos scale))

run_some : (page space : ℕ) (reach : Reach) → page < space → space ≤ 2 ^ 52 → HasPages (pages.Run (run_from page reach space))
run_some page space Page inside small = (omega arith, omega (arith, inside, small))
run_some page space (Range Kib4 num scale) inside small =
    let some = count_some num scale in
    let both = ends (page / 1 * 1) (page / 1 * 1 + (num + 1) * 2 ^ scale * 1) space (omega (arith, some)) (omega (arith, inside)) in
    (both.0, omega (arith, both.1, small))
run_some page space (Range Kib16 num scale) inside small =
    let some = count_some num scale in
    let both = ends (page / 4 * 4) (page / 4 * 4 + (num + 1) * 2 ^ scale * 4) space (omega (arith, some)) (omega (arith, inside)) in
    (both.0, omega (arith, both.1, small))
run_some page space (Range Kib64 num scale) inside small =
    let some = count_some num scale in
    let both = ends (page / 16 * 16) (page / 16 * 16 + (num + 1) * 2 ^ scale * 16) space (omega (arith, some)) (omega (arith, inside)) in
    (both.0, omega (arith, both.1, small))

pub pages_some : (command : Command) → HasPageInRange command → HasPages (pages_of_run (run_of command))
pages_some (TlbiNhVa vmid asid leaf page reach) inside = run_some page (2 ^ 52) reach inside (omega arith)
pages_some (TlbiNhVaa vmid leaf page reach) inside = run_some page (2 ^ 52) reach inside (omega arith)
pages_some (TlbiEl2Va asid leaf page reach) inside = run_some page (2 ^ 52) reach inside (omega arith)
pages_some (TlbiEl2Vaa leaf page reach) inside = run_some page (2 ^ 52) reach inside (omega arith)
pages_some (TlbiS2Ipa vmid leaf page reach) inside = run_some page (2 ^ 40) reach inside (omega arith)
pages_some other inside = tt
