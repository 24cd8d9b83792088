-- Which pages an invalidation by address reaches.
use Rattle.std.specs.Prelude.{◌≡◌, ◌<◌, ◌≤◌, ℕ, ◌+◌, ◌*◌, ◌/◌, ◌^◌, nat_lt, Option, Some, None, if◌then◌else◌}
use Rattle.cmdcodec.specs.declared.reach.Granule.{Granule}
use Rattle.cmdcodec.specs.declared.reach.Granule.TheVariants.{Kib4, Kib16, Kib64}
use Rattle.cmdcodec.specs.declared.reach.Reach.{Reach}
use Rattle.cmdcodec.specs.declared.reach.Reach.TheVariants.{Page, Range}
use Rattle.cmdcodec.specs.declared.reach.PageRun.{PageRun}
use Rattle.cmdcodec.specs.declared.command.Command.{Command}
use Rattle.cmdcodec.specs.declared.command.Command.TheVariants.{TlbiNhVa, TlbiNhVaa, TlbiEl2Va, TlbiEl2Vaa, TlbiS2Ipa}

-- pages of 4,096 bytes per granule
abbrev pub granule_pages : Granule → ℕ
granule_pages Kib4 = 1
granule_pages Kib16 = 4
granule_pages Kib64 = 16

abbrev pub least : ℕ → ℕ → ℕ
least m n = if nat_lt m n then m else n

-- The page, or (NUM + 1) * 2^SCALE granules from the one that holds the page, cut at the end of the address
-- space.
abbrev pub run_from : ℕ → Reach → ℕ → PageRun
run_from page Page space = record { first = page; end = page + 1 }
run_from page (Range tg num scale) space =
    let first = page / granule_pages tg * granule_pages tg in
    record { first = first; end = least (first + (num + 1) * 2 ^ scale * granule_pages tg) space }

abbrev pub run_of : Command → Option PageRun
run_of (TlbiNhVa vmid asid leaf page reach) = Some (run_from page reach (2 ^ 52))
run_of (TlbiNhVaa vmid leaf page reach) = Some (run_from page reach (2 ^ 52))
run_of (TlbiEl2Va asid leaf page reach) = Some (run_from page reach (2 ^ 52))
run_of (TlbiEl2Vaa leaf page reach) = Some (run_from page reach (2 ^ 52))
run_of (TlbiS2Ipa vmid leaf page reach) = Some (run_from page reach (2 ^ 40))
run_of not_by_address = None

-- The page is in the run.
abbrev pub IsIn : ℕ → PageRun → Type 0
IsIn page run = (run.first ≤ page) × (page < run.end)

-- The other page is reached from the page: it is the page itself, or its granule is one of the
-- (NUM + 1) * 2^SCALE that start with the page's.
abbrev pub IsReached : ℕ → Reach → ℕ → ℕ → Type 0
IsReached page Page space other = other ≡ page
IsReached page (Range tg num scale) space other =
    (page / granule_pages tg ≤ other / granule_pages tg) × (other / granule_pages tg < page / granule_pages tg + (num + 1) * 2 ^ scale)
    × (other < space)
