-- The commands that invalidate a run of pages.
use Rattle.std.specs.Prelude.{ℕ, zero, suc, ◌+◌, ◌-◌, ◌*◌, ◌/◌, ◌%◌, ◌^◌, ◌==◌, min, true, List, [], ◌∷◌, if◌then◌else◌}
use Rattle.std.specs.Int.{w64, trailing_zeros}
use Rattle.cmdcodec.specs.declared.command.Command.{Command}
use Rattle.cmdcodec.specs.declared.command.Command.TheVariants.{TlbiNhVa}
use Rattle.cmdcodec.specs.declared.reach.Granule.TheVariants.{Kib4}
use Rattle.cmdcodec.specs.declared.reach.Reach.{Reach}
use Rattle.cmdcodec.specs.declared.reach.Reach.TheVariants.{Page, Range}

-- With `pages` pages left, the next command reaches `count * 2^scale` of them. The scale is the number of
-- trailing zero bits of `pages`, at most 31.
unfoldable pub scale_of : ℕ → ℕ
scale_of pages = min (trailing_zeros w64 pages) 31

-- the five bits of `pages` from the scale on, or 32 if these are 0
unfoldable pub count_of : ℕ → ℕ
count_of pages = if pages / 2 ^ scale_of pages % 32 == 0 then 32 else pages / 2 ^ scale_of pages % 32

-- how many pages the next command reaches
unfoldable pub reached_of : ℕ → ℕ
reached_of pages = count_of pages * 2 ^ scale_of pages

-- A single page is no range; otherwise NUM is the count minus one, in granules of one page.
unfoldable pub reach_of : ℕ → Reach
reach_of pages = if reached_of pages == 1 then Page else Range Kib4 (count_of pages - 1) (scale_of pages)

-- One command, with Leaf 1, and those for the pages after it; at most `most` in all.
unfoldable pub commands_up_to : ℕ → ℕ → ℕ → ℕ → ℕ → List Command
commands_up_to zero vmid asid page pages = []
commands_up_to (suc most) vmid asid page pages =
    if pages == 0 then []
    else TlbiNhVa vmid asid true page (reach_of pages) ∷ commands_up_to most vmid asid (page + reached_of pages) (pages - reached_of pages)

-- There are no more commands than pages, since each reaches at least one.
unfoldable pub range_commands : ℕ → ℕ → ℕ → ℕ → List Command
range_commands vmid asid page pages = commands_up_to pages vmid asid page pages
