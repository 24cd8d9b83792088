-- Blocks and runs: intervals of numbers from `first` up to, but not including, `end`.
use Rattle.std.specs.Prelude.{◌≡◌, ◌≤◌, ℕ, ◌+◌, ◌*◌, ◌/◌, ◌%◌, ◌^◌, ◌&&◌, not, nat_lt, Bool}
use Rattle.cmdcodec.specs.declared.reach.PageRun.{PageRun}
use Rattle.caches.specs.declared.tag.Tag.{Tag}
use Rattle.caches.specs.declared.tag.Tag.TheVariants.{Ste, Cd, S1, S2, El2, Atc}

-- the block of 2^span pages that starts at this page
abbrev pub block : ℕ → ℕ → PageRun
block page span = record { first = page; end = page + 2 ^ span }

-- the aligned block of `size` numbers that holds this number
abbrev pub aligned : ℕ → ℕ → PageRun
aligned number size = record { first = number / size * size; end = number / size * size + size }

-- this number is in the interval
abbrev pub holds : PageRun → ℕ → Bool
holds run number = not (nat_lt number run.first) && nat_lt number run.end

-- two intervals have a number in common: neither ends before the other begins
abbrev pub meets : PageRun → PageRun → Bool
meets a b = nat_lt a.first b.end && nat_lt b.first a.end

-- The mask has blocks of 2^span pages, as bit `span`.
abbrev pub HasSpan : ℕ → ℕ → Type 0
HasSpan spans span = (span ≤ 52) × (spans / 2 ^ span % 2 ≡ 1)

-- at most 2^52 pages, starting at a multiple of their number
pub record IsAligned (page span : ℕ) : Type 0 where
  pub at_most : span ≤ 52
  pub multiple : page % 2 ^ span ≡ 0

-- a tag whose block, if it has one, is well formed; intermediate physical pages end at 2^40
abbrev pub IsBlock : Tag → Type 0
IsBlock (Ste sid) = Unit {0}
IsBlock (Cd sid ssid) = Unit {0}
IsBlock (S1 vmid scope page span) = IsAligned page span
IsBlock (S2 vmid page span) = IsAligned page span × (page + 2 ^ span ≤ 2 ^ 40)
IsBlock (El2 scope page span) = IsAligned page span
IsBlock (Atc sid ssid page span) = IsAligned page span
