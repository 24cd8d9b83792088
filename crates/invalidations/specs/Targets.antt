-- What is invalidated, and how it may be said.
use Rattle.std.specs.Prelude.{◌≡◌, ℕ, ◌+◌, ◌*◌, ◌/◌, ◌%◌, ◌^◌, ◌≤◌, Bool, true, false, Some, None}
use Rattle.cmdcodec.specs.declared.reach.Granule.{Granule}
use Rattle.cmdcodec.specs.declared.reach.Granule.TheVariants.{Kib4, Kib16, Kib64}
use Rattle.cmdcodec.specs.PageRuns.{granule_pages}
use Rattle.invalidations.specs.declared.entries.Level.{Level}
use Rattle.invalidations.specs.declared.entries.Level.TheVariants.{One, Two, Three}
use Rattle.invalidations.specs.declared.entries.Entries.{Entries}
use Rattle.invalidations.specs.declared.entries.Entries.TheVariants.{Any, Leaves}
use Rattle.invalidations.specs.declared.request.Request.{Request}
use Rattle.invalidations.specs.declared.request.Target.{Target}
use Rattle.invalidations.specs.Spaces.{size_of}

abbrev pub number_of : Level → ℕ
number_of One = 1
number_of Two = 2
number_of Three = 3

-- Leaf
abbrev pub is_leaf : Entries → Bool
is_leaf Any = false
is_leaf (Leaves level) = true

-- TTL
abbrev pub hint_of : Entries → ℕ
hint_of Any = 0
hint_of (Leaves None) = 0
hint_of (Leaves (Some level)) = number_of level

abbrev pub is_hinted : Entries → Bool
is_hinted Any = false
is_hinted (Leaves None) = false
is_hinted (Leaves (Some level)) = true

-- How many granules a leaf of this level has, as a power of 2. Level 1 of 16 KiB granules has no leaves.
abbrev pub level_bits : Granule → Level → ℕ
level_bits granule Three = 0
level_bits Kib4 Two = 9
level_bits Kib16 Two = 11
level_bits Kib64 Two = 13
level_bits Kib4 One = 18
level_bits Kib16 One = 0
level_bits Kib64 One = 26

-- the same of the leaves that changed, or a granule where their level isn't known
abbrev pub leaf_bits : Granule → Entries → ℕ
leaf_bits granule Any = 0
leaf_bits granule (Leaves None) = 0
leaf_bits granule (Leaves (Some level)) = level_bits granule level

-- the granules of a leaf
abbrev pub leaf_granules : Target → ℕ
leaf_granules target = 2 ^ leaf_bits target.granule target.entries

-- the pages of a leaf
abbrev pub leaf_pages : Target → ℕ
leaf_pages target = leaf_granules target * granule_pages target.granule

-- the bytes of a leaf
abbrev pub leaf_bytes : Target → ℕ
leaf_bytes target = leaf_pages target * 4096

-- the number of granules in its space
abbrev pub granules_in : Target → ℕ
granules_in target = size_of target.space / granule_pages target.granule

-- The range ends in the address space, and consists of whole leaves.
pub record Fits (request : Request) : Type 0 where
  pub inside : request.range.first + request.range.count ≤ granules_in request.target
  pub begins : request.range.first % leaf_granules request.target ≡ 0
  pub whole : request.range.count % leaf_granules request.target ≡ 0
