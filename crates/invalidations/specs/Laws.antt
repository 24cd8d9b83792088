-- The law of the commands of an invalidation.
use Rattle.std.specs.Prelude.{◌≡◌, ◌≤◌, ℕ, ◌+◌, ◌*◌, ◌/◌, ◌%◌, ◌^◌, ◌==◌, ◌&&◌, not, Bool, true, false, List, length, All, Any, if◌then◌else◌}
use Rattle.cmdcodec.specs.declared.command.Command.{Command}
use Rattle.cmdcodec.specs.declared.reach.Granule.{Granule}
use Rattle.cmdcodec.specs.declared.reach.Granule.TheVariants.{Kib4, Kib16, Kib64}
use Rattle.cmdcodec.specs.declared.reach.Reach.{Reach}
use Rattle.cmdcodec.specs.declared.reach.PageRun.{PageRun}
use Rattle.cmdcodec.specs.PageRuns.{granule_pages, run_from, IsIn}
use Rattle.caches.specs.declared.tag.Tag.{Tag}
use Rattle.caches.specs.declared.tag.Tag.TheVariants.{Ste, Cd, S1, S2, El2, Atc}
use Rattle.caches.specs.Covers.{covers}
use Rattle.invalidations.specs.declared.space.Space.{Space}
use Rattle.invalidations.specs.declared.request.Request.{Request}
use Rattle.invalidations.specs.declared.request.Target.{Target}
use Rattle.invalidations.specs.Spaces.{size_of, command_for, translates, whole_command, is_one, is_of_one}
use Rattle.invalidations.specs.Targets.{is_leaf, is_hinted, leaf_granules, leaf_pages, Fits}
use Rattle.invalidations.specs.ByAddress.{commands_by_address}

-- the pages of `count` granules from this one on
abbrev pub pages_from : Granule → ℕ → ℕ → PageRun
pages_from granule first count =
    record { first = first * granule_pages granule; end = (first + count) * granule_pages granule }

-- A block of this many pages from this one on consists of whole leaves.
abbrev pub AreWholeLeaves : Target → ℕ → ℕ → Type 0
AreWholeLeaves target page pages = (page % leaf_pages target ≡ 0) × (pages % leaf_pages target ≡ 0)

-- The tag's block, if it has one, consists of whole leaves: as any has that comes from such a leaf.
abbrev pub IsOfWholeLeaves : Target → Tag → Type 0
IsOfWholeLeaves target (Ste sid) = Unit {0}
IsOfWholeLeaves target (Cd sid ssid) = Unit {0}
IsOfWholeLeaves target (S1 vmid scope page span) = AreWholeLeaves target page (2 ^ span)
IsOfWholeLeaves target (S2 vmid page span) = AreWholeLeaves target page (2 ^ span)
IsOfWholeLeaves target (El2 scope page span) = AreWholeLeaves target page (2 ^ span)
IsOfWholeLeaves target (Atc sid ssid page span) = AreWholeLeaves target page (2 ^ span)

-- One of the commands covers the tag.
abbrev pub IsCoveredBy : List Command → Tag → Type 0
IsCoveredBy commands tag = Any (λ command. covers command tag ≡ true) commands

-- Each translation of these pages is covered, if it passes this test.
abbrev pub AreCovered : Target → PageRun → (Tag → Type 0) → List Command → Type 0
AreCovered target pages Passes commands =
    (page : ℕ) → IsIn page pages → (tag : Tag) → Passes tag → translates target.space page tag ≡ true → IsCoveredBy commands tag

abbrev pub has_single : Granule → Bool
has_single Kib4 = true
has_single Kib16 = false
has_single Kib64 = false

-- how many granules more a command may reach: a lone granule of several pages, without TTL, takes its neighbour along
abbrev pub excess : Target → ℕ → ℕ
excess target count =
    if target.ranged && (count == 1 && (not (is_hinted target.entries) && not (has_single target.granule))) then 1 else 0

-- The command is one by address for this space, begins with a leaf, and reaches none but these pages.
abbrev pub IsWithin : Target → PageRun → Command → Type 0
IsWithin target pages command =
    (page : ℕ) × (reach : Reach) × (command ≡ command_for target.space (is_leaf target.entries) page reach) × (page % leaf_pages target ≡ 0)
    × (pages.first ≤ (run_from page reach (size_of target.space)).first) × ((run_from page reach (size_of target.space)).end ≤ pages.end)

-- What the commands of an invalidation do.
pub record Invalidates (target : Target) (first count : ℕ) (commands : List Command) : Type 0 where
  -- by ranges every translation of the range is covered
  pub by_ranges : target.ranged ≡ true → AreCovered target (pages_from target.granule first count) (λ tag. Unit {0}) commands
  -- and without them every one that comes from such leaves
  pub by_leaves : AreCovered target (pages_from target.granule first count) (IsOfWholeLeaves target) commands
  pub within : All (IsWithin target (pages_from target.granule first (count + excess target count))) commands
  pub few : target.ranged ≡ true → length commands ≤ 8 + count / 2 ^ 36
  pub one_each : target.ranged ≡ false → length commands ≡ count / leaf_granules target

abbrev pub InvalidationsCoverTheirRanges : Type 0
InvalidationsCoverTheirRanges =
    (request : Request) → Fits request → Invalidates request.target request.range.first request.range.count (commands_by_address request)

-- The command for all pages covers each translation for the space, but for global ones if it is one address space.
abbrev pub WholeSpacesAreCovered : Type 0
WholeSpacesAreCovered =
    (space : Space) (page : ℕ) (tag : Tag) → translates space page tag ≡ true → (is_one space ≡ true → is_of_one tag ≡ true) → covers (whole_command space) tag ≡ true
