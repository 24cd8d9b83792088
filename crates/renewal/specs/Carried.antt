-- Entries carried into the caches of a new queue.
use Rattle.std.specs.Prelude.{◌≡◌, ◌<◌, ◌≤◌, ℕ, Option, Some, None, IfSome}
use Rattle.std.specs.FinMap as finite
use Rattle.caches.specs.declared.tag.Tag.{Tag}
use Rattle.caches.specs.declared.tag.Entry.{Entry}
use Rattle.caches.specs.declared.fault.CacheFault.{CacheFault}
use Rattle.caches.specs.declared.fault.CacheFault.TheVariants.{Full, BadBlock, NoMemory, BadCapacity}
use Rattle.caches.specs.Blocks.{IsBlock}
use Rattle.caches.specs.Held.{Entries}
use Rattle.engine.specs.Stops.{unstopped}
use Rattle.engine.specs.Counting.{none_counted}
use Rattle.engine.specs.Units.{UnitValue}

-- the same entry, born before every command
abbrev pub reborn : Entry → Entry
reborn entry = record entry { born = 0 }

abbrev pub reborn_if : Option Entry → Option Entry
reborn_if None = None
reborn_if (Some entry) = Some (reborn entry)

-- What is held under a tag, if anything, has that tag. `lookup` ensures this for each tag that it is asked
-- for.
abbrev pub IsUnderItsTag : Entries → Tag → Type 0
IsUnderItsTag entries tag = IfSome (finite.get entries tag) (λ entry. entry.tag ≡ tag)

-- The entry is held under its own tag, and is the old entry there, reborn.
pub record IsReborn (old : Entries) (tag : Tag) (entry : Entry) : Type 0 where
  pub own : entry.tag ≡ tag
  pub was : Entry
  pub held : finite.get old tag ≡ Some was
  pub entry_is : entry ≡ reborn was

-- A unit that has taken nothing holds the entries of another, each reborn, and no others, with room for all.
pub record IsCarried (capacity : ℕ) (old new : UnitValue) : Type 0 where
  pub each : (tag : Tag) → IsUnderItsTag old.caches.entries tag → finite.get new.caches.entries tag ≡ reborn_if (finite.get old.caches.entries tag)
  pub only : (tag : Tag) (entry : Entry) → finite.get new.caches.entries tag ≡ Some entry → IsReborn old.caches.entries tag entry
  pub room : ((tag : Tag) → IsUnderItsTag old.caches.entries tag) → finite.len old.caches.entries ≤ capacity
  pub capacity_is : new.caches.capacity ≡ capacity
  pub stop_is : new.stop ≡ unstopped
  pub counts_are : new.counts ≡ none_counted

-- One of them has a block that isn't well formed.
pub record HasBadBlock (entries : Entries) : Type 0 where
  pub entry : Entry
  pub held : finite.get entries entry.tag ≡ Some entry
  pub bad : ¬ IsBlock entry.tag

-- Why they can't be carried: more are held than there is room for (C1), or memory ran out (C3).
abbrev pub IsUncarried : ℕ → Entries → CacheFault → Type 0
IsUncarried capacity entries Full = capacity < finite.len entries
IsUncarried capacity entries BadBlock = HasBadBlock entries
IsUncarried capacity entries NoMemory = Unit {0}
IsUncarried capacity entries BadCapacity = ⊥
