-- The list of entries in a buffer of C.
use Rattle.std.specs.Prelude.{◌≡◌, ◌≤◌, ◌*◌, ℕ, length, List, Option, Some, None, map}
use Rattle.std.specs.FinMap as finite
use Rattle.std.specs.List.Sorted.{IsPermutation}
use Rattle.cmdcodec.specs.declared.command.Command.{Command}
use Rattle.caches.specs.declared.tag.Tag.{Tag}
use Rattle.caches.specs.declared.tag.Tag.TheVariants.{Ste, Cd, S1, S2, El2, Atc}
use Rattle.caches.specs.declared.tag.Scope.{Scope}
use Rattle.caches.specs.declared.tag.Scope.TheVariants.{Global, Of}
use Rattle.caches.specs.declared.tag.Entry.{Entry}
use Rattle.caches.specs.declared.fault.CacheFault.TheVariants.{NoMemory}
use Rattle.caches.specs.Told.{only_covered}
use Rattle.engine.specs.Units.{UnitValue}
use Rattle.smmuq_c.specs.declared.status.Status.{Status}
use Rattle.smmuq_c.specs.declared.status.Status.TheVariants.{Cache}
use Rattle.smmuq_c.specs.declared.tags.TagWords.{TagWords}
use Rattle.smmuq_c.specs.declared.listing.EntryWords.{EntryWords}
use Rattle.smmuq_c.specs.Batches.{IsGiven}
use Rattle.smmuq_c.specs.Entries.{entry_words}

-- ---- the words of a tag, 0 for a field that it doesn't have

abbrev pub no_tag : TagWords
no_tag = record { kind = 0; sid = 0; has_ssid = 0; ssid = 0; vmid = 0; scope = 0; asid = 0; span = 0; address = 0 }

abbrev pub with_scope : Scope → TagWords → TagWords
with_scope Global w = record w { scope = 2 }
with_scope (Of asid) w = record w { scope = 1; asid = asid }

abbrev pub with_substream : Option ℕ → TagWords → TagWords
with_substream None w = w
with_substream (Some ssid) w = record w { has_ssid = 1; ssid = ssid }

abbrev pub tag_words : Tag → TagWords
tag_words (Ste sid) = record no_tag { kind = 1; sid = sid }
tag_words (Cd sid ssid) = record no_tag { kind = 2; sid = sid; ssid = ssid }
tag_words (S1 vmid scope page span) = with_scope scope (record no_tag { kind = 3; vmid = vmid; address = page * 4096; span = span })
tag_words (S2 vmid page span) = record no_tag { kind = 4; vmid = vmid; address = page * 4096; span = span }
tag_words (El2 scope page span) = with_scope scope (record no_tag { kind = 5; address = page * 4096; span = span })
tag_words (Atc sid ssid page span) = with_substream ssid (record no_tag { kind = 6; sid = sid; address = page * 4096; span = span })

-- ---- an entry, and all of them

abbrev pub listed : Entry → EntryWords
listed entry = record { tag = tag_words entry.tag; held = entry_words entry }

-- All entries come first in the buffer, in the order of their tags; or it is too short, or memory ran out, and it
-- stays.
abbrev pub IsListed : List Entry → List EntryWords → List EntryWords → ℕ → Status → Type 0
IsListed entries old new told (Cache NoMemory) = new ≡ old
IsListed entries old new told status = IsGiven (map listed entries) old new told status

-- It told them, and changed nothing.
pub record HasListed (old_buffer new_buffer : List EntryWords) (told : ℕ) (old new : UnitValue) (status : Status) : Type 0 where
  pub listed_are : IsListed (finite.values old.caches.entries) old_buffer new_buffer told status
  pub new_is : new ≡ old

-- ---- those that a command covers

-- These entries come first in the buffer, each once, in some order; or it is too short, or memory ran out for as many as
-- fit, and it stays.
abbrev pub AreListedInSomeOrder : List Entry → List EntryWords → List EntryWords → ℕ → Status → Type 0
AreListedInSomeOrder entries old new told (Cache NoMemory) = (length entries ≤ length old) × (new ≡ old)
AreListedInSomeOrder entries old new told status =
    (list : List Entry) × IsPermutation entries list × IsGiven (map listed list) old new told status

-- It told those that the command covers, and changed nothing.
pub record HasToldCovered (command : Command) (old_buffer new_buffer : List EntryWords) (told : ℕ) (old new : UnitValue) (status : Status) : Type 0 where
  pub covered_are : AreListedInSomeOrder (finite.values (only_covered command old.caches.entries)) old_buffer new_buffer told status
  pub new_is : new ≡ old
