-- The slot of a key in the index, and what a slot says of the ordered map.
use Rattle.std.specs.Prelude.{◌≡◌, ℕ, ◌+◌, ◌*◌, ◌/◌, ◌%◌, ◌^◌, ◌<◌, ◌==◌, List, length, slice_index_or, Option, Some, None, IfSome}
use Rattle.std.specs.List.{count_by}
use Rattle.std.specs.declared.cmp.Ordering.{Ordering}
use Rattle.std.specs.BTreeMap.{BTreeMap}
use Rattle.std.specs.BTreeMap as tree
use Rattle.caches.specs.declared.tag.Entry.{Entry}
use Rattle.caches.specs.declared.key.Key.{Key}
use Rattle.caches.specs.declared.slot.Noted.{Noted}
use Rattle.caches.specs.declared.slot.Slot.{Slot}
use Rattle.caches.specs.declared.slot.Slot.TheVariants.{Unnoted, Newest}
use Rattle.caches.specs.Keys.{tag_of}
use Rattle.caches.specs.Ranks.{number_of}

-- the two halves of a number, each by a factor of its own, as one number of 64 bits
abbrev pub mixed : ℕ → ℕ
mixed n = (n % 2 ^ 64 * 0x9e3779b97f4a7c15 % 2 ^ 64 + n / 2 ^ 64 * 0xc2b2ae3d27d4eb4f % 2 ^ 64) % 2 ^ 64

-- the slot of a key: the upper bits of its mixed number
abbrev pub slot_of : ℕ → Key → ℕ
slot_of shift key = mixed (number_of key) / 2 ^ shift

-- ---- what a slot says
-- how many keys have it
abbrev pub size_of : Slot → ℕ
size_of (Unnoted all) = all
size_of (Newest others noted) = others + 1

-- the entry that it notes
abbrev pub noted_in : Slot → Option Noted
noted_in (Unnoted all) = None
noted_in (Newest others noted) = Some noted

abbrev pub entry_of : Noted → Entry
entry_of noted = record { tag = tag_of noted.rank; value = noted.value; born = noted.born }

module _ (cmp : Key → Key → Ordering) (shift : ℕ) (m : BTreeMap Key Entry) where
  -- how many of the map's keys have the slot
  abbrev pub sharing : ℕ → ℕ
  sharing i = count_by (λ key. slot_of shift key == i) (tree.keys m)

  -- The entry is in the map, and its key has the slot.
  abbrev pub IsThere : ℕ → Noted → Type 0
  IsThere i noted = (tree.get cmp m noted.rank ≡ Some (entry_of noted)) × (slot_of shift noted.rank ≡ i)

  -- It counts the keys that have it, and what it notes is there.
  abbrev pub IsSlot : ℕ → Slot → Type 0
  IsSlot i slot = (size_of slot ≡ sharing i) × IfSome (noted_in slot) (IsThere i)

  abbrev pub IsIndexed : List Slot → Type 0
  IsIndexed slots = (i : ℕ) → i < length slots → IsSlot i (slice_index_or slots i (Unnoted 0))
