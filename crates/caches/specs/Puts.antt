-- Putting an entry into the ordered map, and taking one out.
use Rattle.std.specs.Prelude.{◌≡◌, ◌+◌, if◌then◌else◌, Option, Some, None, is_some, Result}
use Rattle.std.specs.Result.{MatchResult}
use Rattle.std.specs.declared.cmp.Ordering.{Ordering}
use Rattle.std.specs.BTreeMap.{BTreeMap, get, is_at, btree_map_len, Updates, IsUnchanged}
use Rattle.std.specs.Map.{remove_entry}
use Rattle.caches.specs.declared.tag.Entry.{Entry}
use Rattle.caches.specs.declared.key.Key.{Key}
use Rattle.caches.specs.declared.fault.CacheFault.{CacheFault}
use Rattle.caches.specs.declared.fault.CacheFault.TheVariants.{NoMemory}

-- The entry is put in and the result is what was there before, or there is no memory for a new key.
abbrev pub IsPut : (Key → Key → Ordering) → BTreeMap Key Entry → Key → Entry → BTreeMap Key Entry → Result (Option Entry) CacheFault → Type 0
IsPut cmp m key entry n result = MatchResult result
    (λ was. (was ≡ get cmp m key) × Updates cmp m n key (Some entry))
    (λ fault. (fault ≡ NoMemory) × IsUnchanged m n × (get cmp m key ≡ None))

-- n is m without the key's entry, if it has one.
pub record IsTakenOut (cmp : Key → Key → Ordering) (m : BTreeMap Key Entry) (key : Key) (n : BTreeMap Key Entry) : Type 0 where
  pub updates : Updates cmp m n key None
  pub entries : n.entries ≡ remove_entry (is_at (cmp key)) m.entries
  pub len : btree_map_len n + (if is_some (get cmp m key) then 1 else 0) ≡ btree_map_len m
