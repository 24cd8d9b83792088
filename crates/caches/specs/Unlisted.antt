-- The entries of an ordered map under their tags, without those whose keys are listed.
use Rattle.std.specs.Prelude.{◌≡◌, Bool, not, List, map, Some}
use Rattle.std.specs.declared.cmp.Ordering.{Ordering}
use Rattle.std.specs.List.{list_any}
use Rattle.std.specs.Ordering.{eq_by_cmp}
use Rattle.std.specs.BTreeMap.{BTreeMap}
use Rattle.std.specs.BTreeMap as tree
use Rattle.std.specs.FinMap as finite
use Rattle.caches.specs.declared.tag.Tag.{Tag}
use Rattle.caches.specs.declared.tag.Entry.{Entry}
use Rattle.caches.specs.declared.key.Key.{Key}
use Rattle.caches.specs.Keys.{tag_of}
use Rattle.caches.specs.Held.{Entries}
use Rattle.caches.specs.TagOrder.{tag_cmp}

-- entries under their tags
abbrev pub tagged : List (Key × Entry) → List (Tag × Entry)
tagged es = map {B = Tag × Entry} (λ (e : Key × Entry). (tag_of e.0, e.1)) es

-- the tag's key is listed
abbrev pub is_listed : List Key → Tag → Bool
is_listed keys tag = list_any (λ key. eq_by_cmp tag_cmp tag (tag_of key)) keys

-- The first map's entries are entries of the second.
abbrev pub IsPartOf : (Key → Key → Ordering) → BTreeMap Key Entry → BTreeMap Key Entry → Type 0
IsPartOf cmp n m = (key : Key) (entry : Entry) → tree.get cmp n key ≡ Some entry → tree.get cmp m key ≡ Some entry

-- the map's entries but the listed ones
abbrev pub unlisted : BTreeMap Key Entry → List Key → Entries
unlisted m keys = finite.retain_keys (finite.from_entries (tagged m.entries)) (λ tag. not (is_listed keys tag))
