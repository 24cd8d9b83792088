-- What callers see of the entries that are held, and what is true of them inside.
use Rattle.std.specs.Prelude.{◌≡◌, false}
use Rattle.std.specs.declared.cmp.Ordering.{Ordering}
use Rattle.std.specs.FinMap as finite
use Rattle.caches.specs.declared.key.Key.{Key}
use Rattle.caches.specs.declared.entry_map.EntryMap.TheInside.{Inside}
use Rattle.caches.specs.Held.{Entries}
use Rattle.caches.specs.OneStreams.{HaveNoSubstreams}
use Rattle.caches.specs.Spanned.{AreSpansOf}
use Rattle.caches.specs.Sweep.{IsKeeping}
use Rattle.caches.specs.Unlisted.{unlisted}

-- the entries of the map but those that count as removed
abbrev pub unremoved : Inside → Entries
unremoved inside = unlisted inside.map.ordered inside.removed.items

-- They are counted. Each entry of the map is one that may be held, under its own key; its span was put in. No entry that
-- is held is of another substream than 0 unless such a one was put in.
pub record IsEntryMap (cmp : Key → Key → Ordering) (inside : Inside) : Type 0 where
  pub counted : inside.len ≡ finite.len (unremoved inside)
  pub keeping : IsKeeping cmp inside.map.ordered
  pub spanned : AreSpansOf inside.spans cmp inside.map.ordered
  pub main : inside.substreams ≡ false → HaveNoSubstreams (unremoved inside)
