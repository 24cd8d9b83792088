-- The spans of the blocks that were ever put into the caches.
use Rattle.std.specs.Prelude.{◌≡◌, ℕ, IsSome, None}
use Rattle.std.specs.declared.cmp.Ordering.{Ordering}
use Rattle.std.specs.BTreeMap.{BTreeMap}
use Rattle.std.specs.BTreeMap as tree
use Rattle.std.specs.FinMap as finite
use Rattle.caches.specs.declared.spans.Spans.{Spans}
use Rattle.caches.specs.declared.tag.Tag.{Tag}
use Rattle.caches.specs.declared.tag.Entry.{Entry}
use Rattle.caches.specs.declared.key.Key.{Key}
use Rattle.caches.specs.Blocks.{HasSpan}
use Rattle.caches.specs.Held.{Entries}
use Rattle.caches.specs.Keys.{key_of, span_of}

-- A block of this span was put in.
abbrev pub IsSpanOf : Spans → ℕ → Type 0
IsSpanOf spans n = HasSpan spans.used n

-- They include the span of every entry of the map.
abbrev pub AreSpansOf : Spans → (Key → Key → Ordering) → BTreeMap Key Entry → Type 0
AreSpansOf spans cmp m = (q : Key) → IsSome (tree.get cmp m q) → IsSpanOf spans (span_of q)

-- No block of this span is held.
abbrev pub HasNoneOf : Entries → ℕ → Type 0
HasNoneOf entries n = (tag : Tag) → span_of (key_of tag) ≡ n → finite.get entries tag ≡ None
