-- Which entries are held after a history.
use Rattle.std.specs.Prelude.{◌≡◌, ℕ, nat_lt, Bool, false, not, List, [], ◌∷◌, ◌++◌, Some, filter, map}
use Rattle.std.specs.Ordering.{eq_by_cmp}
use Rattle.std.specs.FinMap as finite
use Rattle.std.specs.FinMap.{FinMap}
use Rattle.std.specs.List.{All}
use Rattle.std.specs.Option.{option_map_or}
use Rattle.cmdcodec.specs.declared.command.Command.{Command}
use Rattle.caches.specs.declared.tag.Tag.{Tag}
use Rattle.caches.specs.declared.tag.Entry.{Entry}
use Rattle.caches.specs.Covers.{covers}
use Rattle.caches.specs.TagOrder.{tag_cmp}

-- entries by their tags
abbrev pub Entries : Type 0
Entries = FinMap tag_cmp Entry

-- Each is held under its own tag.
abbrev pub AreOwn : Entries → Type 0
AreOwn entries = (tag : Tag) (entry : Entry) → finite.get entries tag ≡ Some entry → entry.tag ≡ tag

-- A history is a list of fills, evictions and commands, newest first. A refused fill isn't in it.
pub data Item : Type 0 where
  Fill : Entry → Item
  Evict : Tag → Item
  Take : Command → Item

abbrev pub History : Type 0
History = List Item

-- the entries whose tags don't pass a test
abbrev pub without_passing : (Tag → Bool) → Entries → Entries
without_passing passes entries = finite.retain_keys entries (λ tag. not (passes tag))

-- the entries that the command doesn't cover
abbrev pub without_covered : Command → Entries → Entries
without_covered command entries = without_passing (covers command) entries

-- an entry that passes a test is held under the tag
abbrev pub holds_passing : (Entry → Bool) → Entries → Tag → Bool
holds_passing passes entries tag = option_map_or passes (finite.get entries tag) false

-- the entries that don't pass a test
abbrev pub without_evicted : (Entry → Bool) → Entries → Entries
without_evicted passes entries = without_passing (holds_passing passes entries) entries

-- the entry was filled before this many commands were taken
abbrev pub is_older : ℕ → Entry → Bool
is_older born entry = nat_lt entry.born born

-- the entries that weren't filled before this many commands were taken
abbrev pub without_older : ℕ → Entries → Entries
without_older born entries = without_evicted (is_older born) entries

-- what is held after a history
abbrev pub held : History → Entries
held [] = finite.empty
held (Fill entry ∷ history) = finite.insert (held history) entry.tag entry
held (Evict tag ∷ history) = finite.remove (held history) tag
held (Take command ∷ history) = without_covered command (held history)

-- the item is a fill of the same tag, an eviction of it, or a command that covers it
abbrev pub ends : Item → Tag → Bool
ends (Fill entry) tag = eq_by_cmp tag_cmp tag entry.tag
ends (Evict other) tag = eq_by_cmp tag_cmp tag other
ends (Take command) tag = covers command tag

-- evictions of all that these entries hold under tags that pass a test
abbrev pub evictions : (Tag → Bool) → Entries → History
evictions passes entries = map Evict (filter passes (finite.keys entries))

-- evictions of all that these entries hold which was filled before this many commands were taken
abbrev pub older_evictions : ℕ → Entries → History
older_evictions born entries = evictions (holds_passing (is_older born) entries) entries

-- The history has a fill of this entry that no later item ends.
pub record IsStanding (history : History) (entry : Entry) : Type 0 where
  pub later : History
  pub earlier : History
  pub split : history ≡ later ++ Fill entry ∷ earlier
  pub unended : All (λ item. ends item entry.tag ≡ false) later

-- The entries are exactly the fills that no later item ends, each under its tag.
abbrev pub HeldAre : History → Entries → Type 0
HeldAre history entries = (tag : Tag) (entry : Entry) → (finite.get entries tag ≡ Some entry → (entry.tag ≡ tag) × IsStanding history entry)
    × (IsStanding history entry → finite.get entries entry.tag ≡ Some entry)
