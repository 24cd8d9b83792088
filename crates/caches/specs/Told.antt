-- What a command covers of the entries that are held, and how it is told.
use Rattle.std.specs.Prelude.{◌≡◌, ℕ, true, List, ◌++◌, length, take, drop, Some}
use Rattle.std.specs.FinMap as finite
use Rattle.std.specs.List.Sorted.{IsPermutation}
use Rattle.cmdcodec.specs.declared.command.Command.{Command}
use Rattle.caches.specs.declared.tag.Entry.{Entry}
use Rattle.caches.specs.Covers.{covers}
use Rattle.caches.specs.Held.{Entries}

-- the entries that the command covers
abbrev pub only_covered : Command → Entries → Entries
only_covered command entries = finite.retain_keys entries (covers command)

-- The entry is held under its own tag, and the command covers that.
pub record IsCoveredIn (entries : Entries) (command : Command) (entry : Entry) : Type 0 where
  pub held : finite.get entries entry.tag ≡ Some entry
  pub covered : covers command entry.tag ≡ true

-- what stood there, with the list over its beginning as far as there is room
abbrev pub begun_with : List Entry → List Entry → List Entry
begun_with list old = take (length old) list ++ drop (length list) old

-- Each of these entries is told once, in some order, and they are counted, those too for which there was no room.
pub record AreTold (entries : Entries) (old new : List Entry) (count : ℕ) : Type 0 where
  pub list : List Entry
  pub all : IsPermutation (finite.values entries) list
  pub counted : count ≡ length list
  pub begun : new ≡ begun_with list old
