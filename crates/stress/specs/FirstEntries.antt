-- The entries that are filled before any batch: one for each sender, which the first command of its first batch covers.
use Rattle.std.specs.Prelude.{◌≡◌, ℕ, ◌<◌, Some}
use Rattle.std.specs.FinMap as finite
use Rattle.caches.specs.declared.tag.Tag.{Tag}
use Rattle.caches.specs.declared.tag.Tag.TheVariants.{S1}
use Rattle.caches.specs.declared.tag.Scope.TheVariants.{Of}
use Rattle.caches.specs.declared.tag.Entry.{Entry}
use Rattle.caches.specs.Held.{Entries}
use Rattle.engine.specs.Counting.{none_counted}
use Rattle.engine.specs.Units.{UnitValue}

abbrev pub tag_of : ℕ → Tag
tag_of s = S1 s (Of 0) 1 0

-- It is the entry of one of the first so many senders.
pub record IsFirstEntry (senders : ℕ) (tag : Tag) (entry : Entry) : Type 0 where
  pub sender : ℕ
  pub known : sender < senders
  pub tag_is : tag ≡ tag_of sender
  pub value_is : entry.value ≡ sender
  pub born_is : entry.born ≡ 0

-- No other entries are held.
abbrev pub HoldsFirst : ℕ → Entries → Type 0
HoldsFirst senders entries = (tag : Tag) (entry : Entry) → finite.get entries tag ≡ Some entry → IsFirstEntry senders tag entry

-- A unit that has taken nothing holds these, and so many.
pub record IsFilled (senders : ℕ) (unit : UnitValue) : Type 0 where
  pub first : HoldsFirst senders unit.caches.entries
  pub many : finite.len unit.caches.entries ≡ senders
  pub counts_are : unit.counts ≡ none_counted
