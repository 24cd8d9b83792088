-- What fills, look-ups and evictions do to a unit, and what C gets of them.
use Rattle.std.specs.Prelude.{◌≡◌, ℕ, Option, Some, None, Result, Ok, Err, OnOk, OnErr, IfSome}
use Rattle.std.specs.FinMap as finite
use Rattle.caches.specs.declared.tag.Tag.{Tag}
use Rattle.caches.specs.declared.tag.Entry.{Entry}
use Rattle.caches.specs.declared.fault.CacheFault.{CacheFault}
use Rattle.caches.specs.Stored.{IsFillAnswer}
use Rattle.engine.specs.Units.{UnitValue, filled, with_entries}
use Rattle.smmuq_c.specs.declared.status.Status.{Status}
use Rattle.smmuq_c.specs.declared.status.Status.TheVariants.{Done, Cache, NotHeld}
use Rattle.smmuq_c.specs.declared.words.Held.{Held}

abbrev pub fill_status : Result (Option Entry) CacheFault → Status
fill_status (Ok was) = Done
fill_status (Err fault) = Cache fault

-- An entry of this value was put in, which is born now; or it was refused, and nothing changed.
pub record HasFilled (tag : Tag) (value : ℕ) (old new : UnitValue) (status : Status) : Type 0 where
  pub answer : Result (Option Entry) CacheFault
  pub answered : IsFillAnswer old.caches tag answer
  pub ok : OnOk answer (new ≡ with_entries old (filled tag value old))
  pub err : OnErr answer (new ≡ old)
  pub status_is : status ≡ fill_status answer

abbrev pub entry_status : Option Entry → Status
entry_status (Some entry) = Done
entry_status None = NotHeld

abbrev pub entry_words : Entry → Held
entry_words entry = record { value = entry.value; born = entry.born }

-- It tells the entry that is held under the tag, if one is.
pub record TellsEntry (tag : Tag) (told : Held) (unit : UnitValue) (status : Status) : Type 0 where
  pub status_is : status ≡ entry_status (finite.get unit.caches.entries tag)
  pub told_is : IfSome (finite.get unit.caches.entries tag) (λ entry. told ≡ entry_words entry)

-- It told that, and changed nothing.
pub record HasLookedUp (tag : Tag) (told : Held) (old new : UnitValue) (status : Status) : Type 0 where
  pub tells : TellsEntry tag told old status
  pub new_is : new ≡ old

-- It told the entry that was held under the tag, if one was, and removed it.
pub record HasEvicted (tag : Tag) (told : Held) (old new : UnitValue) (status : Status) : Type 0 where
  pub tells : TellsEntry tag told old status
  pub new_is : new ≡ with_entries old (finite.remove old.caches.entries tag)

-- It told how many entries are held, and changed nothing.
pub record HasCounted (told : ℕ) (old new : UnitValue) (status : Status) : Type 0 where
  pub told_is : told ≡ finite.len old.caches.entries
  pub new_is : new ≡ old
  pub status_is : status ≡ Done
