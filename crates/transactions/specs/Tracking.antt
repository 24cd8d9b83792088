-- The tracked unit as contracts see it, and what it knows of the commands taken.
use Rattle.std.specs.Prelude.{◌≡◌, ◌<◌, ◌+◌, ◌*◌, ◌/◌, ◌%◌, ◌^◌, ℕ, List, [], ◌++◌, length, None, replicate}
use Rattle.ringcore.specs.world.World.{Taken}
use Rattle.engine.specs.Settled.{IsSettled}
use Rattle.engine.specs.Counting.{taken}
use Rattle.caches.specs.Stored.{Stored}
use Rattle.engine.specs.Units.{UnitValue, new_unit, filled, with_entries}
use Rattle.engine.specs.Stops.{acknowledged_by}
use Rattle.engine.specs.declared.remedy.Remedy.{Remedy}
use Rattle.caches.specs.declared.tag.Tag.{Tag}
use Rattle.std.specs.FinMap as finite
use Rattle.transactions.specs.declared.recent_invalidations.Invalidation.{Invalidation}
use Rattle.transactions.specs.Since.{last_invalidations}
use Rattle.transactions.specs.Outstanding.{Slots, TellCovered, NoneIsOverdue}

-- the unit, the last invalidations, the outstanding transactions, and the number of the next
pub record TrackedValue : Type 0 where
  pub unit : UnitValue
  pub recent : List Invalidation
  pub outstanding : Slots
  pub next_number : ℕ

-- what is known beside the unit
pub record TrackingValue : Type 0 where
  pub recent : List Invalidation
  pub outstanding : Slots
  pub next_number : ℕ

abbrev pub tracked_with : UnitValue → TrackingValue → TrackedValue
tracked_with unit tracking = record {
  unit = unit;
  recent = tracking.recent;
  outstanding = tracking.outstanding;
  next_number = tracking.next_number;
}

-- The unit has taken exactly these: it counts as many, its entries are settled for them, it keeps
-- their last invalidations, it knows which outstanding transactions they cover, and none of those
-- is older than a CMD_SYNC behind what covers it.
pub record IsTracked (tracked : TrackedValue) (list : List Taken) : Type 0 where
  pub many : taken tracked.unit.counts ≡ length list
  pub settled : IsSettled tracked.unit.caches.entries list
  pub recorded : tracked.recent ≡ last_invalidations list
  pub covered : TellCovered tracked.outstanding list
  pub on_time : NoneIsOverdue tracked.outstanding list

-- Whatever was taken before, the same and these are taken now.
abbrev pub StaysTracked : TrackedValue → TrackedValue → List Taken → Type 0
StaysTracked old new more = (list : List Taken) → IsTracked old list → IsTracked new (list ++ more)

-- ---- numbers of transactions

-- the number of the unit that a transaction is of: the upper 8 of its 48 bits
abbrev pub unit_of : ℕ → ℕ
unit_of number = number / 2 ^ 40

-- the first number of a unit's transactions
abbrev pub first_number : ℕ → ℕ
first_number unit = unit * 2 ^ 40 + 1

-- The lower 40 bits are 1 to 2^40 - 1,
abbrev pub IsNumber : ℕ → Type 0
IsNumber number = (0 < number % 2 ^ 40) × (number < 2 ^ 48)

-- and then begin again.
abbrev pub number_after : ℕ → ℕ
number_after number = unit_of number * 2 ^ 40 + (number % 2 ^ 40 % 1099511627775 + 1)

-- ---- what a call leaves

-- a unit of this number that has taken nothing, with these caches and room for so many transactions
abbrev pub new_tracked : ℕ → Stored → ℕ → TrackedValue
new_tracked number caches room = record {
  unit = new_unit caches;
  recent = [];
  outstanding = replicate room None;
  next_number = first_number number;
}

-- nothing is known yet, and there is room for so many transactions
abbrev pub new_tracking : ℕ → ℕ → TrackingValue
new_tracking number room = record {
  recent = [];
  outstanding = replicate room None;
  next_number = first_number number;
}

-- the same once all is forgotten that was taken, and every slot is free
abbrev pub reset_tracking : TrackingValue → TrackingValue
reset_tracking t = record t { recent = []; outstanding = replicate (length t.outstanding) None }

abbrev pub with_unit : UnitValue → TrackedValue → TrackedValue
with_unit unit t = record t { unit = unit }

-- the same once an entry was filled that is born now
abbrev pub with_filled : Tag → ℕ → TrackedValue → TrackedValue
with_filled tag value t = with_unit (with_entries t.unit (filled tag value t.unit)) t

-- the same without the entry of a tag
abbrev pub with_evicted : Tag → TrackedValue → TrackedValue
with_evicted tag t =
    with_unit (with_entries t.unit (finite.remove t.unit.caches.entries tag)) t

-- the same once software acknowledged an error with a remedy
abbrev pub with_acknowledged : Remedy → TrackedValue → TrackedValue
with_acknowledged remedy t =
    with_unit (record t.unit { stop = acknowledged_by remedy t.unit.stop }) t
