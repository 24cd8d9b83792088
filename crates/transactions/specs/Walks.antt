-- What becomes of what a walk read.
use Rattle.std.specs.Prelude.{◌≡◌, ◌≢◌, ◌≤◌, ◌<◌, ◌+◌, ◌*◌, ◌/◌, ◌%◌, ◌^◌, ◌==◌, ◌↔◌, ℕ, if◌then◌else◌, List, length, Option, Result, Ok, Err, OnOk}
use Rattle.ringcore.specs.Limits.{most_reserved}
use Rattle.ringcore.specs.world.World.{Taken}
use Rattle.caches.specs.declared.tag.Tag.{Tag}
use Rattle.caches.specs.declared.tag.Entry.{Entry}
use Rattle.caches.specs.Blocks.{IsBlock}
use Rattle.caches.specs.Stored.{Stored, IsFillAnswer}
use Rattle.engine.specs.Counting.{taken}
use Rattle.engine.specs.Units.{with_entries, with_entry}
use Rattle.transactions.specs.declared.walk.WalkFault.{WalkFault}
use Rattle.transactions.specs.declared.walk.WalkNumbers.{WalkNumbers}
use Rattle.transactions.specs.declared.walk.WalkFault.TheVariants.{Overtaken, TooOld, OtherUnit}
use Rattle.transactions.specs.declared.walk.WalkFault.TheVariants.{Refused}
use Rattle.transactions.specs.Since.{HasCoveredSince, IsTooOld}
use Rattle.transactions.specs.Tracking.{TrackedValue, IsTracked, unit_of, with_unit}

-- ---- numbers of walks

-- a walk of this unit that began after so many commands: the unit's number in the upper 8 bits
abbrev pub walk_number : ℕ → ℕ → ℕ
walk_number unit began = unit * 2 ^ 56 + began

-- after how many commands a walk of this unit began. One of another unit counts as begun after more
-- than are ever taken.
abbrev pub began_of : ℕ → ℕ → ℕ
began_of unit walk = if walk / 2 ^ 56 == unit then walk % 2 ^ 56 else 2 ^ 56

-- Numbers of 56 bits go on from this one, since no more commands were taken than now.
pub record AreNumbers (numbers : WalkNumbers) (taken : ℕ) : Type 0 where
  pub first : numbers.first < 2 ^ 56
  pub since : numbers.since ≤ taken
  pub few : taken ≤ most_reserved

-- the number of a walk that begins now
abbrev pub walk_now : TrackedValue → ℕ
walk_now t = walk_number (unit_of t.next_number) (taken t.unit.counts)

-- after how many commands of this unit a walk began
abbrev pub began_on : TrackedValue → ℕ → ℕ
began_on t walk = began_of (unit_of t.next_number) walk

-- Units of other numbers take this walk for one that began after more than are ever taken.
abbrev pub IsRefusedElsewhere : TrackedValue → ℕ → Type 0
IsRefusedElsewhere here walk =
    (other : TrackedValue) → unit_of other.next_number ≢ unit_of here.next_number
    → most_reserved < began_on other walk

-- ---- answers

abbrev pub WalkAnswer : Type 0
WalkAnswer = Result (Option Entry) WalkFault

-- The walk's own faults, by the list of what was taken. Accepted: nothing taken since it began
-- covers the tag. Overtaken: something does. Too old: more than 64 invalidations were taken since.
pub record IsWalkAnswer (list : List Taken) (began : ℕ) (tag : Tag) (a : WalkAnswer) : Type 0 where
  pub accepted : OnOk a ((began ≤ length list) × ¬ HasCoveredSince list began tag)
  pub overtaken : (a ≡ Err Overtaken)
      ↔ (IsBlock tag × (began ≤ length list) × ¬ IsTooOld list began
      × HasCoveredSince list began tag)
  pub too_old : (a ≡ Err TooOld) ↔ (IsBlock tag × (began ≤ length list) × IsTooOld list began)
  pub other : (a ≡ Err OtherUnit) ↔ (IsBlock tag × (length list < began))

-- For every list that was taken.
abbrev pub AnswersWalk : TrackedValue → ℕ → Tag → WalkAnswer → Type 0
AnswersWalk old began tag answer =
    (list : List Taken) → IsTracked old list → IsWalkAnswer list began tag answer

-- Where the walk has no fault of its own, the caches answer as they do for any entry.
abbrev pub IsCachesAnswer : Stored → Tag → WalkAnswer → Type 0
IsCachesAnswer held tag (Ok was) = IsFillAnswer held tag (Ok was)
IsCachesAnswer held tag (Err (Refused fault)) = IsFillAnswer held tag (Err fault)
IsCachesAnswer held tag (Err Overtaken) = Unit {0}
IsCachesAnswer held tag (Err TooOld) = Unit {0}
IsCachesAnswer held tag (Err OtherUnit) = Unit {0}

-- the entry that a walk read
abbrev pub walked : ℕ → Tag → ℕ → Entry
walked began tag value = record { tag = tag; value = value; born = began }

-- the tracked unit once that was filled
abbrev pub with_walked : ℕ → Tag → ℕ → TrackedValue → TrackedValue
with_walked began tag value t =
    with_unit (with_entries t.unit (with_entry (walked began tag value) t.unit)) t
