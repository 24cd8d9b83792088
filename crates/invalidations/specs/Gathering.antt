-- What was gathered to be invalidated.
use Rattle.std.specs.Prelude.{◌≡◌, ◌<◌, ◌≤◌, ◌⊎◌, ℕ, ◌+◌, ◌-◌, ◌*◌, ◌^◌, ◌==◌, ◌&&◌, ◌||◌, nat_lt, nat_le, Bool, true, false, List, [], length, All, Option, Some, None, if◌then◌else◌}
use Rattle.std.specs.List.{list_any}
use Rattle.cmdcodec.specs.declared.reach.Granule.{Granule}
use Rattle.invalidations.specs.declared.entries.Entries.{Entries}
use Rattle.invalidations.specs.declared.space.Space.{Space}
use Rattle.invalidations.specs.declared.interval.Interval.{Interval}
use Rattle.invalidations.specs.declared.invalidation.Bytes.{Bytes}
use Rattle.invalidations.specs.declared.invalidation.Bytes.TheVariants.{Everything, Range}
use Rattle.invalidations.specs.declared.invalidation.ByteRange.{ByteRange}
use Rattle.invalidations.specs.declared.invalidation.Invalidation.{Invalidation}
use Rattle.invalidations.specs.Spaces.{size_of}
use Rattle.invalidations.specs.Intervals.{has_byte, have_byte, touches, IsBefore}
use Rattle.invalidations.specs.Plans.{goes_past}

-- all bytes of the space, or those of at most 16 intervals
pub record Gathered : Type 0 where
  pub space : Space
  pub granule : Granule
  pub entries : Entries
  pub intervals : List Interval
  pub everything : Bool

-- nothing yet
abbrev pub nothing_for : Space → Granule → Entries → Gathered
nothing_for space granule entries = record { space = space; granule = granule; entries = entries; intervals = []; everything = false }

abbrev pub IsGathered : Gathered → Type 0
IsGathered gathered = (length gathered.intervals ≤ 16) × All (IsBefore (size_of gathered.space * 4096)) gathered.intervals

abbrev pub holds_byte : Gathered → ℕ → Bool
holds_byte gathered byte = gathered.everything || have_byte byte gathered.intervals

abbrev pub is_byte : ℕ → Bytes → Bool
is_byte byte Everything = true
is_byte byte (Range bytes) = nat_le bytes.first byte && nat_lt byte (bytes.first + bytes.length)

-- Both are gathered for the same space, granule and entries.
pub record IsAlike (old new : Gathered) : Type 0 where
  pub space : new.space ≡ old.space
  pub granule : new.granule ≡ old.granule
  pub entries : new.entries ≡ old.entries

-- the interval of some bytes
abbrev pub interval_of : ByteRange → Interval
interval_of bytes = record { first = bytes.first; last = bytes.first + bytes.length - 1 }

-- its bytes: all of them, where there are more than a length can say
abbrev pub bytes_of : Interval → Bytes
bytes_of interval =
    if nat_lt (interval.last - interval.first + 1) (2 ^ 64) then Range (record { first = interval.first; length = interval.last - interval.first + 1 }) else Everything

-- The bytes touch an interval that was gathered.
abbrev pub touch : Gathered → Bytes → Bool
touch gathered Everything = true
touch gathered (Range bytes) = bytes.length == 0 || list_any (touches (interval_of bytes)) gathered.intervals

-- There is no room for one more interval.
abbrev pub IsFull : Gathered → Type 0
IsFull gathered = length gathered.intervals ≡ 16

-- The bytes were added: nothing is lost, and without the whole space nothing else is there. The whole space is there only if
-- it was, or is what was added, or there is no room for bytes that touch nothing.
pub record IsAdded (old : Gathered) (bytes : Bytes) (new : Gathered) : Type 0 where
  pub alike : IsAlike old new
  pub held : (byte : ℕ) → (holds_byte old byte || is_byte byte bytes) ≡ true → holds_byte new byte ≡ true
  pub no_more : new.everything ≡ false → (byte : ℕ) → holds_byte new byte ≡ (holds_byte old byte || is_byte byte bytes)
  pub merged : touch old bytes ≡ true → length new.intervals ≤ length old.intervals
  pub whole : new.everything ≡ true → (old.everything ≡ true) ⊎ ((bytes ≡ Everything) ⊎ (IsFull old × (touch old bytes ≡ false)))

-- The same for an interval.
pub record IsIntervalAdded (old : Gathered) (interval : Interval) (new : Gathered) : Type 0 where
  pub alike : IsAlike old new
  pub held : (byte : ℕ) → (holds_byte old byte || has_byte byte interval) ≡ true → holds_byte new byte ≡ true
  pub no_more : new.everything ≡ false → (byte : ℕ) → holds_byte new byte ≡ (holds_byte old byte || has_byte byte interval)
  pub merged : list_any (touches interval) old.intervals ≡ true → length new.intervals ≤ length old.intervals
  pub whole : new.everything ≡ true → (old.everything ≡ true) ⊎ (IsFull old × (list_any (touches interval) old.intervals ≡ false))

-- how many invalidations are to come
abbrev pub invalidations_left : Gathered → ℕ
invalidations_left gathered = if gathered.everything then 1 else length gathered.intervals

-- An invalidation was taken out: its bytes had been gathered, and each byte that had is in it, or is still to come.
pub record IsTaken (old : Gathered) (invalidation : Invalidation) (new : Gathered) : Type 0 where
  pub alike : IsAlike old new
  pub space : invalidation.space ≡ old.space
  pub granule : invalidation.granule ≡ old.granule
  pub entries : invalidation.entries ≡ old.entries
  pub inside : goes_past invalidation.space invalidation.bytes ≡ false
  pub same : (byte : ℕ) → byte < 2 ^ 64 → (is_byte byte invalidation.bytes || holds_byte new byte) ≡ holds_byte old byte
  pub fewer : invalidations_left new < invalidations_left old

-- The bytes of the next one were taken, or nothing is gathered.
abbrev pub IsNextBytes : Gathered → Option Bytes → Gathered → Type 0
IsNextBytes old None new = (invalidations_left old ≡ 0) × (new ≡ old)
IsNextBytes old (Some bytes) new =
    IsTaken old (record { space = old.space; bytes = bytes; granule = old.granule; entries = old.entries }) new

-- The next one was taken, or nothing is gathered.
abbrev pub IsNextTaken : Gathered → Option Invalidation → Gathered → Type 0
IsNextTaken old None new = (invalidations_left old ≡ 0) × (new ≡ old)
IsNextTaken old (Some invalidation) new = IsTaken old invalidation new
