-- Intervals of bytes, and what is in them.
use Rattle.std.specs.Prelude.{◌≡◌, ◌<◌, ◌≤◌, ℕ, ◌+◌, ◌&&◌, ◌||◌, nat_le, Bool, true, List, length, All}
use Rattle.std.specs.List.{list_any}
use Rattle.invalidations.specs.declared.interval.Interval.{Interval}

abbrev pub has_byte : ℕ → Interval → Bool
has_byte byte interval = nat_le interval.first byte && nat_le byte interval.last

-- One of them has the byte.
abbrev pub have_byte : ℕ → List Interval → Bool
have_byte byte intervals = list_any (has_byte byte) intervals

-- They have a byte in common, or one begins where the other ends.
abbrev pub touches : Interval → Interval → Bool
touches one other = nat_le one.first (other.last + 1) && nat_le other.first (one.last + 1)

-- It has a byte, and ends before this one.
abbrev pub IsBefore : ℕ → Interval → Type 0
IsBefore end interval = (interval.first ≤ interval.last) × (interval.last < end)

-- The bytes of the one interval are in the other.
abbrev pub IsWider : Interval → Interval → Type 0
IsWider wide interval = (wide.first ≤ interval.first) × (interval.last ≤ wide.last)

-- An interval joined with all that touch it, and those that are apart from it.
pub record AreJoined (intervals : List Interval) (interval : Interval) (apart : List Interval) (joined : Interval) : Type 0 where
  pub same : (byte : ℕ) → (have_byte byte intervals || has_byte byte interval) ≡ (have_byte byte apart || has_byte byte joined)
  pub most : length apart ≤ length intervals
  pub fewer : list_any (touches interval) intervals ≡ true → length apart < length intervals
  pub wider : IsWider joined interval
  pub inside : (end : ℕ) → All (IsBefore end) intervals → IsBefore end interval → All (IsBefore end) apart × IsBefore end joined
