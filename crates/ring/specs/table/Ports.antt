-- What contracts see of a seat of a single participant, and of its steps.
use Rattle.std.specs.Prelude.{◌≡◌, ◌≢◌, ℕ, ◌+◌, ◌<◌, ◌≤◌, Bool, true, false, List, [], ◌∷◌}
use Rattle.atomic_table.specs.Seated.{TableId}
use Rattle.ring.specs.Runs.{Raw, Control, Who, Half, Won, Lost, Trail, Run, reserved_length, has_written, has_flipped, start_index, world, control, IsRunLength}
use Rattle.qindex.specs.Positions.{IndexValue, index_of}
use Rattle.ringcore.specs.machine.StepAnswers.{next_number}
use Rattle.ring.specs.Rings.{RingValue}
use Rattle.ring.specs.table.Rule.{Holding, participant, ring_of, who_of, trail_of_first, history_of_first}
use Rattle.ring.specs.table.Histories.{GrewBy}

-- a participant: its ring, who it is, its trail, and the run up to its newest step
pub record PortValue : Type 0 where
  pub ring : RingValue
  pub who : Who
  pub trail : Trail
  pub history : Run

abbrev pub port_of : TableId → Holding → PortValue
port_of table me = record { ring = record { table = table; made_with = ring_of me.0 }; who = who_of me.0; trail = trail_of_first me.0; history = history_of_first me.0 }

-- A seat of this ring has only this participant, with this trail, and knows this run.
abbrev pub SitsFor : TableId → Holding → RingValue → Who → Trail → Run → Type 0
SitsFor table me ring who trail history = (table ≡ ring.table) × (me ≡ (participant ring.made_with who trail history ∷ [], []))

-- ---- reserve

abbrev pub has_won : List Raw → Bool → PortValue → PortValue
has_won body closing p = record p { trail = Won body (next_number p.trail closing) ∷ p.trail }

-- The exchange is last in the run, and right before it a look would have found what was looked at.
pub record HasWon (body : List Raw) (closing : Bool) (seen : Control) (old new : PortValue) : Type 0 where
  pub trail_is : record new { history = [] } ≡ has_won body closing (record old { history = [] })
  pub grew : GrewBy old.who (Won body (next_number old.trail closing)) old.history new.history
  pub stood : seen ≡ control old.ring.made_with.geometry (world grew.before)

-- The exchange is last in the run, and found something other than what was looked at.
pub record HasLost (body : List Raw) (closing : Bool) (seen : Control) (old new : PortValue) : Type 0 where
  pub found : Control
  pub other : found ≢ seen
  pub trail_is : record new { history = [] } ≡ record old { trail = Lost body closing found ∷ old.trail; history = [] }
  pub grew : GrewBy old.who (Lost body closing found) old.history new.history
  pub found_is : found ≡ control old.ring.made_with.geometry (world new.history)

abbrev pub IsWonOrLost : List Raw → Bool → Control → PortValue → PortValue → Bool → Type 0
IsWonOrLost body closing seen old new true = HasWon body closing seen old new
IsWonOrLost body closing seen old new false = HasLost body closing seen old new

-- ---- write and flip

-- The index is that of the slot at an offset in the last reservation.
abbrev pub IsSlotAt : PortValue → IndexValue → ℕ → Type 0
IsSlotAt p slot offset =
    (position : ℕ) → start_index p.ring.made_with.geometry p.trail ≡ index_of p.ring.made_with.geometry position
    → slot ≡ index_of p.ring.made_with.geometry (position + offset)

-- 1 to 64 commands of the open reservation that aren't flipped, both halves of each written, wherever their flags are.
pub record MayFlipAt (mine : Trail) (offset count : ℕ) : Type 0 where
  pub many : IsRunLength count
  pub inside : offset + count ≤ reserved_length mine
  pub unflipped : (i : ℕ) → i < count → has_flipped (offset + i) mine ≡ false
  pub written : (i : ℕ) (half : Half) → i < count → has_written (offset + i) half mine ≡ true
