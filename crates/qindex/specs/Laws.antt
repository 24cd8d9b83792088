-- The laws of positions and of the control word.
use Rattle.std.specs.Prelude.{◌≡◌, ◌<◌, ◌≤◌, ℕ, ◌+◌, ◌-◌, ◌*◌, ◌/◌, ◌%◌, ◌^◌, Bool, ◌==◌, bit_or, bit_xor}
use Rattle.qindex.specs.declared.control.Control.{Control}
use Rattle.qindex.specs.Positions.{IndexValue, size, place, wrap_bit, index_of}
use Rattle.qindex.specs.Indexes.{IsGeometry, IsIndex, distance, is_empty, is_full}
use Rattle.qindex.specs.ControlWord.{IsControl, IsControlWord, packed, control_in, field, advance_mask, close_mask, closed, advanced}

-- ---- positions

-- The index of a position is an index: its place, and the wrap bit above the place.
pub record IsPlaceAndWrapBit (geometry position : ℕ) : Type 0 where
  pub index : IsIndex (index_of geometry position)
  pub number : (index_of geometry position).number ≡ wrap_bit geometry position * size geometry + place geometry position

abbrev pub IndexesArePlaceAndWrapBit : Type 0
IndexesArePlaceAndWrapBit = (geometry position : ℕ) → IsGeometry geometry → IsPlaceAndWrapBit geometry position

-- Two positions with the same index have the same place and wrap bit, and stay alike any number of steps
-- further on.
pub record GoOnAlike (geometry position other steps : ℕ) : Type 0 where
  pub place : place geometry (position + steps) ≡ place geometry (other + steps)
  pub wrap_bit : wrap_bit geometry (position + steps) ≡ wrap_bit geometry (other + steps)
  pub index : index_of geometry (position + steps) ≡ index_of geometry (other + steps)

abbrev pub IndexesTellPlaceAndWrapBit : Type 0
IndexesTellPlaceAndWrapBit =
    (geometry position other steps : ℕ) → index_of geometry position ≡ index_of geometry other → GoOnAlike geometry position other steps

-- Among as many positions in a row as there are slots, each has its own slot.
abbrev pub SlotsAreApart : Type 0
SlotsAreApart =
    (geometry from position other : ℕ)
    → from ≤ position → position < from + size geometry
    → from ≤ other → other < from + size geometry
    → place geometry position ≡ place geometry other
    → position ≡ other

-- One lap further on, the place is the same and the wrap bit the opposite.
pub record IsALapOn (geometry position : ℕ) : Type 0 where
  pub place : place geometry (position + size geometry) ≡ place geometry position
  pub wrap_bit : wrap_bit geometry (position + size geometry) + wrap_bit geometry position ≡ 1

abbrev pub WrapBitsTurnByLap : Type 0
WrapBitsTurnByLap = (geometry position : ℕ) → IsALapOn geometry position

-- ---- the queue between two positions

-- The indexes of the two ends tell the distance, and whether the queue is empty or full.
pub record IsQueueBetween (geometry tail head : ℕ) : Type 0 where
  pub distance : distance (index_of geometry tail) (index_of geometry head) ≡ tail - head
  pub empty : is_empty (index_of geometry tail) (index_of geometry head) ≡ (tail == head)
  pub full : is_full (index_of geometry tail) (index_of geometry head) ≡ (tail == head + size geometry)

abbrev pub IndexesTellTheQueue : Type 0
IndexesTellTheQueue =
    (geometry tail head : ℕ) → IsGeometry geometry → head ≤ tail → tail ≤ head + size geometry → IsQueueBetween geometry tail head

-- ---- the control word

-- The indexes of two positions that are at most the size apart make a control, closed or not.
abbrev pub QueuesHaveAControl : Type 0
QueuesHaveAControl =
    (geometry tail head : ℕ) (closed : Bool)
    → IsGeometry geometry → head ≤ tail → tail ≤ head + size geometry
    → IsControl geometry record { prod = index_of geometry tail; cons = index_of geometry head; closed = closed }

-- The word of a control says that control.
pub record SaysItself (geometry : ℕ) (control : Control) : Type 0 where
  pub is_control_word : IsControlWord geometry (packed control)
  pub says : control_in geometry (packed control) ≡ control
  pub fits : packed control < 2 ^ 64

abbrev pub WordsSayTheirControl : Type 0
WordsSayTheirControl = (geometry : ℕ) (control : Control) → IsControl geometry control → SaysItself geometry control

-- What a control word says is a control, whose word it is.
pub record IsItsWord (geometry word : ℕ) : Type 0 where
  pub control : IsControl geometry (control_in geometry word)
  pub packed_again : packed (control_in geometry word) ≡ word

abbrev pub ControlsHaveTheirWord : Type 0
ControlsHaveTheirWord =
    (geometry word : ℕ) → IsGeometry geometry → word < 2 ^ 64 → IsControlWord geometry word → IsItsWord geometry word

-- An or with the close mask closes the control.
abbrev pub OrCloses : Type 0
OrCloses = (geometry : ℕ) (control : Control) → IsControl geometry control → bit_or (packed control) close_mask ≡ packed (closed control)

-- In any word it sets bit 31, and keeps the bits below and above.
pub record SetsBit31 (word : ℕ) : Type 0 where
  pub set : field (bit_or word close_mask) 31 31 ≡ 1
  pub below : bit_or word close_mask % 2 ^ 31 ≡ word % 2 ^ 31
  pub above : bit_or word close_mask / 2 ^ 32 ≡ word / 2 ^ 32

abbrev pub OrSetsBit31Alone : Type 0
OrSetsBit31Alone = (word : ℕ) → SetsBit31 word

-- An exclusive or with the advance mask from cons to another index makes that index cons.
abbrev pub XorAdvances : Type 0
XorAdvances =
    (geometry : ℕ) (control : Control) (to : IndexValue)
    → IsControl geometry control → IsIndex to
    → bit_xor (packed control) (advance_mask control.cons to) ≡ packed (advanced control to)

-- In any word it turns bits 51:32 from one index into the other, and keeps the bits below and above.
pub record TurnsCons (word : ℕ) (from to : IndexValue) : Type 0 where
  pub turned : field word 51 32 ≡ from.number → field (bit_xor word (advance_mask from to)) 51 32 ≡ to.number
  pub below : bit_xor word (advance_mask from to) % 2 ^ 32 ≡ word % 2 ^ 32
  pub above : bit_xor word (advance_mask from to) / 2 ^ 52 ≡ word / 2 ^ 52

abbrev pub XorTurnsConsAlone : Type 0
XorTurnsConsAlone = (word : ℕ) (from to : IndexValue) → IsIndex from → IsIndex to → TurnsCons word from to
