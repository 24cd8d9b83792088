-- The control word: both indexes and whether the queue is closed, in one word of 64 bits (own). The low half
-- is laid out as SMMU_CMDQ_PROD, with the closed bit above the index, and the high half as SMMU_CMDQ_CONS.
use Rattle.std.specs.Prelude.{◌≡◌, ◌≤◌, ℕ, ◌+◌, ◌-◌, ◌*◌, ◌/◌, ◌%◌, ◌^◌, Bool, true, false, ◌==◌, bit_xor}
use Rattle.qindex.specs.declared.control.Control.{Control}
use Rattle.qindex.specs.Positions.{IndexValue, size}
use Rattle.qindex.specs.Indexes.{IsIndex, IsIndexNumber, distance}

-- bits high:low of a word, as a number
abbrev pub field : ℕ → ℕ → ℕ → ℕ
field word high low = word / 2 ^ low % 2 ^ (high + 1 - low)

abbrev pub bit : Bool → ℕ
bit false = 0
bit true = 1

-- prod in bits 19:0, closed in bit 31, cons in bits 51:32
abbrev pub packed : Control → ℕ
packed control = control.prod.number + bit control.closed * 2 ^ 31 + control.cons.number * 2 ^ 32

-- what those bits say
abbrev pub control_in : ℕ → ℕ → Control
control_in geometry word = record {
  prod = record { geometry = geometry; number = field word 19 0 };
  cons = record { geometry = geometry; number = field word 51 32 };
  closed = field word 31 31 == 1;
}

-- A word says a control of this geometry if no other bit is set, both indexes are below twice the size, and
-- they are no more than the size apart.
pub record IsControlWord (geometry word : ℕ) : Type 0 where
  pub no_bit_below_closed : field word 30 20 ≡ 0
  pub no_bit_above_cons : field word 63 52 ≡ 0
  pub prod : IsIndexNumber geometry (field word 19 0)
  pub cons : IsIndexNumber geometry (field word 51 32)
  pub within : distance (control_in geometry word).prod (control_in geometry word).cons ≤ size geometry

-- a control that a ring of this geometry may have
pub record IsControl (geometry : ℕ) (control : Control) : Type 0 where
  pub prod : IsIndex control.prod
  pub cons : IsIndex control.cons
  pub prod_geometry : control.prod.geometry ≡ geometry
  pub cons_geometry : control.cons.geometry ≡ geometry
  pub within : distance control.prod control.cons ≤ size geometry

-- the exclusive or of two indexes, in the bits of cons
abbrev pub advance_mask : IndexValue → IndexValue → ℕ
advance_mask from to = bit_xor from.number to.number * 2 ^ 32

-- bit 31
abbrev pub close_mask : ℕ
close_mask = 2 ^ 31

-- the control once its queue is closed
abbrev pub closed : Control → Control
closed control = record control { closed = true }

-- the control once cons is at this index
abbrev pub advanced : Control → IndexValue → Control
advanced control to = record control { cons = to }
