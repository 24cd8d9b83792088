-- Positions, from the section on circular queues. A position is any natural number: the command reserved
-- after n others has position n. A ring of 2^log2 slots stores no positions, only what is defined here of
-- them. Contracts see a geometry as its log2.
use Rattle.std.specs.Prelude.{ℕ, ◌*◌, ◌/◌, ◌%◌, ◌^◌}

-- how many slots the ring has
abbrev pub size : ℕ → ℕ
size geometry = 2 ^ geometry

-- the slot of the position's command
abbrev pub place : ℕ → ℕ → ℕ
place geometry position = position % size geometry

-- how many rounds of the ring came before
abbrev pub lap : ℕ → ℕ → ℕ
lap geometry position = position / size geometry

-- the wrap bit, which is 1 on odd laps
abbrev pub wrap_bit : ℕ → ℕ → ℕ
wrap_bit geometry position = lap geometry position % 2

-- an index as contracts see it: a number below twice the size, the place with the wrap bit above it
pub record IndexValue : Type 0 where
  pub geometry : ℕ
  pub number : ℕ

-- the index of a position
abbrev pub index_of : ℕ → ℕ → IndexValue
index_of geometry position = record { geometry = geometry; number = position % (2 * size geometry) }
