-- Bit fields of a word.
use Rattle.std.specs.Prelude.{ℕ, ◌+◌, ◌-◌, ◌/◌, ◌%◌, ◌^◌, Bool, true, false}

-- bits high:low of a word, as a number
abbrev pub field : ℕ → ℕ → ℕ → ℕ
field word high low = word / 2 ^ low % 2 ^ (high + 1 - low)

-- a flag as a one-bit number
abbrev pub bit : Bool → ℕ
bit false = 0
bit true = 1
