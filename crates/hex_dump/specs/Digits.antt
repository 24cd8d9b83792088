-- The hexadecimal digits of a word.
use Rattle.std.specs.Prelude.{ℕ, List, ◌==◌, Bool, true, false, if◌then◌else◌, Option, None, drop, length}
use Rattle.script.specs.Words.{is_hex, number_in}

-- the number that so many digits say, no more and no fewer
abbrev pub exact_number : ℕ → List ℕ → Option ℕ
exact_number count digits = if length digits == count then number_in 16 count digits else None

-- a word of so many digits, behind 0x if there has to be one
abbrev pub word_number : Bool → ℕ → List ℕ → Option ℕ
word_number true count word = if is_hex word then exact_number count (drop 2 word) else None
word_number false count word = exact_number count word
