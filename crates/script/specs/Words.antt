-- The words of a line, and the numbers that words say.
use Rattle.std.specs.Prelude.{ℕ, ◌^◌, nat_lt, nat_le, List, [], ◌∷◌, ◌==◌, ◌&&◌, Bool, true, false, if◌then◌else◌, Option, Some, None, filter, drop, length}
use Rattle.std.specs.List.{list_all}
use Rattle.std.specs.Char.{digit_value}
use Rattle.std.specs.Str.Parse.{digits_value}
use Rattle.script.specs.Lines.{onto_first}

-- what stands between the spaces, empty pieces too
unfoldable pub between_spaces : List ℕ → List (List ℕ)
between_spaces [] = [] ∷ []
between_spaces (b ∷ bytes) = if b == 32 then [] ∷ between_spaces bytes else onto_first b (between_spaces bytes)

abbrev pub is_word : List ℕ → Bool
is_word [] = false
is_word (b ∷ bytes) = true

-- Words are separated by one or more spaces; spaces at either end are ignored.
unfoldable pub words_of : List ℕ → List (List ℕ)
words_of line = filter is_word (between_spaces line)

abbrev pub all_digits : ℕ → List ℕ → Bool
all_digits radix digits = list_all (λ c. nat_lt (digit_value c) radix) digits

-- the number below 2^64 that 1 to `most` digits say
unfoldable pub number_in : ℕ → ℕ → List ℕ → Option ℕ
number_in radix most digits =
    if is_word digits && nat_le (length digits) most && all_digits radix digits && nat_lt (digits_value radix digits) (2 ^ 64)
    then Some (digits_value radix digits) else None

-- 0x comes before hexadecimal digits
abbrev pub is_hex : List ℕ → Bool
is_hex [] = false
is_hex (a ∷ []) = false
is_hex (a ∷ b ∷ digits) = a == 48 && b == 120

-- A number is 1 to 20 decimal digits, or 0x and 1 to 16 hexadecimal digits of either case.
unfoldable pub number_of : List ℕ → Option ℕ
number_of word = if is_hex word then number_in 16 16 (drop 2 word) else number_in 10 20 word
