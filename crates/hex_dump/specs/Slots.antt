-- The 16 bytes that the data words of a line say, as the two words of a slot.
use Rattle.std.specs.Prelude.{ℕ, ◌+◌, ◌-◌, ◌*◌, ◌/◌, ◌%◌, ◌^◌, List, [], ◌∷◌, ◌==◌, ◌&&◌, ◌||◌, not, Bool, true, false, if◌then◌else◌, Option, Some, None, length, option_map}
use Rattle.std.specs.Borrow.{Bor}
use Rattle.cmdcodec.specs.declared.raw.Raw.{Raw}
use Rattle.line_answers.specs.LineWords.{words_of}
use Rattle.script.specs.Fields.{◌>>=◌, guard, is_end}
use Rattle.script.specs.Words.{is_hex}
use Rattle.hex_dump.specs.declared.layout.Layout.{Layout}
use Rattle.hex_dump.specs.declared.layout.Layout.TheVariants.{Bytes, BytePairs, Words, Doublewords}
use Rattle.hex_dump.specs.Digits.{word_number}

-- ---- how a line is laid out

-- behind 0x: 8 digits or 16
abbrev pub prefixed_layout : ℕ → Option Layout
prefixed_layout digits = if digits == 8 then Some (Words true) else if digits == 16 then Some (Doublewords true) else None

-- 4 digits are two bytes in order only behind a colon: hexdump, which has none, swaps them.
abbrev pub bare_layout : Bool → ℕ → Option Layout
bare_layout colon digits =
    if digits == 2 then Some Bytes else if digits == 4 && colon then Some BytePairs else if digits == 8 then Some (Words false)
    else if digits == 16 then Some (Doublewords false) else None

-- The first data word tells it.
abbrev pub layout_of : Bool → List ℕ → Option Layout
layout_of colon word = if is_hex word then prefixed_layout (length word - 2) else bare_layout colon (length word)

abbrev pub is_prefixed : Layout → Bool
is_prefixed Bytes = false
is_prefixed BytePairs = false
is_prefixed (Words prefixed) = prefixed
is_prefixed (Doublewords prefixed) = prefixed

-- ---- numbers, each with the words after it

-- what was parsed from a text: a number, and the words of the text after it
abbrev pub number_and_words : Option (ℕ × Bor (List ℕ)) → Option (ℕ × List (List ℕ))
number_and_words found = option_map (λ f. (f.0, words_of f.1.now)) found

-- what parses a number from words
abbrev pub Part : Type 0
Part = List (List ℕ) → Option (ℕ × List (List ℕ))

-- the number of the next word
abbrev pub part : Bool → ℕ → Part
part prefixed count [] = None
part prefixed count (word ∷ words) = do
  number ← word_number prefixed count word
  Some (number, words)

-- a number in two parts of so many bits each, the lower first
abbrev pub paired : ℕ → Part → Part
paired bits half words = do
  low ← half words
  high ← half low.1
  Some (low.0 + high.0 * 2 ^ bits, high.1)

-- Four digits say two bytes in order, and the first of them is the lower.
abbrev pub byte_pair : Part
byte_pair words = do
  number ← part false 4 words
  Some (number.0 / 256 + number.0 % 256 * 2 ^ 8, number.1)

abbrev pub two_bytes : Bool → Part
two_bytes pairs = if pairs then byte_pair else paired 8 (part false 2)

abbrev pub four_bytes : Bool → Part
four_bytes pairs = paired 16 (two_bytes pairs)

-- 64 bits
abbrev pub doubleword : Layout → Part
doubleword Bytes = paired 32 (four_bytes false)
doubleword BytePairs = paired 32 (four_bytes true)
doubleword (Words prefixed) = paired 32 (part prefixed 8)
doubleword (Doublewords prefixed) = part prefixed 16

-- ---- the slot

-- Behind bare words comes the text column, which isn't looked at; behind words with 0x comes nothing.
abbrev pub slot_in : Layout → List (List ℕ) → Option Raw
slot_in layout words = do
  lo ← doubleword layout words
  hi ← doubleword layout lo.1
  guard (not (is_prefixed layout) || is_end hi.1) (record { lo = lo.0; hi = hi.0 })

abbrev pub slot_of : Bool → List (List ℕ) → Option Raw
slot_of colon [] = None
slot_of colon (word ∷ words) = do
  layout ← layout_of colon word
  slot_in layout (word ∷ words)
