-- What the words of a line of a dump say.
use Rattle.std.specs.Prelude.{ℕ, ◌-◌, nat_lt, nat_le, List, [], ◌∷◌, ◌==◌, ◌&&◌, not, Bool, if◌then◌else◌, Option, Some, None, drop, take, length, slice_index}
use Rattle.cmdcodec.specs.declared.raw.Raw.{Raw}
use Rattle.script.specs.Words.{is_hex, number_in}
use Rattle.hex_dump.specs.declared.dumped.Dumped.{Dumped}
use Rattle.hex_dump.specs.declared.dumped.Dumped.TheVariants.{Nothing, Slot, Bad}
use Rattle.hex_dump.specs.Slots.{slot_of}

-- ---- the address

-- A colon is the last byte.
abbrev pub has_colon : List ℕ → Bool
has_colon word = nat_lt 0 (length word) && slice_index word (length word - 1) == 58

abbrev pub without_colon : List ℕ → List ℕ
without_colon word = if has_colon word then take (length word - 1) word else word

abbrev pub without_prefix : List ℕ → List ℕ
without_prefix word = if is_hex word then drop 2 word else word

-- 1 to 16 hexadecimal digits, with or without 0x ahead and a colon behind
abbrev pub address_of : List ℕ → Option ℕ
address_of word = number_in 16 16 (without_prefix (without_colon word))

-- a name that gdb writes behind an address, from < to >:
abbrev pub is_symbol : List ℕ → Bool
is_symbol word = nat_le 3 (length word) && slice_index word 0 == 60 && slice_index word (length word - 2) == 62 && has_colon word

-- the words behind the address and the name
abbrev pub data_words : Bool → List (List ℕ) → List (List ℕ)
data_words colon [] = []
data_words colon (word ∷ words) = if not colon && is_symbol word then words else word ∷ words

-- ---- the line

abbrev pub slot_or_bad : ℕ → Option Raw → Dumped
slot_or_bad address (Some raw) = Slot (record { address = address; raw = raw })
slot_or_bad address None = Bad

abbrev pub behind_address : Option ℕ → Bool → List (List ℕ) → Dumped
behind_address None colon words = Bad
behind_address (Some address) colon [] = Nothing
behind_address (Some address) colon (word ∷ words) = slot_or_bad address (slot_of colon (data_words colon (word ∷ words)))

-- nothing of a blank line and of an address alone
unfoldable pub dumped : List (List ℕ) → Dumped
dumped [] = Nothing
dumped (word ∷ words) = behind_address (address_of word) (has_colon word) words
