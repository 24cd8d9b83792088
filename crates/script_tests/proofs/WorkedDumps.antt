-- What lines of a hex dump say, and which are bad.
use Rattle.std.proofs.Common.{◌≡◌, ℕ, true, false, List, [], ◌∷◌, ◌++◌, Some, None, refl, codes}
use Rattle.cmdcodec.specs.declared.raw.Raw.{Raw}
use Rattle.script.specs.Words.{number_in}
use Rattle.hex_dump.specs.declared.dumped.Dumped.TheVariants.{Nothing, Slot, Bad}
use Rattle.hex_dump.specs.Slots.{slot_of}
use Rattle.hex_dump.specs.Dumps.{address_of, is_symbol, data_words, dumped}

-- CMD_SYNC, as `dump_line` reads it
abbrev sync : Raw
sync = record { lo = 0xfc01046; hi = 0x43991050 }

abbrev bytes : List (List ℕ)
bytes =
    codes "46" ∷ codes "10" ∷ codes "c0" ∷ codes "0f" ∷ codes "00" ∷ codes "00" ∷ codes "00" ∷ codes "00" ∷ codes "50" ∷ codes "10" ∷ codes "99" ∷ codes "43" ∷
    codes "00" ∷ codes "00" ∷ codes "00" ∷ codes "00" ∷ []

abbrev pairs : List (List ℕ)
pairs = codes "4610" ∷ codes "c00f" ∷ codes "0000" ∷ codes "0000" ∷ codes "5010" ∷ codes "9943" ∷ codes "0000" ∷ codes "0000" ∷ []

abbrev numbers : List (List ℕ)
numbers = codes "0x0fc01046" ∷ codes "0x00000000" ∷ codes "0x43991050" ∷ codes "0x00000000" ∷ []

abbrev long_numbers : List (List ℕ)
long_numbers = codes "0x000000000fc01046" ∷ codes "0x0000000043991050" ∷ []

-- ---- The 16 bytes.

pub bytes_are_in_order : slot_of false bytes ≡ Some sync
unfolding number_in
bytes_are_in_order = refl

pub pairs_are_in_order_behind_a_colon : slot_of true pairs ≡ Some sync
unfolding number_in
pairs_are_in_order_behind_a_colon = refl

pub pairs_without_a_colon_are_bad : slot_of false pairs ≡ None
unfolding number_in
pairs_without_a_colon_are_bad = refl

pub numbers_of_32_bits_are_little_endian : slot_of false numbers ≡ Some sync
unfolding number_in
numbers_of_32_bits_are_little_endian = refl

pub numbers_of_64_bits_are_lo_and_hi : slot_of false long_numbers ≡ Some sync
unfolding number_in
numbers_of_64_bits_are_lo_and_hi = refl

pub fewer_than_16_bytes_are_bad : slot_of false (codes "46" ∷ codes "10" ∷ []) ≡ None
unfolding number_in
fewer_than_16_bytes_are_bad = refl

pub more_behind_0x_is_bad : slot_of false (long_numbers ++ codes "F." ∷ []) ≡ None
unfolding number_in
more_behind_0x_is_bad = refl

pub a_text_column_is_not_looked_at : slot_of false (bytes ++ codes "F." ∷ []) ≡ Some sync
unfolding number_in
a_text_column_is_not_looked_at = refl

-- ---- The line.

pub an_address_may_have_a_colon : address_of (codes "00000010:") ≡ Some 16
unfolding number_in
an_address_may_have_a_colon = refl

pub an_address_may_have_a_prefix : address_of (codes "0x10") ≡ Some 16
unfolding number_in
an_address_may_have_a_prefix = refl

pub a_star_is_no_address : dumped (codes "*" ∷ []) ≡ Bad
unfolding dumped number_in
a_star_is_no_address = refl

pub a_blank_line_has_nothing : dumped [] ≡ Nothing
unfolding dumped
a_blank_line_has_nothing = refl

pub an_address_alone_has_nothing : dumped (codes "20" ∷ []) ≡ Nothing
unfolding dumped number_in
an_address_alone_has_nothing = refl

pub a_name_is_skipped : data_words false (codes "<queue+16>:" ∷ long_numbers) ≡ long_numbers
a_name_is_skipped = refl

pub behind_a_colon_no_name_is_skipped : data_words true (codes "<queue+16>:" ∷ []) ≡ codes "<queue+16>:" ∷ []
behind_a_colon_no_name_is_skipped = refl

pub a_name_ends_in_a_colon : is_symbol (codes "<queue>") ≡ false
a_name_ends_in_a_colon = refl

pub a_slot_has_its_address : dumped (codes "0x4030" ∷ codes "<queue+16>:" ∷ long_numbers) ≡ Slot (record { address = 0x4030; raw = sync })
unfolding dumped number_in
a_slot_has_its_address = refl

pub a_line_that_is_cut_is_bad : dumped (codes "0x4030" ∷ codes "0x000000000fc01046" ∷ []) ≡ Bad
unfolding dumped number_in
a_line_that_is_cut_is_bad = refl
