-- Where the words of a ring are, worked out for rings of 128 and of 2 slots.
use Rattle.std.proofs.Common.{◌≡◌, ℕ, ◌+◌, ◌<◌, ◌≤◌, true, false, List, ◌∷◌, ◌++◌, refl, arith}
use Rattle.std.specs.Prelude.{replicate}
use Rattle.ringcore.specs.declared.world.event.Half.TheVariants.{Lo, Hi}
use Rattle.ringcore.specs.memory.Layout.{unused, control_word, first_flag_word, flag_words, flag_word, first_data_word, half_number, data_word, first_cell, cell, words_of}
use Rattle.ringcore.specs.memory.Flags.{flag_bit, polarity, says_flipped}

-- ---- the words

pub the_control_word_is_the_first : control_word ≡ 0
the_control_word_is_the_first = refl

-- Eight words are 64 bytes.
pub the_control_word_shares_no_64_bytes_with_flags : control_word + 8 ≤ first_flag_word
the_control_word_shares_no_64_bytes_with_flags = omega arith

pub the_last_flags_share_no_64_bytes_with_commands : flag_word 7 127 + 8 ≤ first_data_word 7
the_last_flags_share_no_64_bytes_with_commands = omega arith

pub the_last_command_shares_no_64_bytes_with_cells : data_word 7 127 Hi + 8 ≤ first_cell 7
the_last_command_shares_no_64_bytes_with_cells = omega arith

pub cells_share_no_64_bytes : cell 7 0 + 8 ≤ cell 7 1
cells_share_no_64_bytes = omega arith

pub the_last_cell_is_in_the_ring : cell 7 1 < words_of 7 2
the_last_cell_is_in_the_ring = omega arith

pub nothing_is_behind_the_last_cell_and_its_unused_words : words_of 7 2 ≡ cell 7 1 + 1 + unused
nothing_is_behind_the_last_cell_and_its_unused_words = refl

pub a_ring_of_128_has_two_flag_words : flag_words 7 ≡ 2
a_ring_of_128_has_two_flag_words = refl

pub a_ring_of_2_has_one_flag_word : flag_words 1 ≡ 1
a_ring_of_2_has_one_flag_word = refl

pub flags_begin_behind_the_unused_words : first_flag_word ≡ 8
flags_begin_behind_the_unused_words = refl

pub the_65th_flag_is_in_the_second_word : flag_word 7 64 ≡ 9
the_65th_flag_is_in_the_second_word = refl

pub a_position_a_lap_later_has_the_same_flag_word : flag_word 7 128 ≡ 8
a_position_a_lap_later_has_the_same_flag_word = refl

pub commands_begin_behind_the_unused_words : first_data_word 7 ≡ 17
commands_begin_behind_the_unused_words = refl

pub the_low_word_comes_first : half_number Lo ≡ 0
the_low_word_comes_first = refl

pub the_high_word_comes_next : half_number Hi ≡ 1
the_high_word_comes_next = refl

pub a_command_has_two_words : data_word 7 3 Lo ≡ 23
a_command_has_two_words = refl

pub its_high_word_is_the_next : data_word 7 3 Hi ≡ 24
its_high_word_is_the_next = refl

pub a_position_a_lap_later_has_the_same_data_word : data_word 7 131 Lo ≡ 23
a_position_a_lap_later_has_the_same_data_word = refl

pub cells_begin_behind_the_unused_words : first_cell 7 ≡ 280
cells_begin_behind_the_unused_words = refl

pub the_first_cell_is_that_of_the_first_sender : cell 7 0 ≡ 280
the_first_cell_is_that_of_the_first_sender = refl

-- ---- the flags

pub a_flag_has_its_bit : flag_bit 7 40 ≡ 40
a_flag_has_its_bit = refl

pub the_66th_flag_is_the_second_of_its_word : flag_bit 7 65 ≡ 1
the_66th_flag_is_the_second_of_its_word = refl

pub a_position_a_lap_later_has_the_same_bit : flag_bit 1 3 ≡ 1
a_position_a_lap_later_has_the_same_bit = refl

pub a_flag_of_an_even_lap_says_so_with_1 : polarity 1 1 ≡ 1
a_flag_of_an_even_lap_says_so_with_1 = refl

pub a_flag_of_an_odd_lap_says_so_with_0 : polarity 1 2 ≡ 0
a_flag_of_an_odd_lap_says_so_with_0 = refl

-- the words up to the flags of a ring of two slots
abbrev with_flags : ℕ → List ℕ
with_flags flags = replicate 8 0 ++ flags ∷ replicate 26 0

pub a_flag_that_is_set_says_flipped : says_flipped 1 (with_flags 2) 1 ≡ true
a_flag_that_is_set_says_flipped = refl

pub a_flag_that_is_not_set_does_not : says_flipped 1 (with_flags 2) 0 ≡ false
a_flag_that_is_not_set_does_not = refl

pub on_the_next_lap_it_is_the_other_way_round : says_flipped 1 (with_flags 2) 2 ≡ true
on_the_next_lap_it_is_the_other_way_round = refl

pub a_flag_of_the_lap_before_does_not : says_flipped 1 (with_flags 2) 3 ≡ false
a_flag_of_the_lap_before_does_not = refl
