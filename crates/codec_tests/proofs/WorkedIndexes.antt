-- What single positions and indexes are, for a queue of four slots: its log2 size is 2.
use Rattle.std.proofs.Common.{◌≡◌, ℕ, refl, arith}
use Rattle.qindex.specs.Positions.{IndexValue, size, place, lap, wrap_bit, index_of}
use Rattle.qindex.specs.Indexes.{IsGeometry, IsIndexNumber, IsIndex, distance}

-- ---- Positions. The third lap begins at position 8.

pub a_size_is_a_power_of_two : size 19 ≡ 524288
a_size_is_a_power_of_two = refl

pub a_place_is_within_the_size : place 2 6 ≡ 2
a_place_is_within_the_size = refl

pub four_steps_are_a_lap : lap 2 6 ≡ 1
four_steps_are_a_lap = refl

pub a_wrap_bit_is_0_on_the_first_lap : wrap_bit 2 3 ≡ 0
a_wrap_bit_is_0_on_the_first_lap = refl

pub a_wrap_bit_is_0_again_on_the_third_lap : wrap_bit 2 9 ≡ 0
a_wrap_bit_is_0_again_on_the_third_lap = refl

pub an_index_has_a_wrap_bit : (index_of 2 6).number ≡ 6
an_index_has_a_wrap_bit = refl

pub an_index_begins_again_behind_two_laps : (index_of 2 9).number ≡ 1
an_index_begins_again_behind_two_laps = refl

pub an_index_knows_its_queue : (index_of 2 6).geometry ≡ 2
an_index_knows_its_queue = refl

-- ---- Indexes.

pub one_slot_is_too_few : ¬ IsGeometry 0
one_slot_is_too_few is = absurd (omega (arith, is.0))

pub a_log2_size_of_20_is_too_much : ¬ IsGeometry 20
a_log2_size_of_20_is_too_much is = absurd (omega (arith, is.1))

pub the_last_index_has_a_wrap_bit : IsIndexNumber 2 7
the_last_index_has_a_wrap_bit = omega arith

pub a_number_above_the_wrap_bit_is_no_index : ¬ IsIndexNumber 2 8
a_number_above_the_wrap_bit_is_no_index is = absurd (omega (arith, is))

abbrev index : ℕ → ℕ → IndexValue
index geometry number = record { geometry = geometry; number = number }

pub an_index_is_below_twice_the_size : ¬ IsIndex (index 2 8)
an_index_is_below_twice_the_size is = absurd (omega (arith, is.number))

pub an_index_is_of_some_queue : ¬ IsIndex (index 20 0)
an_index_is_of_some_queue is = absurd (omega (arith, is.geometry.1))

pub a_full_queue_has_four : distance (index 2 5) (index 2 1) ≡ 4
a_full_queue_has_four = refl

-- PROD has wrapped twice, and CONS once.
pub a_distance_goes_over_the_end : distance (index 2 1) (index 2 7) ≡ 2
a_distance_goes_over_the_end = refl

pub nothing_is_an_empty_queue : distance (index 2 3) (index 2 3) ≡ 0
nothing_is_an_empty_queue = refl
