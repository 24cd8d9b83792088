-- What the events make of the world.
use Rattle.std.proofs.Common.{◌≡◌, ℕ, ◌+◌, true, false, [], ◌∷◌, Option, Some, None, refl}
use Rattle.cmdcodec.specs.declared.raw.Raw.{Raw}
use Rattle.cmdcodec.specs.Opcodes.{opcode_named}
use Rattle.cmdcodec.specs.Words.{encoding}
use Rattle.ringcore.specs.declared.world.event.Who.TheVariants.{Consumer, Sender}
use Rattle.ringcore.specs.declared.world.event.Half.TheVariants.{Lo, Hi}
use Rattle.ringcore.specs.declared.world.event.Outcome.TheVariants.{Applied, Replaced}
use Rattle.ringcore.specs.declared.world.event.Event.TheVariants.{Look, Won, Write, Flip, Advance, Close, Acknowledge}
use Rattle.ringcore.specs.world.Trails.{Run}
use Rattle.ringcore.specs.world.World.{Item, sync_raw, commands, items_from, items, outcome_of, taken_as, World, opening, tail, head, with_at, after, world, control, half_of}
use Rattle.ring_tests.proofs.WorkedCases.{x, y, shows}

abbrev item : ℕ → Option ℕ → ℕ → Raw → Item
item s number place raw = record { sender = s; number = number; place = place; raw = raw }

-- no opcode
abbrev illegal : Raw
illegal = record { lo = 0; hi = 0 }

-- ---- what is reserved

-- CMD_SYNC with the number as MSIData, to the sender's cell
pub a_sync_has_its_number_and_the_cell_of_its_sender :
    sync_raw 1 2 ≡ record { lo = 0x200001046; hi = 0x40000004 }
unfolding encoding
a_sync_has_its_number_and_the_cell_of_its_sender = refl

pub a_batch_with_a_number_ends_with_its_sync : commands 1 (Some 2) (x ∷ []) ≡ x ∷ sync_raw 1 2 ∷ []
a_batch_with_a_number_ends_with_its_sync = refl

pub a_batch_without_one_has_no_sync : commands 1 None (x ∷ []) ≡ x ∷ []
a_batch_without_one_has_no_sync = refl

pub places_count_on : items_from 3 1 None (x ∷ y ∷ []) ≡ item 1 None 3 x ∷ item 1 None 4 y ∷ []
places_count_on = refl

pub places_of_a_batch_begin_with_0 :
    items 1 (Some 2) (x ∷ []) ≡ item 1 (Some 2) 0 x ∷ item 1 (Some 2) 1 (sync_raw 1 2) ∷ []
places_of_a_batch_begin_with_0 = refl

-- ---- what is taken

pub a_legal_command_is_applied : outcome_of x ≡ Applied
unfolding opcode_named
a_legal_command_is_applied = refl

pub an_illegal_command_is_replaced : outcome_of illegal ≡ Replaced
unfolding opcode_named
an_illegal_command_is_replaced = refl

pub a_command_is_taken_as_it_is : (taken_as y).raw ≡ y
a_command_is_taken_as_it_is = refl

pub an_illegal_command_is_taken_as_replaced : (taken_as illegal).outcome ≡ Replaced
unfolding opcode_named
an_illegal_command_is_taken_as_replaced = refl

-- ---- the world

pub nothing_is_reserved_at_first : opening.reserved ≡ []
nothing_is_reserved_at_first = refl

pub nothing_is_taken_at_first : opening.taken ≡ []
nothing_is_taken_at_first = refl

pub nothing_is_written_at_first : opening.written 0 Lo ≡ false
nothing_is_written_at_first = refl

pub nothing_is_flipped_at_first : opening.flipped 0 ≡ false
nothing_is_flipped_at_first = refl

pub no_number_is_acknowledged_at_first : opening.acknowledged 0 ≡ 0
no_number_is_acknowledged_at_first = refl

pub nobody_starts_behind_0_at_first : opening.start 0 ≡ 0
nobody_starts_behind_0_at_first = refl

pub no_ring_is_closed_at_first : opening.closed ≡ false
no_ring_is_closed_at_first = refl

-- x and y are reserved by sender 1, and x is taken.
abbrev one_left : World
one_left = record opening { reserved = item 1 None 0 x ∷ item 1 None 1 y ∷ []; taken = taken_as x ∷ [] }

pub the_tail_is_behind_all_that_is_reserved : tail one_left ≡ 2
the_tail_is_behind_all_that_is_reserved = refl

pub the_head_is_behind_all_that_is_taken : head one_left ≡ 1
the_head_is_behind_all_that_is_taken = refl

pub it_is_changed_there : with_at 3 5 (λ n. n + 1) 3 ≡ 5
it_is_changed_there = refl

pub it_is_as_before_elsewhere : with_at 3 5 (λ n. n + 1) 7 ≡ 8
it_is_as_before_elsewhere = refl

-- sender 0 reserves y behind these
abbrev y_reserved : World
y_reserved = after one_left (Sender 0) (Won (y ∷ []) None)

pub what_is_reserved_comes_behind :
    y_reserved.reserved ≡ item 1 None 0 x ∷ item 1 None 1 y ∷ item 0 None 0 y ∷ []
what_is_reserved_comes_behind = refl

pub a_reservation_starts_at_the_tail : y_reserved.start 0 ≡ 2
a_reservation_starts_at_the_tail = refl

pub the_reservation_of_another_starts_where_it_did : y_reserved.start 1 ≡ 0
the_reservation_of_another_starts_where_it_did = refl

-- and writes the low half of it
abbrev y_written : World
y_written = after y_reserved (Sender 0) (Write 0 Lo)

pub a_half_is_written_where_the_reservation_is : y_written.written 2 Lo ≡ true
a_half_is_written_where_the_reservation_is = refl

pub the_other_half_is_unwritten : y_written.written 2 Hi ≡ false
the_other_half_is_unwritten = refl

pub the_position_of_another_is_unwritten : y_written.written 0 Lo ≡ false
the_position_of_another_is_unwritten = refl

pub what_was_written_stays_written : (after y_written (Sender 0) (Write 0 Hi)).written 2 Lo ≡ true
what_was_written_stays_written = refl

abbrev y_flipped : World
y_flipped = after y_written (Sender 0) (Flip 0 1)

pub a_command_is_flipped_where_the_reservation_is : y_flipped.flipped 2 ≡ true
a_command_is_flipped_where_the_reservation_is = refl

pub the_next_is_unflipped : y_flipped.flipped 3 ≡ false
the_next_is_unflipped = refl

pub the_position_of_another_is_unflipped : y_flipped.flipped 0 ≡ false
the_position_of_another_is_unflipped = refl

pub what_was_flipped_stays_flipped : (after y_flipped (Sender 1) (Flip 0 1)).flipped 2 ≡ true
what_was_flipped_stays_flipped = refl

pub what_is_taken_comes_behind :
    (after one_left Consumer (Advance (y ∷ illegal ∷ []))).taken
    ≡ taken_as x ∷ taken_as y ∷ taken_as illegal ∷ []
what_is_taken_comes_behind = refl

pub a_close_closes : (after one_left (Sender 0) Close).closed ≡ true
a_close_closes = refl

pub a_number_is_acknowledged_to_its_sender : (after one_left Consumer (Acknowledge 1 3)).acknowledged 1 ≡ 3
a_number_is_acknowledged_to_its_sender = refl

pub none_is_acknowledged_to_another : (after one_left Consumer (Acknowledge 1 3)).acknowledged 0 ≡ 0
none_is_acknowledged_to_another = refl

pub a_look_changes_nothing : after one_left (Sender 0) (Look (shows 1 2 1 false)) ≡ one_left
a_look_changes_nothing = refl

-- The oldest event is the last of a run.
abbrev two_reserved : Run
two_reserved = (Sender 1, Won (y ∷ []) None) ∷ (Sender 0, Won (x ∷ []) None) ∷ []

pub the_oldest_is_reserved_first : (world two_reserved).reserved ≡ item 0 None 0 x ∷ item 1 None 0 y ∷ []
the_oldest_is_reserved_first = refl

pub a_run_begins_with_the_opening : world [] ≡ opening
a_run_begins_with_the_opening = refl

-- ---- what is found

pub a_look_finds_the_tail_and_the_head : control 1 one_left ≡ shows 1 2 1 false
a_look_finds_the_tail_and_the_head = refl

pub a_look_finds_a_closed_ring : control 1 (record one_left { closed = true }) ≡ shows 1 2 1 true
a_look_finds_a_closed_ring = refl

-- Position 4 has index 0 again in a ring of two slots.
abbrev a_lap_later : World
a_lap_later = record opening {
  reserved = item 1 None 0 x ∷ item 1 None 1 y ∷ item 0 None 0 x ∷ item 0 None 1 y ∷ [];
  taken = taken_as x ∷ taken_as y ∷ [];
}

pub a_look_finds_indexes : control 1 a_lap_later ≡ shows 1 0 2 false
a_look_finds_indexes = refl

pub a_low_half_is_the_low_word : half_of Lo x ≡ 0x500000003
a_low_half_is_the_low_word = refl

pub a_high_half_is_the_high_word : half_of Hi x ≡ 1
a_high_half_is_the_high_word = refl
