-- What trails say, newest event first.
use Rattle.std.proofs.Common.{◌≡◌, true, false, [], ◌∷◌, Some, None, refl, arith}
use Rattle.qindex.specs.declared.control.Control.{Control}
use Rattle.ringcore.specs.declared.world.event.Who.TheVariants.{Consumer, Sender}
use Rattle.ringcore.specs.declared.world.event.Half.TheVariants.{Lo, Hi}
use Rattle.ringcore.specs.declared.world.event.Event.TheVariants.{Look, Won, Lost, Write, Flip, Test, Read, Advance, Close, Acknowledge, Ask}
use Rattle.ringcore.specs.world.Trails.{Trail, Run, same, same_half, trail_of, looked, batches_made, numbers_given, batch_length, reserved_length, is_among}
use Rattle.ringcore.specs.world.Trails.{has_written, has_flipped, IsSettled, found_ready, half_read, raws_by}
use Rattle.ring_tests.proofs.WorkedCases.{two, x, y, shows}

abbrev empty : Control
empty = shows 1 0 0 false

-- ---- whose they are

pub a_sender_is_not_another : same (Sender 0) (Sender 1) ≡ false
a_sender_is_not_another = refl

pub a_sender_is_itself : same (Sender 1) (Sender 1) ≡ true
a_sender_is_itself = refl

pub a_sender_is_not_the_consumer : same (Sender 0) Consumer ≡ false
a_sender_is_not_the_consumer = refl

pub the_consumer_is_no_sender : same Consumer (Sender 0) ≡ false
the_consumer_is_no_sender = refl

pub the_consumer_is_itself : same Consumer Consumer ≡ true
the_consumer_is_itself = refl

pub the_low_half_is_not_the_high_one : same_half Lo Hi ≡ false
the_low_half_is_not_the_high_one = refl

pub the_high_half_is_not_the_low_one : same_half Hi Lo ≡ false
the_high_half_is_not_the_low_one = refl

pub the_low_half_is_itself : same_half Lo Lo ≡ true
the_low_half_is_itself = refl

pub the_high_half_is_itself : same_half Hi Hi ≡ true
the_high_half_is_itself = refl

-- steps of three seats
abbrev mixed : Run
mixed = (Sender 1, Close) ∷ (Consumer, Test 1 0) ∷ (Sender 0, Ask 0) ∷ (Sender 1, Look empty) ∷ []

pub a_trail_has_all_steps_of_its_seat_and_no_others : trail_of (Sender 1) mixed ≡ Close ∷ Look empty ∷ []
a_trail_has_all_steps_of_its_seat_and_no_others = refl

-- ---- what a sender looked at

pub the_newest_look_counts : looked (Look (shows 1 1 0 false) ∷ Look empty ∷ []) ≡ Some (shows 1 1 0 false)
the_newest_look_counts = refl

pub a_look_stays_behind_other_steps : looked (Ask 0 ∷ Look empty ∷ []) ≡ Some empty
a_look_stays_behind_other_steps = refl

pub a_look_is_spent_by_a_won_exchange : looked (Won (x ∷ []) None ∷ Look empty ∷ []) ≡ None
a_look_is_spent_by_a_won_exchange = refl

pub a_look_is_spent_by_a_lost_exchange :
    looked (Lost (x ∷ []) false (shows 1 1 0 false) ∷ Look empty ∷ []) ≡ None
a_look_is_spent_by_a_lost_exchange = refl

pub nothing_is_looked_at_first : looked [] ≡ None
nothing_is_looked_at_first = refl

-- ---- what it reserved

-- two batches, of which the first has a number, with an exchange lost between them
abbrev two_batches : Trail
two_batches = Won (x ∷ y ∷ []) None ∷ Lost (x ∷ []) false empty ∷ Won (x ∷ []) (Some 1) ∷ []

pub each_won_exchange_is_a_batch : batches_made two_batches ≡ 2
each_won_exchange_is_a_batch = refl

pub none_is_made_at_first : batches_made [] ≡ 0
none_is_made_at_first = refl

pub each_batch_with_a_sync_has_a_number : numbers_given two_batches ≡ 1
each_batch_with_a_sync_has_a_number = refl

pub none_is_numbered_at_first : numbers_given [] ≡ 0
none_is_numbered_at_first = refl

pub a_second_number_is_given : numbers_given (Won (x ∷ []) (Some 2) ∷ two_batches) ≡ 2
a_second_number_is_given = refl

pub a_sync_is_one_command_more : batch_length (x ∷ []) (Some 1) ≡ 2
a_sync_is_one_command_more = refl

pub a_batch_without_one_is_its_body : batch_length (x ∷ y ∷ []) None ≡ 2
a_batch_without_one_is_its_body = refl

pub the_newest_reservation_counts : reserved_length (Ask 0 ∷ two_batches) ≡ 2
the_newest_reservation_counts = refl

pub a_reservation_has_its_sync : reserved_length (Won (x ∷ []) (Some 1) ∷ []) ≡ 2
a_reservation_has_its_sync = refl

pub nothing_is_reserved_at_first : reserved_length (Look empty ∷ []) ≡ 0
nothing_is_reserved_at_first = refl

-- ---- what of it is written and flipped

pub the_first_is_among_them : is_among 3 2 3 ≡ true
the_first_is_among_them = refl

pub the_last_is_among_them : is_among 3 2 4 ≡ true
the_last_is_among_them = refl

pub the_next_is_not_among_them : is_among 3 2 5 ≡ false
the_next_is_not_among_them = refl

pub the_one_ahead_is_not_among_them : is_among 3 2 2 ≡ false
the_one_ahead_is_not_among_them = refl

-- the low half of the first of two commands is written, and then other steps taken
abbrev low_written : Trail
low_written = Ask 0 ∷ Write 0 Lo ∷ Won (x ∷ y ∷ []) None ∷ []

pub a_written_half_is_written : has_written 0 Lo low_written ≡ true
a_written_half_is_written = refl

pub the_other_half_is_not : has_written 0 Hi low_written ≡ false
the_other_half_is_not = refl

pub another_command_is_not : has_written 1 Lo low_written ≡ false
another_command_is_not = refl

pub an_older_write_stays : has_written 0 Lo (Write 0 Hi ∷ low_written) ≡ true
an_older_write_stays = refl

pub a_new_reservation_is_unwritten : has_written 0 Lo (Won (x ∷ []) None ∷ low_written) ≡ false
a_new_reservation_is_unwritten = refl

pub nothing_is_written_at_first : has_written 0 Lo [] ≡ false
nothing_is_written_at_first = refl

-- the second and the third of four commands are flipped, and then another step taken
abbrev two_flipped : Trail
two_flipped = Ask 0 ∷ Flip 1 2 ∷ Won (x ∷ x ∷ x ∷ x ∷ []) None ∷ []

pub a_flipped_command_is_flipped : has_flipped 2 two_flipped ≡ true
a_flipped_command_is_flipped = refl

pub the_one_behind_is_not_flipped : has_flipped 3 two_flipped ≡ false
the_one_behind_is_not_flipped = refl

pub an_older_flip_stays : has_flipped 1 (Flip 3 1 ∷ two_flipped) ≡ true
an_older_flip_stays = refl

pub a_new_reservation_is_unflipped : has_flipped 1 (Won (x ∷ y ∷ []) None ∷ two_flipped) ≡ false
a_new_reservation_is_unflipped = refl

pub nothing_is_flipped_at_first : has_flipped 0 [] ≡ false
nothing_is_flipped_at_first = refl

pub an_unflipped_reservation_is_open : ¬ IsSettled (Won (x ∷ []) None ∷ [])
an_unflipped_reservation_is_open settled =
    let flipped : false ≡ true = settled 0 (omega arith) in absurd (cc)

pub a_reservation_flipped_in_part_is_open : ¬ IsSettled (Flip 0 1 ∷ Won (x ∷ y ∷ []) None ∷ [])
a_reservation_flipped_in_part_is_open settled =
    let flipped : false ≡ true = settled 1 (omega arith) in absurd (cc)

-- It may be flipped by several steps, in any order.
pub a_reservation_flipped_by_parts_is_settled : IsSettled (Flip 0 1 ∷ Flip 1 1 ∷ Won (x ∷ y ∷ []) None ∷ [])
a_reservation_flipped_by_parts_is_settled = two _ refl refl

-- ---- what the consumer's trail says

pub the_newest_test_counts : found_ready (Read 0 Lo 1 ∷ Test 2 2 ∷ Test 2 1 ∷ []) ≡ 2
the_newest_test_counts = refl

pub a_test_tells_what_it_found_and_not_its_limit : found_ready (Test 64 1 ∷ []) ≡ 1
a_test_tells_what_it_found_and_not_its_limit = refl

pub an_advance_spends_the_test : found_ready (Advance (x ∷ []) ∷ Test 2 2 ∷ []) ≡ 0
an_advance_spends_the_test = refl

pub nothing_is_ready_at_first : found_ready [] ≡ 0
nothing_is_ready_at_first = refl

-- the low word of the second command is read
abbrev one_read : Trail
one_read = Look empty ∷ Read 1 Lo 5 ∷ Test 2 2 ∷ []

pub a_half_that_was_read_is_known : half_read 1 Lo one_read ≡ Some 5
a_half_that_was_read_is_known = refl

pub the_other_half_is_unknown : half_read 1 Hi one_read ≡ None
the_other_half_is_unknown = refl

pub another_command_is_unknown : half_read 0 Lo one_read ≡ None
another_command_is_unknown = refl

pub an_older_read_stays_known : half_read 1 Lo (Read 0 Lo 6 ∷ one_read) ≡ Some 5
an_older_read_stays_known = refl

pub a_test_makes_it_unknown : half_read 1 Lo (Test 2 2 ∷ one_read) ≡ None
a_test_makes_it_unknown = refl

pub an_advance_makes_it_unknown : half_read 1 Lo (Advance (x ∷ []) ∷ one_read) ≡ None
an_advance_makes_it_unknown = refl

pub nothing_is_known_at_first : half_read 0 Lo [] ≡ None
nothing_is_known_at_first = refl

pub the_commands_taken_are_in_order :
    raws_by (Acknowledge 0 1 ∷ Advance (y ∷ []) ∷ Test 1 1 ∷ Advance (x ∷ x ∷ []) ∷ []) ≡ x ∷ x ∷ y ∷ []
the_commands_taken_are_in_order = refl

pub nothing_is_taken_at_first : raws_by [] ≡ []
nothing_is_taken_at_first = refl
