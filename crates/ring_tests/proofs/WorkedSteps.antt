-- What each kind of step asks: for each of its conditions a step that it alone refuses.
use Rattle.std.proofs.Common.{◌≡◌, ℕ, zero, suc, ◌<◌, ◌≤◌, Bool, true, false, cond, ◌==◌, [], ◌∷◌, Option, Some, None, refl, sym, ap, subst, arith}
use Rattle.std.proofs.lemmas.Option.{none-some, same_Some}
use Rattle.std.specs.Prelude.{slice_get}
use Rattle.cmdcodec.specs.declared.raw.Raw.{Raw}
use Rattle.qindex.specs.declared.control.Control.{Control}
use Rattle.ringcore.specs.declared.world.event.Who.TheVariants.{Consumer, Sender}
use Rattle.ringcore.specs.declared.world.event.Half.TheVariants.{Lo, Hi}
use Rattle.ringcore.specs.declared.world.event.Event.TheVariants.{Look, Won, Lost, Write, Flip, Test, Read, Advance, Close, Acknowledge, Ask}
use Rattle.ringcore.specs.world.Trails.{Trail, Run}
use Rattle.ringcore.specs.world.World.{Item, World, opening, sync_raw, taken_as}
use Rattle.ringcore.specs.world.Allowed.{Ring, ShareAWord, IsRunLength, IsNextNumber, MayTry, MayWin, length_with, MayLose, MayWrite, MayFlip, FindsReady, MayRead, MayAdvance, SyncIsTaken, MayAcknowledge, Allowed, IsRun}
use Rattle.ring_tests.proofs.WorkedCases.{none, one, two, x, y, body_of_one, shows}

-- two slots, two senders and two batches of each
abbrev ring : Ring
ring = record { geometry = 1; senders = 2; max_batches = 2; flags = 64 }

-- the same with a flag word for each slot
abbrev narrow_ring : Ring
narrow_ring = record ring { flags = 1 }

-- one in which each sender may reserve one batch, and one in which nobody may
abbrev ring_of_one_batch : Ring
ring_of_one_batch = record ring { max_batches = 1 }

abbrev ring_of_no_batches : Ring
ring_of_no_batches = record ring { max_batches = 0 }

abbrev empty : Control
empty = shows 1 0 0 false

abbrev prod_of : Control → ℕ
prod_of seen = seen.prod.number

abbrev item : ℕ → Option ℕ → ℕ → Raw → Item
item s number place raw = record { sender = s; number = number; place = place; raw = raw }

-- x of sender 0 is reserved, and none or one command is taken
abbrev x_reserved : World
x_reserved = record opening { reserved = item 0 None 0 x ∷ [] }

abbrev x_taken : World
x_taken = record x_reserved { taken = taken_as x ∷ [] }

-- both of sender 0's closing syncs are taken
abbrev both_taken : World
both_taken = record opening {
  reserved = item 0 (Some 1) 1 (sync_raw 0 1) ∷ item 0 (Some 2) 1 (sync_raw 0 2) ∷ [];
  taken = taken_as (sync_raw 0 1) ∷ taken_as (sync_raw 0 2) ∷ [];
}

-- the trail of a sender that reserved x without a closing sync, and what it looked at before that
abbrev reserved : Trail
reserved = Won (x ∷ []) None ∷ Look empty ∷ []

-- and with it written, and flipped
abbrev half_written : Trail
half_written = Write 0 Lo ∷ reserved

abbrev written : Trail
written = Write 0 Hi ∷ half_written

abbrev flipped : Trail
flipped = Flip 0 1 ∷ written

-- the trail of a sender that wrote both commands of its reservation
abbrev both_written : Trail
both_written = Write 1 Hi ∷ Write 1 Lo ∷ Write 0 Hi ∷ Write 0 Lo ∷ Won (x ∷ x ∷ []) None ∷ Look empty ∷ []

-- ---- what a run is

-- The first of these events isn't allowed, whatever comes later.
abbrev begun_wrongly : Run
begun_wrongly = (Sender 0, Close) ∷ (Consumer, Advance (x ∷ [])) ∷ []

pub no_run_begins_wrongly : ¬ IsRun ring begun_wrongly
no_run_begins_wrongly run = let some : 1 ≤ 0 = run.0.1.ready in absurd (omega (arith, some))

pub no_run_ends_wrongly : ¬ IsRun ring ((Consumer, Advance (x ∷ [])) ∷ (Sender 0, Close) ∷ [])
no_run_ends_wrongly run = let some : 1 ≤ 0 = run.1.ready in absurd (omega (arith, some))

abbrev x_half_written : Run
x_half_written = (Sender 0, Write 0 Lo) ∷ (Sender 0, Won (x ∷ []) None) ∷ (Sender 0, Look empty) ∷ []

-- The newest event is judged by its own seat's trail.
pub nobody_writes_what_another_reserved :
    ¬ IsRun ring ((Sender 1, Write 0 Lo) ∷ (Sender 0, Won (x ∷ []) None) ∷ (Sender 0, Look empty) ∷ [])
nobody_writes_what_another_reserved run =
    let inside : 0 < 0 = run.1.inside in absurd (omega (arith, inside))

pub a_sender_writes_what_it_reserved : IsRun ring x_half_written
a_sender_writes_what_it_reserved = (
  (
    (tt, refl),
    record {
      looked_at = refl;
      unclosed = refl;
      settled = none _;
      left = omega arith;
      body_is = body_of_one;
      next = tt;
      room = omega arith;
    },
  ),
  record { inside = omega arith; unflipped = refl },
)

-- It finds what the events before it made of the opening world.
pub a_look_finds_what_was_reserved : IsRun ring ((Sender 1, Look (shows 1 1 0 false)) ∷ x_half_written)
a_look_finds_what_was_reserved = (a_sender_writes_what_it_reserved, refl)

pub no_run_has_a_batch_more_than_the_most :
    ¬ IsRun ring_of_no_batches ((Sender 0, Won (x ∷ []) None) ∷ (Sender 0, Look empty) ∷ [])
no_run_has_a_batch_more_than_the_most run = let left : 0 < 0 = run.1.left in absurd (omega (arith, left))

pub no_look_finds_what_is_not_there : ¬ Allowed ring opening [] (Sender 0) (Look (shows 1 1 0 false))
no_look_finds_what_is_not_there it = let same : 1 ≡ 0 = ap prod_of it in absurd (omega (arith, same))

pub none_is_won_without_a_look : ¬ Allowed ring opening [] (Sender 0) (Won (x ∷ []) None)
none_is_won_without_a_look it = let seen : None ≡ Some empty = it.looked_at in absurd (cc)

pub none_is_lost_without_a_look : ¬ Allowed ring opening [] (Sender 0) (Lost (x ∷ []) false empty)
none_is_lost_without_a_look it = none-some _ it.tries.looked_at

pub none_is_written_without_a_reservation : ¬ Allowed ring opening [] (Sender 0) (Write 0 Lo)
none_is_written_without_a_reservation it = let inside : 0 < 0 = it.inside in absurd (omega (arith, inside))

pub none_is_flipped_without_a_reservation : ¬ Allowed ring opening [] (Sender 0) (Flip 0 1)
none_is_flipped_without_a_reservation it = let inside : 1 ≤ 0 = it.inside in absurd (omega (arith, inside))

pub no_ask_finds_what_is_not_there : ¬ Allowed ring opening [] (Sender 0) (Ask 1)
no_ask_finds_what_is_not_there it = let same : 1 ≡ 0 = it in absurd (omega (arith, same))

-- Sender 0 has the number 1, and sender 1 none.
pub an_ask_finds_its_own_number :
    ¬ Allowed ring (record opening { acknowledged = λ s. cond (s == 0) 1 0 }) [] (Sender 1) (Ask 1)
an_ask_finds_its_own_number it = let same : 1 ≡ 0 = it in absurd (omega (arith, same))

pub none_is_found_where_none_is : ¬ Allowed ring opening [] Consumer (Test 1 1)
none_is_found_where_none_is it = let ready : false ≡ true = it.ready 0 (omega arith) in absurd (cc)

pub none_is_read_without_a_test : ¬ Allowed ring x_reserved [] Consumer (Read 0 Lo 0x500000003)
none_is_read_without_a_test it = let ready : 0 < 0 = it.ready in absurd (omega (arith, ready))

pub none_is_taken_without_a_test : ¬ Allowed ring x_reserved [] Consumer (Advance (x ∷ []))
none_is_taken_without_a_test it = let ready : 1 ≤ 0 = it.ready in absurd (omega (arith, ready))

pub none_is_acknowledged_before_it_is_taken : ¬ Allowed ring opening [] Consumer (Acknowledge 0 1)
none_is_acknowledged_before_it_is_taken it =
    let below : it.taken.position < 0 = it.taken.below in absurd (omega (arith, below))

-- Each kind belongs to one side. Only a look is everybody's.
pub no_sender_acknowledges : ¬ Allowed ring both_taken [] (Sender 0) (Acknowledge 0 1)
no_sender_acknowledges it = it

pub no_sender_takes :
    ¬ Allowed ring x_reserved (Read 0 Hi 1 ∷ Read 0 Lo 0x500000003 ∷ Test 1 1 ∷ []) (Sender 0) (Advance (x ∷ []))
no_sender_takes it = it

pub no_sender_tests : ¬ Allowed ring opening [] (Sender 0) (Test 1 0)
no_sender_tests it = it

pub no_sender_reads : ¬ Allowed ring x_reserved (Test 1 1 ∷ []) (Sender 0) (Read 0 Lo 0x500000003)
no_sender_reads it = it

pub no_consumer_closes : ¬ Allowed ring opening [] Consumer Close
no_consumer_closes it = it

pub no_consumer_reserves : ¬ Allowed ring opening (Look empty ∷ []) Consumer (Won (x ∷ []) None)
no_consumer_reserves it = it

pub no_consumer_writes : ¬ Allowed ring x_reserved reserved Consumer (Write 0 Lo)
no_consumer_writes it = it

pub no_consumer_flips : ¬ Allowed ring x_reserved written Consumer (Flip 0 1)
no_consumer_flips it = it

pub no_consumer_asks : ¬ Allowed ring opening [] Consumer (Ask 0)
no_consumer_asks it = it

pub no_consumer_loses :
    ¬ Allowed ring x_reserved (Look empty ∷ []) Consumer (Lost (x ∷ []) false (shows 1 1 0 false))
no_consumer_loses it = it

-- ---- how many in a row, and where

pub a_step_names_a_position : ¬ IsRunLength 0
a_step_names_a_position it = absurd (omega (arith, it.0))

pub no_step_names_more_than_64_positions : ¬ IsRunLength 65
no_step_names_more_than_64_positions it = absurd (omega (arith, it.1))

pub a_step_may_name_64_positions : IsRunLength 64
a_step_may_name_64_positions = (omega arith, omega arith)

-- In a ring of two slots with one flag each:
pub two_words_are_not_one : ¬ ShareAWord 1 1 0 2
two_words_are_not_one share = let same : 1 ≡ 0 = share 1 (omega arith) in absurd (omega (arith, same))

-- With 64 flags a word, positions 63 and 64 of a ring of 128 are in two of them, and 64 and 65 in one.
pub flags_on_both_sides_of_64_share_no_word : ¬ ShareAWord 64 7 63 2
flags_on_both_sides_of_64_share_no_word share =
    let same : 1 ≡ 0 = share 1 (omega arith) in absurd (omega (arith, same))

-- The last slot and, a lap later, the first have their flags in one word.
pub flags_share_a_word_past_the_end_of_the_ring : ShareAWord 64 1 63 2
flags_share_a_word_past_the_end_of_the_ring = two _ refl refl

-- ---- reserve

pub a_number_is_not_left_out : ¬ IsNextNumber [] (Some 2)
a_number_is_not_left_out it = let same : 2 ≡ 1 = it in absurd (omega (arith, same))

pub a_number_is_not_given_twice : ¬ IsNextNumber (Won (x ∷ []) (Some 1) ∷ []) (Some 1)
a_number_is_not_given_twice it = let same : 1 ≡ 2 = it in absurd (omega (arith, same))

pub a_batch_may_have_no_number : IsNextNumber [] None
a_batch_may_have_no_number = tt

pub a_closing_sync_counts : length_with true (x ∷ []) ≡ 2
a_closing_sync_counts = refl

pub none_counts_where_none_closes : length_with false (x ∷ []) ≡ 1
none_counts_where_none_closes = refl

pub none_is_tried_without_a_look : ¬ MayTry ring [] (x ∷ []) 1 empty
none_is_tried_without_a_look it = let seen : None ≡ Some empty = it.looked_at in absurd (cc)

pub none_is_tried_twice_by_a_look :
    ¬ MayTry ring (Lost (x ∷ []) false (shows 1 1 0 false) ∷ Look empty ∷ []) (x ∷ []) 1 empty
none_is_tried_twice_by_a_look it = let seen : None ≡ Some empty = it.looked_at in absurd (cc)

pub none_is_tried_in_a_closed_ring :
    ¬ MayTry ring (Look (shows 1 0 0 true) ∷ []) (x ∷ []) 1 (shows 1 0 0 true)
none_is_tried_in_a_closed_ring it = let unclosed : true ≡ false = it.unclosed in absurd (cc)

pub none_is_tried_with_one_open :
    ¬ MayTry ring (Look (shows 1 1 0 false) ∷ reserved) (x ∷ []) 1 (shows 1 1 0 false)
none_is_tried_with_one_open it = let settled : false ≡ true = it.settled 0 (omega arith) in absurd (cc)

pub none_is_tried_beyond_the_last_batch : ¬ MayTry ring_of_no_batches (Look empty ∷ []) (x ∷ []) 1 empty
none_is_tried_beyond_the_last_batch it = let left : 0 < 0 = it.left in absurd (omega (arith, left))

-- All that it may make have no number.
pub no_unnumbered_batch_is_tried_beyond_the_last :
    ¬ MayTry ring_of_one_batch (Look (shows 1 1 0 false) ∷ flipped) (x ∷ []) 1 (shows 1 1 0 false)
no_unnumbered_batch_is_tried_beyond_the_last it = let left : 1 < 1 = it.left in absurd (omega (arith, left))

pub no_empty_batch_is_tried : ¬ MayTry ring (Look empty ∷ []) [] 0 empty
no_empty_batch_is_tried it = let some : 1 ≤ 0 = it.body_is.some in absurd (omega (arith, some))

pub none_is_tried_without_room :
    ¬ MayTry ring (Look (shows 1 2 0 false) ∷ []) (x ∷ []) 1 (shows 1 2 0 false)
none_is_tried_without_room it = let room : 3 ≤ 2 = it.room in absurd (omega (arith, room))

pub none_is_won_in_a_closed_ring :
    ¬ MayWin ring (record opening { closed = true }) (Look (shows 1 0 0 true) ∷ []) (x ∷ []) None
none_is_won_in_a_closed_ring it = let unclosed : true ≡ false = it.unclosed in absurd (cc)

pub none_is_won_with_one_open : ¬ MayWin ring x_reserved (Look (shows 1 1 0 false) ∷ reserved) (x ∷ []) None
none_is_won_with_one_open it = let settled : false ≡ true = it.settled 0 (omega arith) in absurd (cc)

pub none_is_won_beyond_the_last_batch : ¬ MayWin ring_of_no_batches opening (Look empty ∷ []) (x ∷ []) None
none_is_won_beyond_the_last_batch it = let left : 0 < 0 = it.left in absurd (omega (arith, left))

pub no_unnumbered_batch_is_won_beyond_the_last :
    ¬ MayWin ring_of_one_batch x_reserved (Look (shows 1 1 0 false) ∷ flipped) (x ∷ []) None
no_unnumbered_batch_is_won_beyond_the_last it = let left : 1 < 1 = it.left in absurd (omega (arith, left))

pub no_empty_batch_is_won : ¬ MayWin ring opening (Look empty ∷ []) [] None
no_empty_batch_is_won it = let some : 1 ≤ 0 = it.body_is.some in absurd (omega (arith, some))

pub the_first_number_won_is_1 : ¬ MayWin ring opening (Look empty ∷ []) (x ∷ []) (Some 2)
the_first_number_won_is_1 it = let same : 2 ≡ 1 = it.next in absurd (omega (arith, same))

-- There is room for both commands, and not for their closing sync too.
pub none_is_won_without_room_for_its_sync : ¬ MayWin ring opening (Look empty ∷ []) (x ∷ x ∷ []) (Some 1)
none_is_won_without_room_for_its_sync it = let room : 3 ≤ 2 = it.room in absurd (omega (arith, room))

pub none_is_lost_where_nothing_changed : ¬ MayLose ring opening (Look empty ∷ []) (x ∷ []) false empty
none_is_lost_where_nothing_changed it = it.other (same_Some empty it.before it.tries.looked_at)

pub a_lost_exchange_finds_what_is_there :
    ¬ MayLose ring opening (Look empty ∷ []) (x ∷ []) false (shows 1 1 0 false)
a_lost_exchange_finds_what_is_there it =
    let same : 1 ≡ 0 = ap prod_of it.found_is in absurd (omega (arith, same))

pub none_is_lost_that_is_not_tried : ¬ MayLose ring x_reserved [] (x ∷ []) false (shows 1 1 0 false)
none_is_lost_that_is_not_tried it = none-some _ it.tries.looked_at

-- By the look there was room for both commands, and not for their closing sync too.
pub none_is_lost_without_room_for_its_sync :
    ¬ MayLose ring x_reserved (Look empty ∷ []) (x ∷ x ∷ []) true (shows 1 1 0 false)
none_is_lost_without_room_for_its_sync it =
    let before : empty ≡ it.before = same_Some empty it.before it.tries.looked_at in
    let tries = subst (MayTry ring (Look empty ∷ []) (x ∷ x ∷ []) 3) (sym before) it.tries in
    let room : 3 ≤ 2 = tries.room in absurd (omega (arith, room))

pub none_is_lost_beyond_the_last_batch :
    ¬ MayLose ring_of_no_batches x_reserved (Look empty ∷ []) (x ∷ []) false (shows 1 1 0 false)
none_is_lost_beyond_the_last_batch it = let left : 0 < 0 = it.tries.left in absurd (omega (arith, left))

-- ---- write and flip

pub none_is_written_behind_the_reservation : ¬ MayWrite reserved 1
none_is_written_behind_the_reservation it = let inside : 1 < 1 = it.inside in absurd (omega (arith, inside))

pub none_is_written_once_it_is_flipped : ¬ MayWrite flipped 0
none_is_written_once_it_is_flipped it = let unflipped : true ≡ false = it.unflipped in absurd (cc)

pub no_flip_is_of_nothing : ¬ MayFlip ring reserved 0 0 0
no_flip_is_of_nothing it = absurd (omega (arith, it.many.0))

pub none_is_flipped_behind_the_reservation : ¬ MayFlip ring (Write 1 Hi ∷ Write 1 Lo ∷ reserved) 0 1 1
none_is_flipped_behind_the_reservation it = let inside : 2 ≤ 1 = it.inside in absurd (omega (arith, inside))

pub no_flip_is_of_two_words : ¬ MayFlip narrow_ring both_written 0 0 2
no_flip_is_of_two_words it = let same : 1 ≡ 0 = it.in_word 1 (omega arith) in absurd (omega (arith, same))

pub none_is_flipped_twice : ¬ MayFlip ring flipped 0 0 1
none_is_flipped_twice it = let unflipped : true ≡ false = it.unflipped 0 (omega arith) in absurd (cc)

pub none_is_flipped_half_written : ¬ MayFlip ring half_written 0 0 1
none_is_flipped_half_written it = let written : false ≡ true = it.written 0 Hi (omega arith) in absurd (cc)

pub none_is_flipped_unwritten_behind_the_first :
    ¬ MayFlip ring (Write 0 Hi ∷ Write 0 Lo ∷ Won (x ∷ x ∷ []) None ∷ []) 0 0 2
none_is_flipped_unwritten_behind_the_first it =
    let written : false ≡ true = it.written 1 Lo (omega arith) in absurd (cc)

-- With two flags a word in a ring of four, a reservation from position 1 on has its first two in two words.
pub a_flip_is_in_the_word_of_its_own_position :
    ¬ MayFlip (record ring { geometry = 2; flags = 2 }) both_written 1 0 2
a_flip_is_in_the_word_of_its_own_position it =
    let same : 1 ≡ 0 = it.in_word 1 (omega arith) in absurd (omega (arith, same))

-- ---- test, read and advance

-- a world in which these positions are flipped
abbrev with_flipped : (ℕ → Bool) → World
with_flipped are = record opening { flipped = are }

pub no_test_is_for_nothing : ¬ FindsReady ring opening 0 0
no_test_is_for_nothing it = absurd (omega (arith, it.many.0))

pub none_is_found_beyond_the_limit : ¬ FindsReady ring (with_flipped (λ position. true)) 1 2
none_is_found_beyond_the_limit it = absurd (omega (arith, it.most))

pub none_is_found_in_another_word : ¬ FindsReady narrow_ring (with_flipped (λ position. true)) 2 2
none_is_found_in_another_word it =
    let same : 1 ≡ 0 = it.in_word 1 (omega arith) in absurd (omega (arith, same))

pub none_that_is_ready_is_passed_over : ¬ FindsReady ring (with_flipped (λ position. true)) 1 0
none_that_is_ready_is_passed_over it =
    let unready : true ≡ false = it.no_more (omega arith) (one _ refl) in absurd (cc)

pub none_is_read_that_was_not_found : ¬ MayRead x_reserved [] 0 Lo 0x500000003
none_is_read_that_was_not_found it = let ready : 0 < 0 = it.ready in absurd (omega (arith, ready))

-- x is there, and the low word of y is read.
pub nothing_else_is_read : ¬ MayRead x_reserved (Test 1 1 ∷ []) 0 Lo 0x600000003
nothing_else_is_read it =
    let there : item 0 None 0 x ≡ it.item = same_Some (item 0 None 0 x) it.item it.there in
    let low : 0x500000003 ≡ it.item.raw.lo = ap (λ (i : Item). i.raw.lo) there in
    let same : 0x600000003 ≡ it.item.raw.lo = it.found in
    absurd (omega (arith, low, same))

-- x is taken and y is next.
abbrev y_next : World
y_next = record x_taken { reserved = item 0 None 0 x ∷ item 0 None 0 y ∷ [] }

pub a_read_counts_from_the_head : ¬ MayRead y_next (Test 1 1 ∷ []) 0 Lo 0x500000003
a_read_counts_from_the_head it =
    let there : item 0 None 0 y ≡ it.item = same_Some (item 0 None 0 y) it.item it.there in
    let low : 0x600000003 ≡ it.item.raw.lo = ap (λ (i : Item). i.raw.lo) there in
    let same : 0x500000003 ≡ it.item.raw.lo = it.found in
    absurd (omega (arith, low, same))

pub an_advance_takes_something : ¬ MayAdvance [] []
an_advance_takes_something it = absurd (omega (arith, it.some))

-- Both words were read, and no test found the command ready.
pub none_is_taken_that_was_not_found : ¬ MayAdvance (Read 0 Hi 1 ∷ Read 0 Lo 0x500000003 ∷ []) (x ∷ [])
none_is_taken_that_was_not_found it = let ready : 1 ≤ 0 = it.ready in absurd (omega (arith, ready))

pub unread_is_not_taken : ¬ MayAdvance (Test 1 1 ∷ []) (x ∷ [])
unread_is_not_taken it = none-some _ (it.read 0 x Lo refl)

pub unread_half_is_not_taken : ¬ MayAdvance (Read 0 Lo 0x500000003 ∷ Test 1 1 ∷ []) (x ∷ [])
unread_half_is_not_taken it = none-some _ (it.read 0 x Hi refl)

pub an_unread_second_is_not_taken :
    ¬ MayAdvance (Read 0 Hi 1 ∷ Read 0 Lo 0x500000003 ∷ Test 2 2 ∷ []) (x ∷ x ∷ [])
an_unread_second_is_not_taken it = none-some _ (it.read 1 x Lo refl)

pub what_was_read_is_taken : ¬ MayAdvance (Read 0 Hi 1 ∷ Read 0 Lo 0x600000003 ∷ Test 1 1 ∷ []) (x ∷ [])
what_was_read_is_taken it =
    let same : 0x600000003 ≡ 0x500000003 = same_Some 0x600000003 0x500000003 (it.read 0 x Lo refl) in
    absurd (omega (arith, same))

-- What was read before the newest test doesn't count.
pub an_old_read_is_not_taken :
    ¬ MayAdvance (Test 1 1 ∷ Read 0 Hi 1 ∷ Read 0 Lo 0x500000003 ∷ Test 1 1 ∷ []) (x ∷ [])
an_old_read_is_not_taken it = none-some _ (it.read 0 x Lo refl)

-- ---- acknowledge

-- the closing sync of sender 0's first batch, reserved without a body ahead of it
abbrev sync_reserved : World
sync_reserved = record opening { reserved = item 0 (Some 1) 1 (sync_raw 0 1) ∷ [] }

pub a_reserved_sync_is_not_taken : ¬ SyncIsTaken sync_reserved 0 1
a_reserved_sync_is_not_taken it = let below : it.position < 0 = it.below in absurd (omega (arith, below))

-- x is taken, which isn't a sync.
pub another_command_is_no_sync : ¬ SyncIsTaken x_taken 0 1
another_command_is_no_sync it = at it.position it.below it.there
  where
    at : (position : ℕ) → position < 1
        → ¬ (slice_get x_taken.reserved position ≡ Some (item 0 (Some 1) it.place (sync_raw 0 1)))
    at zero less there =
        let same = same_Some (item 0 None 0 x) (item 0 (Some 1) it.place (sync_raw 0 1)) there in
        none-some _ (ap (λ (i : Item). i.number) same)
    at (suc position) less there = absurd (omega (arith, less))

pub none_is_acknowledged_untaken : ¬ MayAcknowledge opening 0 1
none_is_acknowledged_untaken it =
    let below : it.taken.position < 0 = it.taken.below in absurd (omega (arith, below))

-- The second number is acknowledged first.
pub no_number_is_passed_over : ¬ MayAcknowledge both_taken 0 2
no_number_is_passed_over it = let same : 2 ≡ 1 = it.next in absurd (omega (arith, same))
