-- What lists of events say of batches, and what is asked of their order.
use Rattle.std.proofs.Common.{◌≡◌, ℕ, true, false, List, [], ◌∷◌, ◌++◌, Option, Some, None, refl, ap, inl, inr, arith}
use Rattle.cmdcodec.specs.declared.raw.Raw.{Raw}
use Rattle.ringcore.specs.declared.world.event.Who.TheVariants.{Consumer, Sender}
use Rattle.ringcore.specs.declared.world.event.Event.TheVariants.{Look, Won, Lost, Test, Advance, Close, Ask}
use Rattle.ringcore.specs.world.Trails.{Run}
use Rattle.ringcore.specs.world.World.{sync_raw}
use Rattle.ringcore.specs.world.Delivery.{Batch, batches, joined, advanced, number_of, numbers, counted, has_close, Begins, IsCompleted, ToldWhenCompleted, IsOrderedDelivery}
use Rattle.ringcore.specs.world.Laws.{batches_of, own_batches, IsOne, OnlyOf}
use Rattle.ringcore.specs.world.ConsumerLaws.{IsDrained, SawDrained}
use Rattle.ring_tests.proofs.WorkedCases.{x, y, shows}

abbrev batch : ℕ → Option ℕ → Raw → Batch
batch s number raw = record { sender = s; number = number; body = raw ∷ [] }

-- ---- what the events say

-- sender 0 reserves x with a number, and sender 1 y without one, after each has looked
abbrev two_reserved : Run
two_reserved =
    (Sender 1, Won (y ∷ []) None) ∷ (Sender 1, Look (shows 2 2 0 false)) ∷
    (Sender 0, Won (x ∷ []) (Some 1)) ∷ (Sender 0, Look (shows 2 0 0 false)) ∷ []

pub batches_are_in_the_order_of_their_reserves :
    batches two_reserved ≡ batch 0 (Some 1) x ∷ batch 1 None y ∷ []
batches_are_in_the_order_of_their_reserves = refl

pub a_lost_exchange_is_no_batch :
    batches ((Sender 0, Lost (x ∷ []) false (shows 2 0 0 false)) ∷ two_reserved) ≡ batches two_reserved
a_lost_exchange_is_no_batch = refl

pub the_commands_of_a_batch_end_with_its_sync : joined (batches two_reserved) ≡ x ∷ sync_raw 0 1 ∷ y ∷ []
the_commands_of_a_batch_end_with_its_sync = refl

-- x is taken, and then y, with a test between them
abbrev two_taken : Run
two_taken = (Consumer, Advance (y ∷ [])) ∷ (Consumer, Test 1 1) ∷ (Consumer, Advance (x ∷ [])) ∷ []

pub commands_are_advanced_in_the_order_of_the_events : advanced two_taken ≡ x ∷ y ∷ []
commands_are_advanced_in_the_order_of_the_events = refl

pub a_number_comes_ahead_of_later_ones : number_of (Some 1) (2 ∷ []) ≡ 1 ∷ 2 ∷ []
a_number_comes_ahead_of_later_ones = refl

pub a_batch_without_a_number_adds_none : number_of None (2 ∷ []) ≡ 2 ∷ []
a_batch_without_a_number_adds_none = refl

-- batches of two senders, one of them without a number
abbrev four_batches : List Batch
four_batches = batch 0 (Some 1) x ∷ batch 1 (Some 1) y ∷ batch 0 None x ∷ batch 0 (Some 2) y ∷ []

pub numbers_are_those_of_the_sender : numbers 0 four_batches ≡ 1 ∷ 2 ∷ []
numbers_are_those_of_the_sender = refl

pub counts_go_on_from_the_first : counted 1 3 ≡ 1 ∷ 2 ∷ 3 ∷ []
counts_go_on_from_the_first = refl

pub a_close_stays : has_close ((Sender 0, Ask 0) ∷ (Sender 1, Close) ∷ (Consumer, Test 1 0) ∷ []) ≡ true
a_close_stays = refl

pub an_open_ring_has_none : has_close two_reserved ≡ false
an_open_ring_has_none = refl

pub a_list_begins_with_none_of_it : Begins {A = ℕ} [] (1 ∷ [])
a_list_begins_with_none_of_it = (1 ∷ [], refl)

pub a_list_begins_with_its_first : Begins {A = ℕ} (1 ∷ []) (1 ∷ 2 ∷ [])
a_list_begins_with_its_first = (2 ∷ [], refl)

abbrev first : List ℕ → ℕ
first [] = 0
first (n ∷ ns) = n

pub a_list_begins_with_nothing_else : ¬ Begins {A = ℕ} (2 ∷ []) (1 ∷ 2 ∷ [])
a_list_begins_with_nothing_else begins =
    let same : 1 ≡ 2 = ap first begins.1 in absurd (omega (arith, same))

-- ---- ordered delivery

abbrev first_lo : List Raw → ℕ
first_lo [] = 0
first_lo (raw ∷ raws) = raw.lo

-- y is taken, and x was reserved.
pub no_order_takes_another_command :
    ¬ IsOrderedDelivery ((Consumer, Advance (y ∷ [])) ∷ (Sender 0, Won (x ∷ []) None) ∷ [])
no_order_takes_another_command delivery =
    let same : 0x500000003 ≡ 0x600000003 = ap first_lo delivery.taken.1 in absurd (omega (arith, same))

pub no_order_numbers_the_first_2 : ¬ IsOrderedDelivery ((Sender 0, Won (x ∷ []) (Some 2)) ∷ [])
no_order_numbers_the_first_2 delivery =
    let same : 2 ≡ 1 = ap first (delivery.numbered 0) in absurd (omega (arith, same))

pub no_order_reserves_after_a_close :
    ¬ IsOrderedDelivery ((Sender 0, Won (x ∷ []) None) ∷ (Sender 1, Close) ∷ [])
no_order_reserves_after_a_close delivery =
    let closed : true ≡ false = delivery.closed [] ((Sender 1, Close) ∷ []) 0 (x ∷ []) None refl in
    absurd (cc)

-- Sender 0 was told of its batch, of which nothing is taken.
abbrev untaken : Run
untaken = (Sender 0, Won (x ∷ []) (Some 1)) ∷ []

abbrev told_early : Run
told_early = (Sender 0, Ask 1) ∷ untaken

nothing_is_completed : ¬ IsCompleted untaken 0 1
nothing_is_completed it = let none : None ≡ Some (sync_raw 0 1) = it.sync in absurd (cc)

pub no_order_tells_early : ¬ IsOrderedDelivery told_early
no_order_tells_early delivery = nothing_is_completed (delivery.told [] untaken 0 1 refl (omega arith))

pub none_is_told_early : ¬ ToldWhenCompleted told_early
none_is_told_early told = nothing_is_completed (told [] untaken 0 1 refl (omega arith))

abbrev later_taken : Run
later_taken = (Consumer, Advance (x ∷ sync_raw 0 1 ∷ [])) ∷ []

-- What comes later doesn't make it true.
pub none_is_told_before_it_is_taken : ¬ ToldWhenCompleted (later_taken ++ told_early)
none_is_told_before_it_is_taken told = nothing_is_completed (told later_taken untaken 0 1 refl (omega arith))

abbrev later_asked : Run
later_asked = (Sender 0, Ask 0) ∷ []

-- An older ask counts too.
pub none_was_told_early : ¬ ToldWhenCompleted (later_asked ++ told_early)
none_was_told_early told = nothing_is_completed (told later_asked untaken 0 1 refl (omega arith))

-- ---- whose batches they are

pub batches_of_a_sender_are_its_own :
    batches_of 0 four_batches ≡ batch 0 (Some 1) x ∷ batch 0 None x ∷ batch 0 (Some 2) y ∷ []
batches_of_a_sender_are_its_own = refl

pub a_trail_tells_its_batches_in_order :
    own_batches 1 (Close ∷ Won (y ∷ []) (Some 1) ∷ Ask 0 ∷ Won (x ∷ []) None ∷ [])
    ≡ batch 1 None x ∷ batch 1 (Some 1) y ∷ []
a_trail_tells_its_batches_in_order = refl

pub a_sender_below_their_number_is_one : IsOne 2 (Sender 1)
a_sender_below_their_number_is_one = omega arith

pub a_sender_beyond_their_number_is_none : ¬ IsOne 2 (Sender 2)
a_sender_beyond_their_number_is_none less = absurd (omega (arith, less))

pub the_consumer_is_one : IsOne 0 Consumer
the_consumer_is_one = tt

pub no_other_sender_takes_a_step : ¬ OnlyOf 2 ((Sender 2, Close) ∷ [])
no_other_sender_takes_a_step only = absurd (omega (arith, only.0))

pub no_other_sender_took_a_step : ¬ OnlyOf 2 ((Sender 0, Close) ∷ (Sender 2, Close) ∷ [])
no_other_sender_took_a_step only = absurd (omega (arith, only.1.0))

pub none_take_no_steps : OnlyOf 0 []
none_take_no_steps = tt

-- ---- the end

pub an_open_ring_is_not_drained : ¬ IsDrained (shows 2 3 3 false)
an_open_ring_is_not_drained drained = let closed : false ≡ true = drained.0 in absurd (cc)

pub a_ring_with_one_left_is_not_drained : ¬ IsDrained (shows 2 3 2 true)
a_ring_with_one_left_is_not_drained drained = let same : 3 ≡ 2 = drained.1 in absurd (omega (arith, same))

pub a_closed_and_empty_ring_is_drained : IsDrained (shows 2 3 3 true)
a_closed_and_empty_ring_is_drained = (refl, refl)

pub none_saw_it_drained_without_a_look : ¬ SawDrained (Test 1 0 ∷ [])
none_saw_it_drained_without_a_look saw = saw

pub none_saw_it_drained_that_saw_it_open : ¬ SawDrained (Look (shows 2 3 3 false) ∷ [])
none_saw_it_drained_that_saw_it_open saw = elim saw [
  | inl drained ↦ an_open_ring_is_not_drained drained
  | inr older ↦ older
]

-- An older look counts too, and with it later steps.
pub an_older_look_saw_it_drained :
    SawDrained (Test 1 0 ∷ Look (shows 2 3 3 false) ∷ Look (shows 2 3 3 true) ∷ [])
an_older_look_saw_it_drained = inr (inl (refl, refl))
