-- What the definitions say of a hardware queue.
use Rattle.std.proofs.Common.{◌≡◌, ◌≢◌, ℕ, zero, suc, ◌+◌, ◌*◌, ◌^◌, ◌<◌, ◌≤◌, Bool, true, false, List, [], ◌∷◌, length, Option, Some, None, refl, ap, sym, subst, ◌∙◌, append-nil, arith}
use Rattle.std.specs.Prelude.{All, Contains, slice_get}
use Rattle.cmdcodec.specs.declared.raw.Raw.{Raw}
use Rattle.cmdcodec.specs.Opcodes.{opcode_of, opcode_named}
use Rattle.ringcore.specs.declared.world.event.Event.TheVariants.{Won}
use Rattle.ringcore.specs.declared.world.event.Who.TheVariants.{Sender}
use Rattle.ringcore.specs.world.Trails.{Run}
use Rattle.ring.specs.consumer.Consumers.{ConsumerValue}
use Rattle.ring.specs.consumer.Pendings.{PendingValue}
use Rattle.ring.specs.consumer.Deferring.{DeferringValue}
use Rattle.hardware_queue.specs.declared.command_error.CommandError.TheVariants.{Illegal, Abort, AtcInvSync}
use Rattle.hardware_queue.specs.declared.forwarded.Forwarded.TheVariants as answer
use Rattle.hardware_queue.specs.declared.forwarded.Acknowledgement.{Acknowledgement}
use Rattle.hardware_queue.specs.declared.queue_progress.Progress.TheVariants as progress
use Rattle.hardware_queue.specs.declared.reading.Reading.TheVariants.{Gerror, Gerrorn, Cons}
use Rattle.hardware_queue.specs.declared.register_words.RegisterWords.{RegisterWords}
use Rattle.hardware_queue.specs.declared.remedy.Remedy.{Remedy}
use Rattle.hardware_queue.specs.declared.remedy.Remedy.TheVariants.{Retry, Replace}
use Rattle.hardware_queue.specs.declared.remedy.RemedyFault.TheVariants.{NotStopped, NotIllegal, IsSync}
use Rattle.hardware_queue.specs.declared.state.QueueState.{QueueState}
use Rattle.hardware_queue.specs.declared.state.QueueState.TheVariants as state
use Rattle.hardware_queue.specs.Queues.{QueueValue, Supplied, Stop, plain_sync, MayBeRead, IsFree, IsOfIllegal, IsBelievable, error_in, newly_consumed, toggled, MayAcknowledge, IsErrorActive, IsSyncAt, MayBeUnanswered, SyncsComplete, MayRestart, HasRestarted}
use Rattle.hardware_queue.specs.Owners.{HasPushed, HasFound, refusal, room}
use Rattle.hardware_queue.specs.Flights.{hardware_form, owed, IsInOrder, IsConsumed, BeginsLegal}
use Rattle.hardware_queue.specs.Steps.{ForwarderValue, HasForwarded, IsShown, IsReplaced, HasSettledAt, room_for}
use Rattle.hardware_queue.specs.Forwarders.{refusal_to_replace, IsCarriedOut}
use Rattle.hardware_queue.specs.Supplying.{CanHave, IsSupplied, AreSupplied, HasLooked, slot_overwritten, HasRemediedWith}

-- CMD_CFGI_STE of stream 5 with Leaf 1, and CMD_ATC_INV of stream 5 with SSV 0 and Size 52
abbrev pub cfgi_ste : Raw
cfgi_ste = record { lo = 0x0000000500000003; hi = 1 }

abbrev pub atc_inv : Raw
atc_inv = record { lo = 0x0000000500000040; hi = 52 }

-- no command
abbrev pub illegal : Raw
illegal = record { lo = 0xff; hi = 0 }

-- a queue of two slots that was shown these, of which so many are consumed
abbrev pub queue : List Raw → ℕ → QueueValue
queue shown consumed = record {
  geometry = 1;
  memory = plain_sync ∷ plain_sync ∷ [];
  shown = shown;
  consumed = consumed;
  stopped = None;
  gerrorn = 0;
  lost = [];
  repeated = [];
  read = [];
  supplied = record { words = record { gerror = 0; cons = 0 }; gerrorn = 0; before = []; again = 0 };
}

-- ---- memory

pub a_slot_in_flight_is_not_free : ¬ IsFree (queue (cfgi_ste ∷ []) 0) 0
a_slot_in_flight_is_not_free is = is.unread (record { position = 0; unconsumed = omega arith; shown = omega arith; there = refl })

pub a_slot_beyond_is_not_free : ¬ IsFree (queue [] 0) 2
a_slot_beyond_is_not_free is = let inside = is.in_memory in absurd (omega (arith, inside))

one_stop : (a b : Stop) → Some a ≡ Some b → a ≡ b
one_stop a b is = cc

pub an_abort_is_not_written_over : ¬ IsOfIllegal (record (queue (cfgi_ste ∷ []) 0) { stopped = Some (record { position = 0; error = Abort }) }) 0
an_abort_is_not_written_over is =
    let same = one_stop _ _ is.stopped in
    let error : Abort ≡ Illegal = ap (λ (x : Stop). x.error) same in
    absurd (cc)

-- ---- registers

pub ahead_of_prod_is_not_believed : ¬ IsBelievable 1 (queue [] 0)
ahead_of_prod_is_not_believed is = let within = is.within in absurd (omega (arith, within))

pub no_index_is_not_believed : ¬ IsBelievable 4 (queue [] 0)
no_index_is_not_believed is = let index = is.index in absurd (omega (arith, index))

pub err_is_bits_30_to_24 : error_in (3 * 2 ^ 24 + 1) ≡ AtcInvSync
err_is_bits_30_to_24 = refl

pub bit_31_is_not_err : error_in (2 ^ 31 + 2 ^ 24) ≡ Illegal
bit_31_is_not_err = refl

pub other_errors_stay : toggled 4 ≡ 5
other_errors_stay = refl

pub another_error_is_not_acknowledged : ¬ MayAcknowledge 5 (queue (cfgi_ste ∷ []) 0)
another_error_is_not_acknowledged is = let toggles = is.toggles in absurd (omega (arith, toggles))

pub a_stop_is_told : ¬ HasFound 1 0 (queue (cfgi_ste ∷ []) 0) (queue (cfgi_ste ∷ []) 0) (progress.Consumed 0)
a_stop_is_told is = is.1 (record { differ = λ same. cc; in_flight = omega arith })

-- ---- effects

pub a_lost_command_needs_no_effect : SyncsComplete (λ position. ⊥) (record (queue (illegal ∷ plain_sync ∷ []) 2) { lost = 0 ∷ [] })
a_lost_command_needs_no_effect position sync before inside at unlost answered =
    let first : 0 ≡ position = omega (arith, before, inside) in
    unlost (subst (Contains (0 ∷ [])) first (0, omega arith, refl))

pub an_unanswered_invalidation_needs_no_effect : SyncsComplete (λ position. ⊥) (record (queue (atc_inv ∷ plain_sync ∷ []) 2) { repeated = 1 ∷ [] })
an_unanswered_invalidation_needs_no_effect position sync before inside at unlost answered =
    let first : 0 ≡ position = omega (arith, before, inside) in
    answered (subst (MayBeUnanswered (record (queue (atc_inv ∷ plain_sync ∷ []) 2) { repeated = 1 ∷ [] })) first (record {
      raw = atc_inv;
      shown = refl;
      invalidation = refl;
      again = 1;
      behind = omega arith;
      repeated = (0, omega arith, refl);
      first = λ between after ahead. absurd (omega (arith, after, ahead));
    }))

-- a command was shown, and then the hardware was restarted behind it; the CMD_SYNC was shown later
pub an_invalidation_ahead_of_a_restart_may_be_unanswered : MayBeUnanswered (record (queue (atc_inv ∷ cfgi_ste ∷ plain_sync ∷ []) 3) { repeated = 1 ∷ [] }) 0
an_invalidation_ahead_of_a_restart_may_be_unanswered = record {
  raw = atc_inv;
  shown = refl;
  invalidation = refl;
  again = 1;
  behind = omega arith;
  repeated = (0, omega arith, refl);
  first = λ between after ahead. absurd (omega (arith, after, ahead));
}

-- ---- a restart

pub a_restart_keeps_its_place : ¬ MayRestart 2 1 (queue (cfgi_ste ∷ plain_sync ∷ []) 0)
a_restart_keeps_its_place is = let c = is.cons_is in absurd (omega (arith, c))

pub a_restart_shows_all_again : ¬ MayRestart 1 0 (queue (cfgi_ste ∷ plain_sync ∷ []) 0)
a_restart_shows_all_again is = let p = is.prod_is in absurd (omega (arith, p))

pub a_restart_is_told : (new : QueueValue) → HasRestarted (queue (cfgi_ste ∷ []) 0) new 0 → new.repeated ≡ 0 ∷ []
a_restart_is_told new is = ap (λ (q : QueueValue). q.repeated) is.new_is

-- ---- effects of other commands

pub another_command_is_answered : ¬ MayBeUnanswered (record (queue (cfgi_ste ∷ plain_sync ∷ []) 2) { repeated = 1 ∷ [] }) 0
another_command_is_answered is =
    let same : Some cfgi_ste ≡ Some is.raw = is.shown in
    let one : cfgi_ste ≡ is.raw = cc in
    let other : 3 ≡ 0x40 = ap (λ (r : Raw). opcode_of r) one ∙ is.invalidation in
    absurd (omega (arith, other))

-- ---- order

-- a sender reserved these without a CMD_SYNC
abbrev pub reserved : List Raw → Run
reserved body = (Sender 0, Won body None) ∷ []

pub illegal_commands_are_left_out : owed (reserved (illegal ∷ cfgi_ste ∷ [])) ≡ cfgi_ste ∷ []
unfolding opcode_named
illegal_commands_are_left_out = refl

pub a_sync_asks_for_no_signal : hardware_form (record { lo = 0x0000000700001046; hi = 0x4000000c }) ≡ plain_sync
a_sync_asks_for_no_signal = refl

pub the_second_is_not_first : ¬ IsInOrder (queue (atc_inv ∷ []) 0) (reserved (cfgi_ste ∷ atc_inv ∷ []))
unfolding opcode_named
the_second_is_not_first is =
    let e : cfgi_ste ∷ atc_inv ∷ [] ≡ atc_inv ∷ is.0 = is.1 in
    let first : cfgi_ste ≡ atc_inv = cc in
    let other : 0x0000000500000003 ≡ 0x0000000500000040 = ap (λ (r : Raw). r.lo) first in
    absurd (omega (arith, other))

pub no_more_than_reserved : ¬ IsInOrder (queue (cfgi_ste ∷ cfgi_ste ∷ []) 0) (reserved (cfgi_ste ∷ []))
unfolding opcode_named
no_more_than_reserved is = let long : 1 ≡ suc (suc (length is.0)) = ap (λ (l : List Raw). length l) is.1 in absurd (omega (arith, long))

-- ---- steps

pub room_is_used : ¬ HasPushed (cfgi_ste ∷ []) (queue [] 0) (queue [] 0) 0
room_is_used is = let count = is.count_is in absurd (omega (arith, count))

pub full_only_without_room : {Q : Type 0} (seen : Q → QueueValue) (old new : ForwarderValue Q) → room_for (seen old.owner.queue) old.consumer ≡ 1 → ¬ HasForwarded seen old new answer.Full
full_only_without_room seen old new room is = let none = is.0 in absurd (omega (arith, room, none))

pub nothing_shown_is_no_answer : {D : Type 0} (run : PendingValue D) (new : ConsumerValue D) (q r : QueueValue) → ¬ IsShown run new q r 0
nothing_shown_is_no_answer run new q r is = let some = is.some in absurd (omega (arith, some))

-- All that is legal ahead of the first illegal command is shown, whatever room there is.
pub a_run_is_shown_whole : {D : Type 0} (run : PendingValue D) (new : ConsumerValue D) (q r : QueueValue) → room q ≡ 1 → ¬ IsShown run new q r 2
a_run_is_shown_whole run new q r few is =
    let count = is.pushed.count_is in
    absurd (omega (arith, count, few))

pub a_legal_command_is_not_replaced : {D : Type 0} (run : PendingValue D) (new : ConsumerValue D) (q r : QueueValue) → ¬ IsReplaced run new q r cfgi_ste
unfolding opcode_named
a_legal_command_is_not_replaced run new q r is = let never = is.illegal in absurd (cc)

pub broken_forwards_nothing : {Q : Type 0} (seen : Q → QueueValue) (old new : ForwarderValue Q) → old.owner.state ≡ state.Running → ¬ HasForwarded seen old new (answer.Broken 7)
broken_forwards_nothing seen old new running is = let broken = is.0 in absurd (cc)

-- ---- settling

pub what_is_not_consumed_is_not_settled : ¬ IsConsumed (queue (cfgi_ste ∷ []) 0) (cfgi_ste ∷ [])
unfolding opcode_named
what_is_not_consumed_is_not_settled is = let count : 0 ≡ 1 = is in absurd (omega (arith, count))

pub what_is_consumed_is_settled : ¬ IsConsumed (queue (cfgi_ste ∷ []) 1) []
what_is_consumed_is_settled is = let count : 1 ≡ 0 = is in absurd (omega (arith, count))

pub an_illegal_command_is_not_left : ¬ BeginsLegal (illegal ∷ [])
unfolding opcode_named
an_illegal_command_is_not_left is = let never = is illegal ([], refl) in absurd (cc)

pub broken_settles_nothing : {D : Type 0} (c : ConsumerValue D) (q : QueueValue)
    → ¬ HasSettledAt (progress.Broken 7) q (record { consumer = c; raws = []; settled = 0 }) (record { consumer = c; raws = []; settled = 1 })
broken_settles_nothing {D} c q is =
    let count : 1 ≡ 0 = ap (λ (x : DeferringValue D). x.settled) is in
    absurd (omega (arith, count))

-- ---- remedies

pub nothing_is_replaced_at_an_abort : refusal Replace (state.Stopped Abort) ≡ Some NotIllegal
nothing_is_replaced_at_an_abort = refl

pub nothing_is_acknowledged_without_a_stop : refusal Retry state.Running ≡ Some NotStopped
nothing_is_acknowledged_without_a_stop = refl

pub no_sync_is_replaced : refusal_to_replace Illegal true ≡ Some IsSync
no_sync_is_replaced = refl

-- ---- what a sender is told

pub what_is_not_passed_is_not_carried_out : (HasEffect : ℕ → Type 0) → ¬ IsCarriedOut HasEffect (queue (cfgi_ste ∷ plain_sync ∷ []) 1) (cfgi_ste ∷ [])
unfolding opcode_named
what_is_not_passed_is_not_carried_out HasEffect is = let p = is.passed in absurd (omega (arith, p))

pub another_command_was_not_carried_out : (HasEffect : ℕ → Type 0) → ¬ IsCarriedOut HasEffect (queue (atc_inv ∷ []) 1) (cfgi_ste ∷ [])
unfolding opcode_named
another_command_was_not_carried_out HasEffect is =
    let e : atc_inv ∷ [] ≡ cfgi_ste ∷ is.rest = is.shown in
    let first : atc_inv ≡ cfgi_ste = cc in
    let other : 0x0000000500000040 ≡ 0x0000000500000003 = ap (λ (r : Raw). r.lo) first in
    absurd (omega (arith, other))

-- ---- registers that somebody else reads

-- GERROR and CONS with these words
abbrev pub words : ℕ → ℕ → RegisterWords
words gerror cons = record { gerror = gerror; cons = cons }

-- two commands, at the first of which it was seen stopped with CERROR_ILL
abbrev pub stopped_queue : QueueValue
stopped_queue = record (queue (cfgi_ste ∷ cfgi_ste ∷ []) 0) { stopped = Some (record { position = 0; error = Illegal }) }

pub words_ahead_of_prod_cannot_be : ¬ CanHave (words 0 1) (queue [] 0)
words_ahead_of_prod_cannot_be can = let within = can.believable.within in absurd (omega (arith, within))

pub a_stop_that_moved_cannot_be : ¬ CanHave (words 0 1) stopped_queue
a_stop_that_moved_cannot_be can = let moved : 1 ≡ 0 = (can.at_stop (record { position = 0; error = Illegal }) refl).0 in absurd (omega (arith, moved))

pub an_error_with_nothing_left_cannot_be : ¬ CanHave (words 1 1) (queue (cfgi_ste ∷ []) 0)
an_error_with_nothing_left_cannot_be can =
    let within = can.within (record { differ = λ same. cc; in_flight = omega arith }) in
    absurd (omega (arith, within))

pub no_queue_consumes_2_to_the_64 : (q : QueueValue) → q.consumed + newly_consumed 0 q ≡ 2 ^ 64 → ¬ CanHave (words 0 0) q
no_queue_consumes_2_to_the_64 q many can = let few = can.few in absurd (omega (arith, many, few))

-- what it got: GERROR 0, CONS 0 and GERRORN 0
abbrev pub got : Supplied
got = record { words = words 0 0; gerrorn = 0; before = []; again = 0 }

pub another_cons_was_not_supplied : ¬ IsSupplied got (Cons 1)
another_cons_was_not_supplied is = let same : 1 ≡ 0 = is in absurd (omega (arith, same))

pub another_gerror_was_not_supplied : ¬ IsSupplied got (Gerror 1)
another_gerror_was_not_supplied is = let same : 1 ≡ 0 = is in absurd (omega (arith, same))

pub another_gerrorn_was_not_supplied : ¬ IsSupplied got (Gerrorn 4)
another_gerrorn_was_not_supplied is = let same : 2 ≡ 0 = is in absurd (omega (arith, same))

pub what_was_read_since_was_supplied : ¬ AreSupplied (record (queue [] 0) { read = Cons 1 ∷ [] })
what_was_read_since_was_supplied is =
    let newer : Cons 1 ∷ [] ≡ is.newer = is.read ∙ append-nil is.newer in
    let all : All (IsSupplied got) (Cons 1 ∷ []) = subst (All (IsSupplied got)) (sym newer) is.are in
    let same : 1 ≡ 0 = all 0 (Cons 1) (omega arith) in
    absurd (omega (arith, same))

pub words_that_can_be_are_not_broken : (w : RegisterWords) (q r : QueueValue) → CanHave w q → ¬ HasLooked w q r (progress.Broken 7)
words_that_can_be_are_not_broken w q r can looked = looked.1 can

pub broken_words_are_told : (q r : QueueValue) → ¬ HasLooked (words 0 1) q r (progress.Broken 7)
broken_words_are_told q r looked = let told : 7 ≡ 1 = looked.0 in absurd (omega (arith, told))

pub broken_words_change_nothing : ¬ HasLooked (words 0 7) (queue [] 0) (queue [] 1) (progress.Broken 7)
broken_words_change_nothing looked =
    let count : 1 ≡ 0 = ap (λ (q : QueueValue). q.consumed) looked.2 in
    absurd (omega (arith, count))

pub words_that_cannot_be_tell_nothing : (r : QueueValue) → ¬ HasLooked (words 0 1) stopped_queue r (progress.Consumed 1)
words_that_cannot_be_tell_nothing r looked = a_stop_that_moved_cannot_be looked.0

pub a_stop_by_words_is_told : (r : QueueValue) → ¬ HasLooked (words 1 0) (queue (cfgi_ste ∷ []) 0) r (progress.Consumed 0)
a_stop_by_words_is_told r looked = looked.1.1 (record { differ = λ same. cc; in_flight = omega arith })

pub words_tell_how_many_are_consumed : (r : QueueValue) → ¬ HasLooked (words 0 1) (queue (cfgi_ste ∷ []) 0) r (progress.Consumed 0)
words_tell_how_many_are_consumed r looked = let count : 0 ≡ 1 = looked.1.0.count_is in absurd (omega (arith, count))

pub no_slot_is_told_at_a_retry : slot_overwritten Retry 3 ≡ None
no_slot_is_told_at_a_retry = refl

one_slot : (a b : ℕ) → Some a ≡ Some b → a ≡ b
one_slot a b is = cc

pub another_slot_is_not_told : (found : QueueState) (new : QueueValue) (told : Acknowledgement) → told.slot ≡ Some 1
    → ¬ HasRemediedWith Replace 0 found (queue (illegal ∷ []) 0) new told
another_slot_is_not_told found new told other is =
    let same : 1 ≡ 0 = one_slot 1 0 (sym other ∙ is.slot) in
    absurd (omega (arith, same))

pub other_errors_are_told_as_they_were_read : (remedy : Remedy) (found : QueueState) (old new : QueueValue) (told : Acknowledgement)
    → told.gerrorn ≡ 5 → ¬ HasRemediedWith remedy 0 found old new told
other_errors_are_told_as_they_were_read remedy found old new told other is =
    let others = is.others in
    absurd (omega (arith, others, other))

pub gerrorn_is_told_as_it_is_written : (remedy : Remedy) (found : QueueState) (old new : QueueValue) (told : Acknowledgement)
    → told.gerrorn ≡ 0 → new.gerrorn ≡ 1 → ¬ HasRemediedWith remedy 0 found old new told
gerrorn_is_told_as_it_is_written remedy found old new told clear set is =
    let same = is.gerrorn_is in
    absurd (omega (arith, same, clear, set))

pub nothing_is_remedied_by_words_without_a_stop : (remedy : Remedy) (old new : QueueValue) (told : Acknowledgement)
    → ¬ HasRemediedWith remedy 0 state.Running old new told
nothing_is_remedied_by_words_without_a_stop remedy old new told is =
    let stopped : state.Running ≡ state.Stopped told.stopped.error = is.remedied.stopped_at.state_is in
    absurd (cc)
