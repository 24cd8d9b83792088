-- What the definitions say of outcomes, of what is in doubt, and of what a caller is told: for each part a case in which they are false.
use Rattle.std.proofs.Common.{◌≡◌, ◌≢◌, ℕ, zero, suc, ◌+◌, ◌*◌, ◌^◌, ◌<◌, ◌≤◌, Bool, true, false, List, [], ◌∷◌, ◌++◌, length, map, take, Option, Some, None, refl, ap, sym, subst, ◌∙◌, append-nil, arith}
use Rattle.std.specs.Prelude.{All, Contains, slice_get}
use Rattle.cmdcodec.specs.declared.raw.Raw.{Raw}
use Rattle.cmdcodec.specs.Legality.{first_ill}
use Rattle.cmdcodec.specs.Opcodes.{opcode_of, opcode_named, is_sync}
use Rattle.ringcore.specs.declared.world.event.Outcome.TheVariants.{Applied}
use Rattle.ringcore.specs.world.World.{taken_as}
use Rattle.ringcore.specs.world.Trails.{Run, Trail}
use Rattle.ring.specs.Finishing.{reserved_ahead}
use Rattle.ring.specs.consumer.Consumers.{ConsumerValue}
use Rattle.ring.specs.consumer.Pendings.{PendingValue}
use Rattle.ring.specs.consumer.Deferring.{DeferringValue}
use Rattle.ring.specs.consumer.Completing.{all_acknowledged}
use Rattle.ring.specs.consumer.Taking.{TookRun}
use Rattle.batch_outcomes.specs.declared.settled.Settled.TheVariants.{Command, Sync}
use Rattle.hardware_queue.specs.declared.command_error.CommandError.TheVariants.{Illegal, Abort, AtcInvSync}
use Rattle.hardware_queue.specs.declared.forwarded.Forwarded.{Forwarded}
use Rattle.hardware_queue.specs.declared.forwarded.Forwarded.TheVariants as answer
use Rattle.hardware_queue.specs.declared.forwarded.Stopped.{Stopped}
use Rattle.hardware_queue.specs.declared.queue_progress.Progress.{Progress}
use Rattle.hardware_queue.specs.declared.queue_progress.Progress.TheVariants as progress
use Rattle.hardware_queue.specs.declared.reading.Reading.{Reading}
use Rattle.hardware_queue.specs.declared.reading.Reading.TheVariants.{Gerror, Gerrorn, Cons}
use Rattle.hardware_queue.specs.declared.register_words.RegisterWords.{RegisterWords}
use Rattle.hardware_queue.specs.declared.remedy.Remedy.TheVariants.{Retry, Replace}
use Rattle.hardware_queue.specs.declared.restart.Restart.{Restart}
use Rattle.hardware_queue.specs.declared.state.QueueState.TheVariants as state
use Rattle.hardware_queue.specs.Queues.{QueueValue, Supplied, Stop, plain_sync, command_queue_error, with_repeated, IsSyncAt, MayBeUnanswered, head_index, tail_index}
use Rattle.hardware_queue.specs.Owners.{HasFound, HasPolled, HasAcknowledged, IsStoppedHere, WasRestarted}
use Rattle.hardware_queue.specs.Flights.{HasConsumedAll, IsPassing, passed_for}
use Rattle.hardware_queue.specs.Steps.{ForwarderValue, HasForwarded, HasServed, HasSettled, IsShown, most_taken, room_for}
use Rattle.hardware_queue.specs.Forwarders.{IsStoppedAt, IsCarriedOut, WasToldTruly}
use Rattle.hardware_queue.specs.Fates.{IsFate, EndsWithSync, IsWhole}
use Rattle.hardware_queue.specs.Supplying.{HasRestartedWith}

abbrev cfgi_ste : Raw
cfgi_ste = record { lo = 0x0000000500000003; hi = 1 }

abbrev atc_inv : Raw
atc_inv = record { lo = 0x0000000500000040; hi = 52 }

abbrev illegal : Raw
illegal = record { lo = 0xff; hi = 0 }

abbrev queue : List Raw → ℕ → QueueValue
queue shown consumed = record {
  geometry = 1;
  memory = plain_sync ∷ plain_sync ∷ [];
  shown = shown;
  consumed = consumed;
  stopped = None;
  gerrorn = 0;
  lost = [];
  repeated = [];
  read = [];
  supplied = record { words = record { gerror = 0; cons = 0 }; gerrorn = 0; before = []; again = 0 };
}

-- ---- fates and outcomes

pub a_command_written_over_is_not_carried_out : ¬ IsFate (0 ∷ []) 0 cfgi_ste (Command true)
a_command_written_over_is_not_carried_out is = is.2 (0, omega arith, refl)

pub a_whole_batch_has_nothing_written_over : (lost : List ℕ) (settled : List Raw) (is : IsWhole lost settled 0 1) → is.ahead ≡ [] → is.body ≡ cfgi_ste ∷ [] → ¬ Contains lost 0
a_whole_batch_has_nothing_written_over lost settled is ahead body over =
    let inside : 0 < length is.body = subst (λ (b : List Raw). 0 < length b) (sym body) (omega arith) in
    is.kept 0 inside (subst (λ (a : List Raw). Contains lost (length (passed_for a) + 0)) (sym ahead) over)

pub a_whole_batch_begins_behind_a_sync : (lost : List ℕ) (settled : List Raw) (is : IsWhole lost settled 0 1) → EndsWithSync is.ahead
a_whole_batch_begins_behind_a_sync lost settled is = is.ends

pub a_whole_batch_is_legal : (lost : List ℕ) (settled : List Raw) (is : IsWhole lost settled 0 1) → ¬ (is.body ≡ illegal ∷ [])
unfolding opcode_named
a_whole_batch_is_legal lost settled is body =
    let none : first_ill illegal ≡ None = is.legal 0 illegal (subst (λ (b : List Raw). slice_get b 0 ≡ Some illegal) (sym body) refl) in
    absurd (cc)

-- ---- what is in doubt

three_repeated : (again : ℕ) → Contains (3 ∷ []) again → 3 ≡ again
three_repeated again (zero, inside, is) = is
three_repeated again (suc k, inside, is) = absurd (omega (arith, inside))

abbrev answered_once : QueueValue
answered_once = record (queue (atc_inv ∷ plain_sync ∷ cfgi_ste ∷ plain_sync ∷ []) 4) { repeated = 3 ∷ [] }

pub a_sync_ahead_of_the_stop_answers : ¬ MayBeUnanswered answered_once 0
a_sync_ahead_of_the_stop_answers is =
    let three = three_repeated is.again is.repeated in
    is.first 1 (omega arith) (omega (arith, three)) (record {
      raw = plain_sync;
      shown = refl;
      sync = refl;
      stands = λ lost. let inside = lost.1 in absurd (omega (arith, inside));
    })

pub nothing_is_in_doubt_without_a_repeat : ¬ MayBeUnanswered (queue (atc_inv ∷ plain_sync ∷ []) 2) 0
nothing_is_in_doubt_without_a_repeat is = let inside = is.repeated.1 in absurd (omega (arith, inside))

pub a_sync_written_over_is_none : ¬ IsSyncAt (record (queue (plain_sync ∷ []) 1) { lost = 0 ∷ [] }) 0
a_sync_written_over_is_none is = is.stands (0, omega arith, refl)

-- ---- what a sender is told

pub without_a_sync_nothing_is_carried_out : (HasEffect : ℕ → Type 0) → ¬ IsCarriedOut HasEffect (queue (cfgi_ste ∷ cfgi_ste ∷ []) 2) (cfgi_ste ∷ [])
unfolding opcode_named
without_a_sync_nothing_is_carried_out HasEffect is =
    let same : Some cfgi_ste ≡ Some is.sync.raw = is.sync.shown in
    let one : cfgi_ste ≡ is.sync.raw = cc in
    let other : false ≡ true = ap is_sync one ∙ is.sync.sync in
    absurd (cc)

configuration_is_answered : ¬ MayBeUnanswered (queue (cfgi_ste ∷ plain_sync ∷ []) 2) 0
configuration_is_answered is = let inside = is.repeated.1 in absurd (omega (arith, inside))

pub what_is_carried_out_has_its_effect : ¬ IsCarriedOut (λ position. ⊥) (queue (cfgi_ste ∷ plain_sync ∷ []) 2) (cfgi_ste ∷ [])
unfolding opcode_named
what_is_carried_out_has_its_effect is =
    is.effect 0 (omega arith) (λ lost. let inside = lost.1 in absurd (omega (arith, inside))) configuration_is_answered

pub each_number_up_to_it_was_told_truly : (HasEffect : ℕ → Type 0) (q : QueueValue) (run : Run) (s : ℕ) (older : Trail) (was : WasToldTruly HasEffect q run s 2 older)
    → (some : 1 ≤ 1) (most : 1 ≤ 2) → IsCarriedOut HasEffect q (reserved_ahead (was.was_told.applied 1 some most))
each_number_up_to_it_was_told_truly HasEffect q run s older was some most = was.carried_out 1 some most

pub a_stop_is_at_the_next_command : ¬ IsStoppedAt (queue (cfgi_ste ∷ []) 0) (state.Stopped Illegal) (record { command = atc_inv; error = Illegal })
a_stop_is_at_the_next_command is =
    let same : Some cfgi_ste ≡ Some atc_inv = is.command in
    let one : cfgi_ste ≡ atc_inv = cc in
    let other : 0x0000000500000003 ≡ 0x0000000500000040 = ap (λ (r : Raw). r.lo) one in
    absurd (omega (arith, other))

-- ---- an owner

pub a_look_reads_both_registers : (p : Progress) → ¬ HasPolled (queue [] 0) (record (queue [] 0) { read = Cons 0 ∷ [] }) p
a_look_reads_both_registers p is =
    let count : 1 ≡ 2 = ap (λ (l : List Reading). length l) is.read in
    absurd (omega (arith, count))

pub an_acknowledged_invalidation_is_in_doubt : (old new : QueueValue) → HasAcknowledged Retry AtcInvSync old new → new.repeated ≡ old.consumed ∷ old.repeated
an_acknowledged_invalidation_is_in_doubt old new is = is.repeated

pub gerrorn_is_read_as_it_was : (old new : QueueValue) (is : HasAcknowledged Retry Illegal old new) → command_queue_error is.word ≡ command_queue_error old.gerrorn
gerrorn_is_read_as_it_was old new is = is.same

pub a_stop_is_found_where_it_is : (q r : QueueValue) → HasFound 1 0 q r (progress.Stopped 0 Illegal) → IsStoppedHere r Illegal
a_stop_is_found_where_it_is q r is = is.2

pub a_restart_ends_a_stop : (old new : QueueValue) → WasRestarted old new → new.stopped ≡ None
a_restart_ends_a_stop old new is = ap (λ (q : QueueValue). q.stopped) is.1.new_is

-- ---- a forwarder

pub what_is_settled_is_acknowledged : {D : Type 0} (now : List Raw) (old new : DeferringValue D) → HasSettled now old new → new.consumer.trail ≡ all_acknowledged now old.consumer.trail
what_is_settled_is_acknowledged now old new is = is.acknowledged

pub a_run_is_of_as_many_as_fit : {D : Type 0} (old new : DeferringValue D) (q r : QueueValue) (said : Forwarded) (is : HasServed old new q r said) → TookRun (most_taken q old) old.consumer is.run
a_run_is_of_as_many_as_fit old new q r said is = is.took

pub empty_only_with_room : {Q : Type 0} (seen : Q → QueueValue) (old new : ForwarderValue Q) → room_for (seen old.owner.queue) old.consumer ≡ 0 → ¬ HasForwarded seen old new answer.Empty
empty_only_with_room seen old new none is = let room = is.room in absurd (omega (arith, none, room))

pub the_count_is_of_all_shown : {D : Type 0} (run : PendingValue D) (new : ConsumerValue D) (q r : QueueValue) (is : IsShown run new q r 1) → length is.all ≡ 2 → ⊥
the_count_is_of_all_shown run new q r is two = let whole = is.whole in absurd (omega (arith, whole, two))

pub what_was_not_shown_is_not_consumed : ¬ HasConsumedAll (queue (atc_inv ∷ []) 1) (taken_as cfgi_ste ∷ [])
unfolding opcode_named
what_was_not_shown_is_not_consumed is =
    let e : atc_inv ∷ [] ≡ cfgi_ste ∷ is.rest = is.shown in
    let first : atc_inv ≡ cfgi_ste = cc in
    let other : 0x0000000500000040 ≡ 0x0000000500000003 = ap (λ (r : Raw). r.lo) first in
    absurd (omega (arith, other))

pub another_command_is_not_passed : ¬ IsPassing (cfgi_ste ∷ []) (atc_inv ∷ [])
another_command_is_not_passed is =
    let e : atc_inv ∷ [] ≡ cfgi_ste ∷ [] = is.forms in
    let first : atc_inv ≡ cfgi_ste = cc in
    let other : 0x0000000500000040 ≡ 0x0000000500000003 = ap (λ (r : Raw). r.lo) first in
    absurd (omega (arith, other))

-- ---- a restart

pub a_restart_tells_cons : (new : QueueValue) (told : Restart) → HasRestartedWith 0 (queue (cfgi_ste ∷ plain_sync ∷ []) 1) new told → told.cons ≡ 1
a_restart_tells_cons new told is = is.cons ∙ ap (λ (q : QueueValue). (head_index q).number) is.restarted.new_is

pub a_restart_counts_what_is_read_again : (new : QueueValue) (told : Restart) → HasRestartedWith 0 (queue (cfgi_ste ∷ plain_sync ∷ []) 1) new told → new.supplied.again ≡ 1
a_restart_counts_what_is_read_again new told is = is.again

pub a_restart_tells_prod : (new : QueueValue) (told : Restart) → HasRestartedWith 0 (queue (cfgi_ste ∷ plain_sync ∷ []) 1) new told → told.prod ≡ 2
a_restart_tells_prod new told is = is.prod ∙ ap (λ (q : QueueValue). (tail_index q).number) is.restarted.new_is
