-- What C is told of a take, by what the take found.
use Rattle.std.proofs.Common.{◌≡◌, ◌<◌, ◌++◌, ℕ, List, [], length, drop, sym, ap, subst, ◌∙◌}
use Rattle.cmdcodec.specs.declared.raw.Raw.{Raw}
use Rattle.ring.specs.declared.consumer.taken.Found.{Found}
use Rattle.ring.specs.declared.consumer.taken.Found.TheVariants.{Empty, Drained, Unwritten, Ready}
use Rattle.ring.specs.consumer.PendingConsumers.{BeginsAgain}
use Rattle.ring.specs.consumer.PendingConsumers as consumers
use Rattle.smmuq_c.specs.declared.status.Status.{Status}
use Rattle.smmuq_c.specs.declared.status.Status.TheVariants.{Done, RingEmpty, RingDrained, RingUnwritten}
use Rattle.smmuq_c.specs.Batches.{IsGiven}
use Rattle.smmuq_c.specs.HeldConsumers.{HeldConsumer}
use Rattle.smmuq_c.specs.Taking.{HasFoundRun, HasLookedAhead, run_room}

abbrev pub status_of : Found → Status
status_of Empty = RingEmpty
status_of Drained = RingDrained
status_of Unwritten = RingUnwritten
status_of Ready = Done

found_run : (most : ℕ) (old new : HeldConsumer) (found : Found) → consumers.HasFoundRun most old new found → HasFoundRun most old new (status_of found)
found_run most old new Empty is = is
found_run most old new Drained is = is
found_run most old new Unwritten is = is
found_run most old new Ready is = is

pub looked_ahead : {buffer after : List Raw} {told most : ℕ} {old own new held : HeldConsumer} {status : Status} (found : Found)
    → 0 < length buffer → most ≡ run_room buffer → old ≡ own → held ≡ new → status ≡ status_of found
    → consumers.HasFoundRun most old new found → BeginsAgain old.raws new.raws → new.consumer.ring ≡ old.consumer.ring
    → IsGiven new.raws buffer after told Done → HasLookedAhead buffer after told own held status
looked_ahead {buffer} {after} {told} {most} {old} {own} {new} {held} {status} found room most_is old_is held_is status_is is again ring given =
    subst (λ (s : Status). HasLookedAhead buffer after told own held s) (sym status_is) (subst (λ (h : HeldConsumer). HasLookedAhead buffer after told own h (status_of found)) (sym held_is) (
    subst (λ (o : HeldConsumer). HasLookedAhead buffer after told o new (status_of found)) old_is (record {
      room = room;
      found = subst (λ (m : ℕ). HasFoundRun m old new (status_of found)) most_is (found_run most old new found is);
      given = given;
      again = λ raw rest begins. again raw (rest, begins);
      ring_is = ring;
    })
    ))

-- no command, and the buffer stays
pub none_given : {raws buffer after : List Raw} {told : ℕ} → raws ≡ [] → after ≡ buffer → told ≡ 0 → IsGiven raws buffer after told Done
none_given {raws} {buffer} none after_is told_is =
    (told_is ∙ sym (ap (λ (l : List Raw). length l) none), after_is ∙ sym (ap (λ (l : List Raw). l ++ drop (length l) buffer) none))
