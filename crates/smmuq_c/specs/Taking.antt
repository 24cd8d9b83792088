-- What the calls of a consumer of the caller's own do to it, and what C gets of them.
use Rattle.std.specs.Prelude.{◌≡◌, ◌<◌, ◌≤◌, ◌⊎◌, ℕ, min, List, ◌∷◌, length}
use Rattle.cmdcodec.specs.declared.raw.Raw.{Raw}
use Rattle.ringcore.specs.declared.world.event.Outcome.{Outcome}
use Rattle.ringcore.specs.declared.world.event.Outcome.TheVariants.{Applied, Replaced}
use Rattle.ring.specs.declared.consumer.taken.Found.TheVariants.{Empty, Drained, Unwritten, Ready}
use Rattle.ring.specs.consumer.PendingConsumers.{with_none, HasCompleted, IsFirstIllegal, IsBadCount}
use Rattle.ring.specs.consumer.PendingConsumers as consumers
use Rattle.smmuq_c.specs.declared.seated_consumer.CallersDevice.{CallersDevice}
use Rattle.smmuq_c.specs.declared.status.Status.{Status}
use Rattle.smmuq_c.specs.declared.status.Status.TheVariants as status
use Rattle.smmuq_c.specs.declared.status.Status.TheVariants.{Done, Illegal, BadField, ShortBuffer, RingEmpty, RingDrained, RingUnwritten}
use Rattle.smmuq_c.specs.Batches.{IsGiven}
use Rattle.smmuq_c.specs.HeldConsumers.{HeldConsumer}

-- ---- taking a run

-- What a look at the ring's head found, by the status: commands, which are pending then, or why there are none.
abbrev pub HasFoundRun : ℕ → HeldConsumer → HeldConsumer → Status → Type 0
HasFoundRun most old new Done = consumers.HasFoundRun most old new Ready
HasFoundRun most old new RingEmpty = consumers.HasFoundRun most old new Empty
HasFoundRun most old new RingDrained = consumers.HasFoundRun most old new Drained
HasFoundRun most old new RingUnwritten = consumers.HasFoundRun most old new Unwritten
HasFoundRun most old new other = ⊥

-- as many as there is room for, cut to 64
abbrev pub run_room : List Raw → ℕ
run_room buffer = min (length buffer) 64

-- It looked. The words of the commands that are pending then come first in the buffer, and their number is told. What
-- was pending before is still in the ring: its first command comes first again.
pub record HasLookedAhead (old_buffer new_buffer : List Raw) (told : ℕ) (old new : HeldConsumer) (status : Status) : Type 0 where
  pub room : 0 < length old_buffer
  pub found : HasFoundRun (run_room old_buffer) old new status
  pub given : IsGiven new.raws old_buffer new_buffer told Done
  pub again : (raw : Raw) (rest : List Raw) → old.raws ≡ raw ∷ rest → (more : List Raw) × (new.raws ≡ raw ∷ more)
  pub ring_is : new.consumer.ring ≡ old.consumer.ring

-- There is no room for a command: none was looked for, and what was pending isn't any more.
pub record HadNoRoom (buffer : List Raw) (told : ℕ) (old new : HeldConsumer) (status : Status) : Type 0 where
  pub none : length buffer ≡ 0
  pub told_is : told ≡ 0
  pub new_is : new ≡ with_none old.consumer
  pub status_is : status ≡ ShortBuffer

abbrev pub HasTakenRun : List Raw → List Raw → ℕ → HeldConsumer → HeldConsumer → Status → Type 0
HasTakenRun old_buffer new_buffer told old new status =
    HadNoRoom old_buffer told old new status ⊎ HasLookedAhead old_buffer new_buffer told old new status

-- ---- completing

-- The first `count` pending commands were completed with this outcome, for the caller's device.
abbrev pub AreCompleted : ℕ → Outcome → HeldConsumer → HeldConsumer → Type 0
AreCompleted count outcome old new = (device : CallersDevice) × HasCompleted count outcome device old new

-- `count` commands were completed: legal ones, or one illegal one, without effect. An illegal one among several is
-- refused, as is a count of 0 or above that of the pending commands.
abbrev pub HasCompletedFor : ℕ → HeldConsumer → HeldConsumer → Status → Type 0
HasCompletedFor count old new Done = AreCompleted count Applied old new
HasCompletedFor count old new status.Replaced = (count ≡ 1) × AreCompleted count Replaced old new
HasCompletedFor count old new (Illegal ill) =
    (1 < count) × (count ≤ length old.raws) × IsFirstIllegal count old.raws ill × (new ≡ old)
HasCompletedFor count old new BadField = IsBadCount count old.raws × (new ≡ old)
HasCompletedFor count old new other = ⊥
