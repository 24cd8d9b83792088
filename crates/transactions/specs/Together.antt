-- A tracked unit with the consumer of a ring.
use Rattle.std.specs.Prelude.{◌≡◌, ◌≤◌, ℕ, true, false, [], Some}
use Rattle.cmdcodec.specs.declared.raw.Raw.{Raw}
use Rattle.ringcore.specs.declared.world.event.Who.TheVariants.{Consumer}
use Rattle.ring.specs.table.Histories.{Grew}
use Rattle.ring.specs.consumer.Consumers.{ConsumerValue}
use Rattle.ringcore.specs.Limits.{most_reserved}
use Rattle.ring.specs.consumer.Pendings.{PendingValue, HasSeen}
use Rattle.ring.specs.consumer.Taking.{TookNone, TookUnwritten}
use Rattle.ring.specs.consumer.Completing.{taken_of}
use Rattle.engine.specs.declared.answer.StepAnswer.{StepAnswer}
use Rattle.engine.specs.declared.answer.StepAnswer.TheVariants as answer
use Rattle.engine.specs.declared.verdict.Verdict.{Verdict}
use Rattle.engine.specs.declared.verdict.Verdict.TheVariants.{Applied, Stopped, Replaced}
use Rattle.engine.specs.Engines.{IsFirst, HasCompleted}
use Rattle.engine.specs.Stops.{IsStopped}
use Rattle.engine.specs.Counting.{taken}
use Rattle.transactions.specs.declared.tracked_verdict.TrackedVerdict.{TrackedVerdict}
use Rattle.transactions.specs.declared.tracked_verdict.TrackedVerdict.TheVariants as verdict
use Rattle.transactions.specs.TrackedVerdicts.{HasJudgedTracked, IsTrackedVerdict}
use Rattle.transactions.specs.declared.tracked_step.TrackedStep.{TrackedStep}
use Rattle.transactions.specs.declared.tracked_step.TrackedStep.TheVariants.{Stepped, Waiting}
use Rattle.transactions.specs.Tracking.{TrackedValue, IsTracked}

-- the consumer of a ring whose device is a tracked unit
abbrev pub TrackedConsumer : Type 0
TrackedConsumer = ConsumerValue TrackedValue

abbrev pub TrackedPending : Type 0
TrackedPending = PendingValue TrackedValue

-- The unit is tracked for what the consumer has taken; the words at which it stopped are those that
-- the consumer read at the head.
pub record AreTracked (consumer : TrackedConsumer) (tracked : TrackedValue) : Type 0 where
  pub tracked_is : IsTracked tracked (taken_of consumer.trail)
  pub seen : (raw : Raw) → tracked.unit.stop.next ≡ Some raw → HasSeen consumer.trail raw

-- What was together stays so: the unit was called, and the consumer wasn't.
abbrev pub StaysTogether : TrackedValue → TrackedValue → Type 0
StaysTogether old new =
    (consumer : TrackedConsumer) → AreTracked consumer old → AreTracked consumer new

-- Any consumer that has taken nothing is together with it.
abbrev pub IsTogetherFromNothing : TrackedValue → Type 0
IsTogetherFromNothing tracked =
    (consumer : TrackedConsumer) → taken_of consumer.trail ≡ [] → AreTracked consumer tracked

-- ---- a step of at most `most` commands, from this consumer and unit to those

-- The run that the consumer knows grew by exactly its steps.
abbrev pub HasGrown : TrackedConsumer → TrackedConsumer → Type 0
HasGrown from to = Grew Consumer from.trail to.trail from.history to.history

abbrev pub IsStep : Type 1
IsStep = TrackedConsumer → TrackedValue → TrackedConsumer → TrackedValue → Type 0

-- The first command was judged so, and completed while the new unit was lent.
abbrev pub HasTaken : ℕ → Verdict → IsStep
HasTaken most applied from old to new =
    (p : TrackedPending) × (raw : Raw) × IsFirst most from p raw
    × HasJudgedTracked raw old new applied × HasCompleted 1 new p to

-- The first command was judged so, and is still in the ring.
abbrev pub HasLeft : ℕ → TrackedVerdict → IsStep
HasLeft most judged from old to new =
    (p : TrackedPending) × (raw : Raw) × IsFirst most from p raw
    × IsTrackedVerdict raw old new judged × (to ≡ p.consumer)

-- What a step of the unit's own did, by its answer.
abbrev pub HasSteppedUnit : StepAnswer → IsStep
HasSteppedUnit answer.Empty from old to new = TookNone false from to × (new ≡ old)
HasSteppedUnit answer.Drained from old to new = TookNone true from to × (new ≡ old)
HasSteppedUnit answer.Unwritten from old to new = TookUnwritten 1 from to × (new ≡ old)
HasSteppedUnit (answer.Applied command removed) from old to new =
    HasTaken 1 (Applied command removed) from old to new
HasSteppedUnit (answer.Replaced ill) from old to new = HasTaken 1 (Replaced ill) from old to new
HasSteppedUnit (answer.Stopped ill) from old to new =
    HasLeft 1 (verdict.Judged (Stopped ill)) from old to new
HasSteppedUnit answer.StillStopped from old to new =
    IsStopped old.unit.stop.mode × (new ≡ old) × (to ≡ from)
HasSteppedUnit answer.Exhausted from old to new =
    (most_reserved ≤ taken old.unit.counts) × (new ≡ old) × (to ≡ from)

-- What a step did. It waits only for a legal CMD_SYNC, which stays in the ring.
abbrev pub HasStepped : TrackedStep → IsStep
HasStepped (Stepped answer) from old to new = HasSteppedUnit answer from old to new
HasStepped (Waiting transactions) from old to new =
    HasLeft 1 (verdict.Waiting transactions) from old to new
