-- The engine's turns, and what never changes of it in them.
use Rattle.std.specs.Prelude.{◌≡◌, ◌≢◌, ℕ, zero, suc, ◌+◌, ◌≤◌, ⊤, Bool, List, ◌∷◌, Some, slice_get}
use Rattle.cmdcodec.specs.declared.raw.Raw.{Raw}
use Rattle.qindex.specs.Positions.{size}
use Rattle.ringcore.specs.declared.world.event.Event.TheVariants.{Close}
use Rattle.ringcore.specs.declared.world.event.Who.TheVariants.{Consumer}
use Rattle.ringcore.specs.world.Trails.{Trail}
use Rattle.ring.specs.Rings.{RingValue}
use Rattle.ring.specs.table.Histories.{Grew}
use Rattle.ring.specs.declared.sender.cause.Cause.{Cause}
use Rattle.ring.specs.sender.Senders.{SenderValue}
use Rattle.ring.specs.sender.Reserving.{IsRefused}
use Rattle.engine.specs.declared.answer.RunAnswer.{RunAnswer}
use Rattle.engine.specs.declared.answer.RunAnswer.TheVariants as run
use Rattle.engine.specs.Units.{OnlyRemoves}
use Rattle.engine.specs.Engines.{EngineValue, HasRun}
use Rattle.stress.specs.declared.engine_turns.Found.{Found}
use Rattle.stress.specs.declared.engine_turns.Found.TheVariants as found
use Rattle.stress.specs.FirstEntries.{IsFilled}
use Rattle.stress.specs.Plans.{PlanValue, body, closes}
use Rattle.stress.specs.Workers.{IsOnPlan}

-- ---- turns

-- A turn takes at most so many commands.
abbrev pub most_commands : ℕ
most_commands = 64

-- A turn led from `old` to `new`, with such an answer, and the run that the consumer knows grew by its steps.
pub record IsTurn (answers : RunAnswer → Type 0) (old new : EngineValue) : Type 0 where
  pub answer : RunAnswer
  pub ran : HasRun most_commands old new answer
  pub is : answers answer
  pub grew : Grew Consumer old.consumer.trail new.consumer.trail old.consumer.history new.consumer.history

-- So many turns led from `old` to `new`, one after another, and nothing else.
abbrev pub HasTurned : (RunAnswer → Type 0) → ℕ → EngineValue → EngineValue → Type 0
HasTurned answers zero old new = new ≡ old
HasTurned answers (suc n) old new = (between : EngineValue) × HasTurned answers n old between × IsTurn answers between new

abbrev pub IsAny : RunAnswer → Type 0
IsAny answer = ⊤

-- The ring was not found empty.
abbrev pub IsBusy : RunAnswer → Type 0
IsBusy answer = (answer ≢ run.Empty) × (answer ≢ run.Drained)

-- ---- an engine that goes on

-- It took at least `least` turns and nothing else. It is of the same ring, filled nothing, and counts what it removes.
pub record GoesOn (least : ℕ) (old new : EngineValue) : Type 0 where
  pub turns : ℕ
  pub enough : least ≤ turns
  pub turned : HasTurned IsAny turns old new
  pub ring : new.consumer.ring ≡ old.consumer.ring
  pub removes : OnlyRemoves old.unit new.unit

-- It is an engine of this ring. Its caches held just the first entries of so many senders, and since then it took at
-- least `least` turns.
pub record IsStarted (senders least : ℕ) (ring : RingValue) (engine : EngineValue) : Type 0 where
  pub before : EngineValue
  pub filled : IsFilled senders before.unit
  pub goes_on : GoesOn least before engine
  pub ring_is : engine.consumer.ring ≡ ring

-- ---- drains

abbrev pub answer_of : Found → RunAnswer
answer_of found.Empty = run.Empty
answer_of found.Drained = run.Drained

-- No more turns than there are slots found something, and the next one found the ring so.
pub record HasDrained (slots : ℕ) (how : Found) (old new : EngineValue) : Type 0 where
  pub busy : ℕ
  pub few : busy ≤ slots
  pub before : EngineValue
  pub turned : HasTurned IsBusy busy old before
  pub ran : HasRun most_commands before new (answer_of how)

-- Each turn of a drain found something, one turn more than the ring has slots.
abbrev pub IsUndrained : ℕ → EngineValue → EngineValue → Type 0
IsUndrained slots old new = HasTurned IsBusy (slots + 1) old new

-- ---- what is given up

-- How often a batch is tried, each time after a drain.
abbrev pub most_tries : ℕ
most_tries = 8

-- A try to reserve this batch was refused, behind a drain that came to its end.
pub record IsRefusedAfterADrain (slots : ℕ) (body : List Raw) (closes : Bool) (s t : SenderValue) (old new : EngineValue) : Type 0 where
  pub found : Found
  pub drained : HasDrained slots found old new
  pub cause : Cause
  pub refused : IsRefused body closes s cause t

-- So many such tries, one after another, and nothing else.
abbrev pub AreRefused : ℕ → List Raw → Bool → ℕ → SenderValue → SenderValue → EngineValue → EngineValue → Type 0
AreRefused slots body closes zero s t old new = (t ≡ s) × (new ≡ old)
AreRefused slots body closes (suc n) s t old new =
    (between : SenderValue) × (drained : EngineValue) × AreRefused slots body closes n s between old drained
    × IsRefusedAfterADrain slots body closes between t drained new

-- All tries of the next batch of one of the ring's senders were refused.
pub record IsRefusedForGood (plan : PlanValue) (old new : EngineValue) : Type 0 where
  pub sent : ℕ
  pub before : SenderValue
  pub after : SenderValue
  pub on_plan : IsOnPlan plan before sent
  pub ring_is : before.ring ≡ old.consumer.ring
  pub refused : AreRefused (size plan.log2) (body plan before.number (suc sent)) (closes plan (suc sent)) most_tries before after old new

-- The first of the senders is of this ring, and its newest step is the close.
pub record HaveClosed (ring : RingValue) (senders : List SenderValue) : Type 0 where
  pub first : SenderValue
  pub is : slice_get senders 0 ≡ Some first
  pub ring_is : first.ring ≡ ring
  pub older : Trail
  pub newest : first.trail ≡ Close ∷ older

-- A drain came to no end, or found the ring empty and open.
pub data IsNotDrained (slots : ℕ) (old new : EngineValue) : Type 0 where
  no_end : IsUndrained slots old new → IsNotDrained slots old new
  found_open : HasDrained slots found.Empty old new → IsNotDrained slots old new

-- It goes on until a drain comes to no end, or for all the tries of a batch, or until a drain behind the ring's close
-- doesn't find it closed.
pub data HasGivenUp (plan : PlanValue) (old new : EngineValue) : Type 0 where
  undrained : (before : EngineValue) → GoesOn 0 old before → IsUndrained (size plan.log2) before new → HasGivenUp plan old new
  refused : (before : EngineValue) → GoesOn 0 old before → IsRefusedForGood plan before new → HasGivenUp plan old new
  open_still : (before : EngineValue) (senders : List SenderValue) → GoesOn 0 old before → HaveClosed before.consumer.ring senders → IsNotDrained (size plan.log2) before new
      → HasGivenUp plan old new
