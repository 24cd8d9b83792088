-- The unit with its consumer: what always holds of both, and what a step of both does.
use Rattle.std.specs.Prelude.{◌≡◌, ◌≤◌, ◌^◌, ◌+◌, ◌*◌, ℕ, true, false, List, [], ◌∷◌, length, take, Option, Some, None, slice_get}
use Rattle.cmdcodec.specs.declared.raw.Raw.{Raw}
use Rattle.cmdcodec.specs.declared.ill.Ill.{Ill}
use Rattle.cmdcodec.specs.Legality.{first_ill}
use Rattle.qindex.specs.declared.control.Control.{Control}
use Rattle.ringcore.specs.Limits.{most_reserved}
use Rattle.ringcore.specs.declared.world.event.Who.TheVariants.{Consumer}
use Rattle.ringcore.specs.declared.world.event.Event.TheVariants.{Look}
use Rattle.ringcore.specs.world.World.{world, control as control_of}
use Rattle.ring.specs.table.Histories.{Grew, GrewBy}
use Rattle.ring.specs.NewRings.{made_with}
use Rattle.ring.specs.Rings.{RingValue}
use Rattle.ring.specs.Runs.{Run}
use Rattle.ring.specs.consumer.Consumers.{ConsumerValue}
use Rattle.ring.specs.consumer.Pendings.{PendingValue, HasSeen}
use Rattle.ring.specs.consumer.Taking.{with_trail, TookNone, TookUnwritten, TookRun}
use Rattle.ring.specs.consumer.Completing.{completed, unknowing, taken_of}
use Rattle.engine.specs.declared.answer.Registers.{Registers}
use Rattle.engine.specs.declared.answer.StepAnswer.{StepAnswer}
use Rattle.engine.specs.declared.answer.StepAnswer.TheVariants.{Empty, Drained, Unwritten, Applied, Stopped, Replaced, StillStopped, Exhausted}
use Rattle.engine.specs.declared.answer.RunAnswer.{RunAnswer}
use Rattle.engine.specs.declared.answer.RunAnswer.TheVariants as run
use Rattle.engine.specs.Settled.{IsSettled}
use Rattle.engine.specs.Stops.{IsStopped, err_of, word_of}
use Rattle.engine.specs.Counting.{taken, AreCountsOf}
use Rattle.engine.specs.Units.{UnitValue, IsApplied, IsStoppedAt, IsReplaced, AreApplied}

-- the engine: its consumer and its unit
pub record EngineValue : Type 0 where
  pub consumer : ConsumerValue UnitValue
  pub unit : UnitValue

-- The unit has taken what the consumer has, counted it, and is settled for it; the words at which it stopped are those
-- that the consumer read at the head.
pub record AreTogether (consumer : ConsumerValue UnitValue) (unit : UnitValue) : Type 0 where
  pub many : taken unit.counts ≡ length (taken_of consumer.trail)
  pub counted : AreCountsOf (taken_of consumer.trail) unit.counts
  pub settled : IsSettled unit.caches.entries (taken_of consumer.trail)
  pub seen : (raw : Raw) → unit.stop.next ≡ Some raw → HasSeen consumer.trail raw

-- The unit is settled for what the consumer has taken.
abbrev pub IsSettledEngine : EngineValue → Type 0
IsSettledEngine engine = IsSettled engine.unit.caches.entries (taken_of engine.consumer.trail)

-- The run that its consumer knows grew by the steps that its trail did.
abbrev pub HasGrown : EngineValue → EngineValue → Type 0
HasGrown old new = Grew Consumer old.consumer.trail new.consumer.trail old.consumer.history new.consumer.history

-- It isn't stopped, and has taken as many commands as a ring ever has.
abbrev pub IsExhausted : UnitValue → Type 0
IsExhausted unit = ¬ IsStopped unit.stop.mode × (taken unit.counts ≡ most_reserved)

-- ---- an engine lends its consumer to each step and then has it back

abbrev pub engine : ConsumerValue UnitValue → UnitValue → EngineValue
engine consumer unit = record { consumer = consumer; unit = unit }

abbrev pub nobody : ConsumerValue UnitValue
nobody = record {
  ring = record { table = record { words = 0; slots = 0; views_name = 0; atom = 0; block = 0; offset = 0; slot_names = [] }; made_with = made_with 0 0 0 };
  trail = [];
  history = [];
  lent = None;
}

abbrev pub consumer_in : Option (ConsumerValue UnitValue) → ConsumerValue UnitValue
consumer_in None = nobody
consumer_in (Some consumer) = consumer

abbrev pub IsEngine : Option (ConsumerValue UnitValue) → UnitValue → Type 0
IsEngine None unit = ⊥
IsEngine (Some consumer) unit = AreTogether consumer unit

-- ---- what a step of at most `most` commands took from the ring

-- The first `count` of what was pending were completed while this device was lent, and the run that the consumer knows
-- grew by exactly the steps of that.
pub record HasCompleted {D : Type 0} (count : ℕ) (device : D) (p : PendingValue D) (new : ConsumerValue D) : Type 0 where
  pub consumer_is : record new { history = [] } ≡ completed count device (unknowing p)
  pub grew : Grew Consumer p.consumer.trail new.trail p.consumer.history new.history

-- This command was read at the head, perhaps with more after it.
pub record IsFirst {D : Type 0} (most : ℕ) (consumer : ConsumerValue D) (p : PendingValue D) (raw : Raw) : Type 0 where
  pub read : TookRun most consumer p
  pub rest : List Raw
  pub raws_are : p.raws ≡ raw ∷ rest

abbrev pub HasStoppedAt : ℕ → Ill → EngineValue → EngineValue → Type 0
HasStoppedAt most ill old new =
    (p : PendingValue UnitValue) × (raw : Raw) × IsFirst most old.consumer p raw × IsStoppedAt raw ill old.unit new.unit × (new.consumer ≡ p.consumer)

abbrev pub HasReplaced : ℕ → Ill → EngineValue → EngineValue → Type 0
HasReplaced most ill old new =
    (p : PendingValue UnitValue) × (raw : Raw) × IsFirst most old.consumer p raw × IsReplaced raw ill old.unit new.unit × HasCompleted 1 new.unit p new.consumer

-- ---- one command

-- What a step did, by its answer.
abbrev pub HasStepped : EngineValue → EngineValue → StepAnswer → Type 0
HasStepped old new Empty = TookNone false old.consumer new.consumer × (new.unit ≡ old.unit)
HasStepped old new Drained = TookNone true old.consumer new.consumer × (new.unit ≡ old.unit)
HasStepped old new Unwritten = TookUnwritten 1 old.consumer new.consumer × (new.unit ≡ old.unit)
HasStepped old new (Applied command removed) =
    (p : PendingValue UnitValue) × (raw : Raw) × IsFirst 1 old.consumer p raw × IsApplied raw command removed old.unit new.unit × HasCompleted 1 new.unit p new.consumer
HasStepped old new (Stopped ill) = HasStoppedAt 1 ill old new
HasStepped old new (Replaced ill) = HasReplaced 1 ill old new
HasStepped old new StillStopped = IsStopped old.unit.stop.mode × (new ≡ old)
HasStepped old new Exhausted = (most_reserved ≤ taken old.unit.counts) × (new ≡ old)

-- ---- a run of commands

-- The first `count` of the commands read were applied, and completed together while this device was lent; the one after
-- them, if any, ends the run.
pub record HasCompletedRun {D : Type 0} (most count : ℕ) (AreDone : List Raw → Type 0) (EndsIt : Raw → Type 0)
    (from : ConsumerValue D) (device : D) (to : ConsumerValue D) : Type 0 where
  pub pending : PendingValue D
  pub read : TookRun most from pending
  pub some : 1 ≤ count
  pub within : count ≤ length pending.raws
  pub applied : AreDone (take count pending.raws)
  pub longest : (raw : Raw) → slice_get pending.raws count ≡ Some raw → EndsIt raw
  pub completed_are : HasCompleted count device pending to

abbrev pub IsIllegal : Raw → Type 0
IsIllegal raw = (ill : Ill) × (first_ill raw ≡ Some ill)

-- The first `count` of the commands read are legal and were applied and completed; the one after them, if
-- any, is illegal.
abbrev pub HasAppliedRun : ℕ → ℕ → ℕ → EngineValue → EngineValue → Type 0
HasAppliedRun most count removed old new =
    HasCompletedRun most count (λ raws. AreApplied raws removed old.unit new.unit) IsIllegal old.consumer new.unit new.consumer

-- What a step of at most `most` commands did, by its answer.
abbrev pub HasRun : ℕ → EngineValue → EngineValue → RunAnswer → Type 0
HasRun most old new run.Empty = TookNone false old.consumer new.consumer × (new.unit ≡ old.unit)
HasRun most old new run.Drained = TookNone true old.consumer new.consumer × (new.unit ≡ old.unit)
HasRun most old new run.Unwritten = TookUnwritten most old.consumer new.consumer × (new.unit ≡ old.unit)
HasRun most old new (run.Applied count removed) = HasAppliedRun most count removed old new
HasRun most old new (run.Stopped ill) = HasStoppedAt most ill old new
HasRun most old new (run.Replaced ill) = HasReplaced most ill old new
HasRun most old new run.StillStopped = IsStopped old.unit.stop.mode × (new ≡ old)
HasRun most old new run.Exhausted = (most_reserved ≤ taken old.unit.counts) × (new ≡ old)

-- ---- registers

-- what a run of the ring leaves in its control word
abbrev pub control_after : RingValue → Run → Control
control_after ring run = control_of ring.made_with.geometry (world run)

-- It looked. The registers say what it found, which is how the run known then has it, and the state of the
-- stop.
pub record HasLooked (old new : EngineValue) (found : Registers) : Type 0 where
  pub control : Control
  pub consumer_is : record new.consumer { history = [] } ≡ with_trail (record old.consumer { history = [] }) (Look control ∷ old.consumer.trail)
  pub grew : GrewBy Consumer (Look control) old.consumer.history new.consumer.history
  pub control_is : control ≡ control_after old.consumer.ring new.consumer.history
  pub unit_is : new.unit ≡ old.unit
  pub prod : found.prod ≡ control.prod.number
  pub cons : found.cons ≡ control.cons.number + err_of old.unit.stop.mode * 2 ^ 24
  pub gerror : found.gerror ≡ word_of old.unit.stop.error
  pub gerrorn : found.gerrorn ≡ word_of old.unit.stop.acknowledged
