-- A tracked unit with its consumer in one value.
use Rattle.std.specs.Prelude.{◌≡◌, ◌+◌, ◌*◌, ◌^◌, ℕ, List, [], ◌∷◌, Option, None, Some}
use Rattle.qindex.specs.declared.control.Control.{Control}
use Rattle.ringcore.specs.declared.world.event.Who.TheVariants.{Consumer}
use Rattle.ringcore.specs.declared.world.event.Event.TheVariants.{Look}
use Rattle.ringcore.specs.world.Trails.{Run}
use Rattle.ring.specs.NewRings.{made_with}
use Rattle.ring.specs.table.Rule.{WentOn}
use Rattle.ring.specs.table.Histories.{GrewBy}
use Rattle.ring.specs.consumer.Taking.{with_trail}
use Rattle.engine.specs.declared.answer.Registers.{Registers}
use Rattle.engine.specs.declared.completion.Completion.{Completion}
use Rattle.engine.specs.Engines.{IsExhausted, control_after}
use Rattle.engine.specs.Stops.{StopValue, IsStopped, err_of, word_of}
use Rattle.transactions.specs.Tracking.{TrackedValue}
use Rattle.transactions.specs.declared.tracked_step.TrackedStep.{TrackedStep}
use Rattle.transactions.specs.declared.tracked_run.TrackedRun.{TrackedRun}
use Rattle.transactions.specs.Together.{TrackedConsumer, AreTracked, HasStepped}
use Rattle.transactions.specs.TrackedRuns.{HasRun, HasTold}

-- the engine: its consumer and its tracked unit
pub record TrackedEngineValue : Type 0 where
  pub consumer : TrackedConsumer
  pub tracked : TrackedValue

-- ---- an engine lends its consumer to each step and then has it back

abbrev pub nobody : TrackedConsumer
nobody = record {
  ring = record {
    table = record {
      words = 0;
      slots = 0;
      views_name = 0;
      atom = 0;
      block = 0;
      offset = 0;
      slot_names = [];
    };
    made_with = made_with 0 0 0;
  };
  trail = [];
  history = [];
  lent = None;
}

abbrev pub consumer_in : Option TrackedConsumer → TrackedConsumer
consumer_in None = nobody
consumer_in (Some consumer) = consumer

abbrev pub IsTrackedEngine : Option TrackedConsumer → TrackedValue → Type 0
IsTrackedEngine None tracked = ⊥
IsTrackedEngine (Some consumer) tracked = AreTracked consumer tracked

-- ---- a step

-- A step of both did this.
abbrev pub IsEngineStep : TrackedStep → TrackedEngineValue → TrackedEngineValue → Type 0
IsEngineStep step old new = HasStepped step old.consumer old.tracked new.consumer new.tracked

-- A run of both of at most `most` commands did this.
abbrev pub IsEngineRun : ℕ → TrackedRun → TrackedEngineValue → TrackedEngineValue → Type 0
IsEngineRun most run old new = HasRun most run old.consumer old.tracked new.consumer new.tracked

-- It told this, by its answer and by how many completions it told.
abbrev pub IsToldByRun : ℕ → TrackedRun × ℕ → List Completion → List Completion
    → TrackedEngineValue → TrackedEngineValue → Type 0
IsToldByRun most told before after old new =
    HasTold most told before after old.consumer old.tracked new.consumer new.tracked

abbrev pub IsStoppedEngine : TrackedEngineValue → Type 0
IsStoppedEngine engine = IsStopped engine.tracked.unit.stop.mode

abbrev pub IsExhaustedEngine : TrackedEngineValue → Type 0
IsExhaustedEngine engine = IsExhausted engine.tracked.unit

-- ---- the run that the consumer knows

-- The consumer took no step, and may know another run now.
abbrev pub DifferInHistoryAlone : TrackedConsumer → TrackedConsumer → Type 0
DifferInHistoryAlone old new = record new { history = [] } ≡ record old { history = [] }

-- It continues the run that the consumer knew before.
abbrev pub ConsumerWentOn : TrackedConsumer → Run → Type 0
ConsumerWentOn consumer run = WentOn Consumer consumer.history run

-- ---- registers

-- The registers say what the control word says, and the state of the stop.
pub record AreRegisters (control : Control) (stop : StopValue) (found : Registers) : Type 0 where
  pub prod : found.prod ≡ control.prod.number
  pub cons : found.cons ≡ control.cons.number + err_of stop.mode * 2 ^ 24
  pub gerror : found.gerror ≡ word_of stop.error
  pub gerrorn : found.gerrorn ≡ word_of stop.acknowledged

-- It looked, and took nothing. The registers say what it found, which is how the run known then has
-- it.
pub record HasLooked (old new : TrackedEngineValue) (found : Registers) : Type 0 where
  pub control : Control
  pub consumer_is : record new.consumer { history = [] }
      ≡ with_trail (record old.consumer { history = [] }) (Look control ∷ old.consumer.trail)
  pub grew : GrewBy Consumer (Look control) old.consumer.history new.consumer.history
  pub control_is : control ≡ control_after old.consumer.ring new.consumer.history
  pub tracked_is : new.tracked ≡ old.tracked
  pub found_is : AreRegisters control old.tracked.unit.stop found
