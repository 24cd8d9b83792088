-- A unit that serves a queue in memory that its owner may write meanwhile: what a judgement and an acknowledgement do.
use Rattle.std.specs.Prelude.{◌≡◌, ◌≢◌, ◌≤◌, ◌+◌, ◌↔◌, ◌⊎◌, ⊤, ℕ, Bool, true, false, not, cond, ◌++◌, Option, None, Some, IsSome, Result, Err}
use Rattle.std.specs.Option.{is_some}
use Rattle.cmdcodec.specs.declared.raw.Raw.{Raw}
use Rattle.ringcore.specs.Limits.{most_reserved}
use Rattle.caches.specs.Stored.{Stored}
use Rattle.engine.specs.declared.remedy.AckFault.{AckFault}
use Rattle.engine.specs.declared.remedy.AckFault.TheVariants.{NoError, OtherBit}
use Rattle.engine.specs.declared.remedy.Remedy.{Remedy}
use Rattle.engine.specs.declared.remedy.Remedy.TheVariants as unit
use Rattle.engine.specs.declared.verdict.Judgement.{Judgement}
use Rattle.engine.specs.declared.queue_unit.QueueUnit.{QueueUnit}
use Rattle.engine.specs.declared.queue_unit.StopRemedy.{StopRemedy}
use Rattle.engine.specs.declared.queue_unit.StopRemedy.TheVariants.{Retry, Replace, Reread}
use Rattle.engine.specs.declared.queue_unit.QueueError.{QueueError}
use Rattle.engine.specs.declared.queue_unit.QueueError.TheVariants.{Illegal, Abort, AtcInvSync}
use Rattle.engine.specs.declared.queue_unit.JudgeFault.{JudgeFault}
use Rattle.engine.specs.declared.queue_unit.JudgeFault.TheVariants.{StillStopped, OtherCommand, Exhausted}
use Rattle.engine.specs.Stops.{IsStopped, MayComeNext, acknowledged_by, err_of, command_queue_bit}
use Rattle.engine.specs.Counting.{taken}
use Rattle.engine.specs.Units.{UnitValue, new_unit, HasJudgedWords, HasReplacedAwaited, StaysSettled, took_words, took_awaited}

-- ---- the error registers

abbrev pub error_number : QueueError → ℕ
error_number Illegal = 1
error_number Abort = 2
error_number AtcInvSync = 3

-- one that has taken nothing
abbrev pub new_queue_unit : Stored → QueueUnit
new_queue_unit caches = record { unit = new_unit caches; rereads = false; found = None; turned = false }

-- It is stopped: for an error that was found, or at an illegal command.
abbrev pub IsStoppedQueue : QueueUnit → Type 0
IsStoppedQueue q = IsSome q.found ⊎ IsStopped q.unit.stop.mode

-- SMMU_CMDQ_CONS.ERR
abbrev pub err_with : Option QueueError → ℕ → ℕ
err_with None err = err
err_with (Some error) err = error_number error

abbrev pub queue_err_of : QueueUnit → ℕ
queue_err_of q = err_with q.found (err_of q.unit.stop.mode)

-- the other way round, if so
abbrev pub turned_if : Bool → Bool → Bool
turned_if true bit = not bit
turned_if false bit = bit

-- CMDQ_ERR of SMMU_GERROR and of SMMU_GERRORN: they differ exactly while it is stopped
abbrev pub error_bit : QueueUnit → Bool
error_bit q = turned_if (is_some q.found) (turned_if q.turned q.unit.stop.error)

abbrev pub acknowledged_bit : QueueUnit → Bool
acknowledged_bit q = turned_if q.turned q.unit.stop.acknowledged

-- nothing but these changed
abbrev pub OnlyRegistersChanged : QueueUnit → QueueUnit → Type 0
OnlyRegistersChanged old new = new ≡ record old { found = new.found; turned = new.turned }

-- ---- acknowledging

-- G1 exactly if it isn't stopped; G2 exactly if it is and CMDQ_ERR of the word isn't that of SMMU_GERROR.
pub record IsQueueAcknowledgement (q : QueueUnit) (gerrorn : ℕ) (answer : Result ⊤ AckFault) : Type 0 where
  pub none : (answer ≡ Err NoError) ↔ ¬ IsStoppedQueue q
  pub other : (answer ≡ Err OtherBit) ↔ (IsStoppedQueue q × (command_queue_bit gerrorn ≢ error_bit q))

-- how the unit stands until the next words come
abbrev pub remedy_until_then : StopRemedy → Remedy
remedy_until_then Retry = unit.Retry
remedy_until_then Replace = unit.Replace
remedy_until_then Reread = unit.Retry

-- whether the next words decide
abbrev pub rereads_by : StopRemedy → Bool
rereads_by Reread = true
rereads_by other = false

-- An error that was found is no longer active; else the unit is told the remedy.
abbrev pub acknowledged_with : StopRemedy → QueueUnit → QueueUnit
acknowledged_with remedy q =
    cond (is_some q.found) (record q { found = None; turned = not q.turned })
    (record q { unit = record q.unit { stop = acknowledged_by (remedy_until_then remedy) q.unit.stop }; rereads = rereads_by remedy })

-- ---- judging

-- Somebody wrote these words over those at which it stopped, which may be.
abbrev pub IsWrittenOver : Raw → QueueUnit → Type 0
IsWrittenOver raw q = (q.rereads ≡ true) × ¬ MayComeNext raw q.unit.stop

-- It judged the words, which may come next.
pub record HasJudgedAgain (raw : Raw) (old new : UnitValue) (judgement : Judgement) : Type 0 where
  pub comes : MayComeNext raw old.stop
  pub judged : HasJudgedWords raw old new judgement
  pub settled : StaysSettled old new (took_words raw judgement)

-- It took the words at which it stopped without effect, and then judged these.
pub record HasJudgedOthers (raw : Raw) (old new : UnitValue) (judgement : Judgement) : Type 0 where
  pub others : ¬ MayComeNext raw old.stop
  pub awaited : Raw
  pub between : UnitValue
  pub replaced : HasReplacedAwaited awaited old between
  pub judged : HasJudgedWords raw between new judgement
  pub settled : StaysSettled old new (took_awaited awaited ++ took_words raw judgement)

-- The words decide once, and nothing else changed.
pub record HasJudgedNext (raw : Raw) (old new : QueueUnit) (judgement : Judgement) : Type 0 where
  pub judged : HasJudgedAgain raw old.unit new.unit judgement ⊎ ((old.rereads ≡ true) × HasJudgedOthers raw old.unit new.unit judgement)
  pub rest_is : new ≡ record old { unit = new.unit; rereads = false }

-- It isn't stopped, and too many commands were taken for one more, or, where the old words are taken too, for two.
abbrev pub IsExhausted : Raw → QueueUnit → Type 0
IsExhausted raw q =
    ¬ IsStoppedQueue q × ((MayComeNext raw q.unit.stop × (most_reserved ≤ taken q.unit.counts)) ⊎ (IsWrittenOver raw q × (most_reserved ≤ taken q.unit.counts + 1)))

-- When words aren't judged.
pub record IsJudgeRefusal {A : Type 0} (raw : Raw) (q : QueueUnit) (answer : Result A JudgeFault) : Type 0 where
  pub stopped : (answer ≡ Err StillStopped) ↔ IsStoppedQueue q
  pub other : (answer ≡ Err OtherCommand) ↔ (¬ IsStoppedQueue q × (q.rereads ≡ false) × ¬ MayComeNext raw q.unit.stop)
  pub exhausted : (answer ≡ Err Exhausted) ↔ IsExhausted raw q
