-- What C gets of the error registers and the counts, and what an acknowledgement does.
use Rattle.std.specs.Prelude.{◌≡◌, ◌+◌, ℕ, ⊤, [], Option, Some, None, Result, Ok, Err, OnOk, OnErr, IfSome}
use Rattle.engine.specs.declared.remedy.AckFault.{AckFault}
use Rattle.engine.specs.declared.remedy.Remedy.{Remedy}
use Rattle.engine.specs.declared.queue_unit.QueueUnit.{QueueUnit}
use Rattle.engine.specs.declared.queue_unit.QueueError.{QueueError}
use Rattle.engine.specs.declared.queue_unit.StopRemedy.{StopRemedy}
use Rattle.engine.specs.declared.queue_unit.StopRemedy.TheVariants.{Retry, Replace, Reread}
use Rattle.engine.specs.QueueUnits.{error_number, IsStoppedQueue, OnlyRegistersChanged, queue_err_of, error_bit, acknowledged_bit, IsQueueAcknowledgement, acknowledged_with}
use Rattle.engine.specs.Stops.{StopValue, IsAcknowledgementAnswer, acknowledged_by, err_of, word_of, command_queue_bit}
use Rattle.engine.specs.Counting.{CountsValue, taken}
use Rattle.engine.specs.Units.{UnitValue}
use Rattle.transactions.specs.Tracking.{IsTracked}
use Rattle.transactions.specs.TrackedQueueUnits.{TrackedQueueValue, tracked_in, reset_queue}
use Rattle.transactions.specs.TrackedQueueUnits.{RefusesWalksOf, BringsNearer}
use Rattle.smmuq_c.specs.declared.status.Status.{Status}
use Rattle.smmuq_c.specs.declared.status.Status.TheVariants.{Done, Acknowledgement, BadField, StillStopped}
use Rattle.smmuq_c.specs.declared.words.Errors.{Errors}
use Rattle.smmuq_c.specs.declared.words.Tallies.{Tallies}

abbrev pub error_words : StopValue → Errors
error_words stop = record { err = err_of stop.mode; gerror = word_of stop.error; gerrorn = word_of stop.acknowledged }

abbrev pub count_words : CountsValue → Tallies
count_words counts = record { applied = counts.applied; replaced = counts.replaced; syncs = counts.syncs; removed = counts.removed }

-- those of a unit, which also stops for errors that its model finds
abbrev pub queue_error_words : QueueUnit → Errors
queue_error_words q = record { err = queue_err_of q; gerror = word_of (error_bit q); gerrorn = word_of (acknowledged_bit q) }

-- ---- acknowledging

-- the number of a remedy
abbrev pub remedy_number : StopRemedy → ℕ
remedy_number Retry = 0
remedy_number Replace = 1
remedy_number Reread = 2

abbrev pub acknowledgement_status : Result ⊤ AckFault → Status
acknowledgement_status (Ok done) = Done
acknowledgement_status (Err fault) = Acknowledgement fault

-- The error is acknowledged with this remedy; or it was refused, and nothing changed.
pub record HasAcknowledged (gerrorn : ℕ) (remedy : Remedy) (old new : UnitValue) (status : Status) : Type 0 where
  pub answer : Result ⊤ AckFault
  pub answered : IsAcknowledgementAnswer old.stop gerrorn answer
  pub ok : OnOk answer (new ≡ record old { stop = acknowledged_by remedy old.stop })
  pub err : OnErr answer (new ≡ old)
  pub status_is : status ≡ acknowledgement_status answer

-- The same for a unit.
pub record HasAcknowledgedQueue (gerrorn : ℕ) (remedy : StopRemedy) (old new : QueueUnit) (status : Status) : Type 0 where
  pub answer : Result ⊤ AckFault
  pub answered : IsQueueAcknowledgement old gerrorn answer
  pub ok : OnOk answer (new ≡ acknowledged_with remedy old)
  pub err : OnErr answer (new ≡ old)
  pub status_is : status ≡ acknowledgement_status answer

-- It is the remedy of this number, or there is none.
abbrev pub IsRemedyOf : ℕ → Option StopRemedy → Type 0
IsRemedyOf number None = (remedy : StopRemedy) → ¬ (remedy_number remedy ≡ number)
IsRemedyOf number (Some remedy) = remedy_number remedy ≡ number

-- ---- errors that a model finds

-- It is the error of this number, or there is none.
abbrev pub IsErrorOf : ℕ → Option QueueError → Type 0
IsErrorOf number None = (error : QueueError) → ¬ (error_number error ≡ number)
IsErrorOf number (Some error) = error_number error ≡ number

-- It stopped for the error of this number; or there is none, or it was stopped before, and nothing changed.
abbrev pub HasStoppedFor : ℕ → QueueUnit → QueueUnit → Status → Type 0
HasStoppedFor err old new Done = (error : QueueError) × IsErrorOf err (Some error) × (¬ IsStoppedQueue old) × (new ≡ record old { found = Some error })
HasStoppedFor err old new BadField = IsErrorOf err None × (new ≡ old)
HasStoppedFor err old new StillStopped = IsStoppedQueue old × (new ≡ old)
HasStoppedFor err old new other = ⊥

-- CMDQ_ERR of both registers is as in these words, and if they differ it stopped for this error. Nothing else changed.
pub record IsRestored (error : QueueError) (gerror gerrorn : ℕ) (old new : QueueUnit) : Type 0 where
  pub running : ¬ IsStoppedQueue old
  pub gerror_is : error_bit new ≡ command_queue_bit gerror
  pub gerrorn_is : acknowledged_bit new ≡ command_queue_bit gerrorn
  pub found_is : IfSome new.found (λ found. found ≡ error)
  pub rest_is : OnlyRegistersChanged old new

abbrev pub HasRestored : ℕ → ℕ → ℕ → QueueUnit → QueueUnit → Status → Type 0
HasRestored err gerror gerrorn old new Done = (error : QueueError) × IsErrorOf err (Some error) × IsRestored error gerror gerrorn old new
HasRestored err gerror gerrorn old new BadField = IsErrorOf err None × (new ≡ old)
HasRestored err gerror gerrorn old new StillStopped = IsStoppedQueue old × (new ≡ old)
HasRestored err gerror gerrorn old new other = ⊥

-- It holds nothing, and its queue is as a new one. No transaction is outstanding, and no walk that began before is good.
pub record HasReset (old new : TrackedQueueValue) (status : Status) : Type 0 where
  pub new_is : new ≡ reset_queue old
  pub tracked : IsTracked (tracked_in new) []
  pub walks : RefusesWalksOf old new
  pub older : BringsNearer (taken old.queue.unit.counts + 1) old new
  pub status_is : status ≡ Done
