-- What C gets of a judgement.
use Rattle.std.specs.Prelude.{◌≡◌, Result, Ok, Err, IfOk, OnErr}
use Rattle.cmdcodec.specs.declared.raw.Raw.{Raw}
use Rattle.engine.specs.declared.verdict.Judgement.TheVariants.{Applied, Stopped, Replaced}
use Rattle.engine.specs.declared.queue_unit.JudgeFault.{JudgeFault}
use Rattle.engine.specs.declared.queue_unit.JudgeFault.TheVariants.{StillStopped, OtherCommand, Exhausted}
use Rattle.engine.specs.QueueUnits.{IsJudgeRefusal}
use Rattle.transactions.specs.declared.tracked_judgement.TrackedJudgement.{TrackedJudgement}
use Rattle.transactions.specs.declared.tracked_judgement.TrackedJudgement.TheVariants.{Judged, Waiting}
use Rattle.transactions.specs.TrackedQueueUnits.{TrackedQueueValue, IsTrackedJudgement}
use Rattle.transactions.specs.TrackedQueueUnits.{QueueWaitsExactly, HasTakenNext}
use Rattle.smmuq_c.specs.Statuses.{ill_number}
use Rattle.smmuq_c.specs.declared.status.Status.{Status}
use Rattle.smmuq_c.specs.declared.status.Status.TheVariants as status
use Rattle.smmuq_c.specs.declared.words.VerdictWords.{VerdictWords}

abbrev pub verdict_status : TrackedJudgement → Status
verdict_status (Judged (Applied removed)) = status.Done
verdict_status (Judged (Stopped ill)) = status.Illegal ill
verdict_status (Judged (Replaced ill)) = status.Replaced
verdict_status (Waiting transactions) = status.SyncWaiting

abbrev pub fault_status : JudgeFault → Status
fault_status StillStopped = status.StillStopped
fault_status OtherCommand = status.OtherCommand
fault_status Exhausted = status.Exhausted

abbrev pub judgement_status : Result TrackedJudgement JudgeFault → Status
judgement_status (Ok judgement) = verdict_status judgement
judgement_status (Err fault) = fault_status fault

abbrev pub no_verdict : VerdictWords
no_verdict = record { removed = 0; ill = 0; waiting = 0 }

abbrev pub verdict_words : TrackedJudgement → VerdictWords
verdict_words (Judged (Applied removed)) = record no_verdict { removed = removed }
verdict_words (Judged (Stopped ill)) = record no_verdict { ill = ill_number ill }
verdict_words (Judged (Replaced ill)) = record no_verdict { ill = ill_number ill }
verdict_words (Waiting transactions) = record no_verdict { waiting = transactions }

abbrev pub judgement_words : Result TrackedJudgement JudgeFault → VerdictWords
judgement_words (Ok judgement) = verdict_words judgement
judgement_words (Err fault) = no_verdict

-- The status and the words are those of what the unit did. It stays tracked for what it took.
pub record HasJudgedFor (raw : Raw) (told : VerdictWords) (old new : TrackedQueueValue) (status : Status) : Type 0 where
  pub answer : Result TrackedJudgement JudgeFault
  pub refused : IsJudgeRefusal raw old.queue answer
  pub ok : IfOk answer (λ judgement. IsTrackedJudgement raw old new judgement)
  pub waits : IfOk answer (λ judgement. QueueWaitsExactly raw old judgement)
  pub tracked : IfOk answer (λ judgement. HasTakenNext raw old new judgement)
  pub err : OnErr answer (new ≡ old)
  pub status_is : status ≡ judgement_status answer
  pub told_is : told ≡ judgement_words answer
