-- What the calls of a sender do to it, and what C gets of them.
use Rattle.std.specs.Prelude.{◌≡◌, ◌+◌, ◌≤◌, ℕ, max, true, false, List, [], ◌∷◌, None, Some}
use Rattle.cmdcodec.specs.declared.raw.Raw.{Raw}
use Rattle.cmdcodec.specs.Fields.{bit}
use Rattle.qindex.specs.declared.control.Control.{Control}
use Rattle.batch.specs.Refusals.{list_refusal}
use Rattle.ringcore.specs.declared.world.event.Who.TheVariants.{Sender as SenderOf}
use Rattle.ringcore.specs.declared.world.event.Event.{Event}
use Rattle.ringcore.specs.declared.world.event.Event.TheVariants.{Look, Ask, Close}
use Rattle.ringcore.specs.world.Trails.{batches_made}
use Rattle.ringcore.specs.world.World.{world, control as control_of}
use Rattle.ring.specs.table.Histories.{GrewBy, AreApplied}
use Rattle.ring.specs.sender.GoingOn.{WentOn}
use Rattle.ring.specs.sender.Senders.{SenderValue, ReceiptValue}
use Rattle.ring.specs.sender.Sending.{IsSent, IsSentBare, IsGivenUp}
use Rattle.smmuq_c.specs.declared.words.ControlWords.{ControlWords}
use Rattle.smmuq_c.specs.declared.status.Status.{Status}
use Rattle.smmuq_c.specs.declared.status.Status.TheVariants.{Done, Batch, Refused}

-- ---- sending

-- 0 tries are one
abbrev pub tries_of : ℕ → ℕ
tries_of tries = max tries 1

-- A batch of these commands was sent with a closing CMD_SYNC of this number; or it was refused.
abbrev pub IsSending : List Raw → ℕ → ℕ → SenderValue → SenderValue → Status → Type 0
IsSending commands tries told old new Done =
    (receipt : ReceiptValue) × (list_refusal commands ≡ None) × IsSent commands (tries_of tries) old new receipt × (told ≡ receipt.number)
IsSending commands tries told old new (Batch fault) = (list_refusal commands ≡ Some fault) × (new ≡ old)
IsSending commands tries told old new (Refused cause) = (list_refusal commands ≡ None) × IsGivenUp commands true (tries_of tries) old cause new
IsSending commands tries told old new other = ⊥

-- The same without one.
abbrev pub IsSendingBare : List Raw → ℕ → SenderValue → SenderValue → Status → Type 0
IsSendingBare commands tries old new Done = (list_refusal commands ≡ None) × IsSentBare commands (tries_of tries) old new
IsSendingBare commands tries old new (Batch fault) = (list_refusal commands ≡ Some fault) × (new ≡ old)
IsSendingBare commands tries old new (Refused cause) = (list_refusal commands ≡ None) × IsGivenUp commands false (tries_of tries) old cause new
IsSendingBare commands tries old new other = ⊥

abbrev pub HasSent : List Raw → ℕ → ℕ → SenderValue → SenderValue → Status → Type 0
HasSent commands tries told old new status = IsSending commands tries told old new status × WentOn old new

abbrev pub HasSentBare : List Raw → ℕ → SenderValue → SenderValue → Status → Type 0
HasSentBare commands tries old new status = IsSendingBare commands tries old new status × WentOn old new

-- ---- one step

-- The sender took this step.
pub record HasStepped (event : Event) (old new : SenderValue) : Type 0 where
  pub trail_is : record new { history = [] } ≡ record old { trail = event ∷ old.trail; history = [] }
  pub history : GrewBy (SenderOf old.number) event old.history new.history

-- It asked, and was told this number: all that it stands for was applied.
pub record HasTold (told : ℕ) (old new : SenderValue) (status : Status) : Type 0 where
  pub asked : HasStepped (Ask told) old new
  pub few : told ≤ old.ring.made_with.max_batches
  pub applied : AreApplied new.history old.number told
  pub status_is : status ≡ Done

-- It may still reserve so many batches, and is as it was.
pub record HasToldLeft (told : ℕ) (old new : SenderValue) (status : Status) : Type 0 where
  pub left : told + batches_made old.trail ≡ old.ring.made_with.max_batches
  pub new_is : new ≡ old
  pub status_is : status ≡ Done

pub record HasClosed (old new : SenderValue) (status : Status) : Type 0 where
  pub closed : HasStepped Close old new
  pub status_is : status ≡ Done

-- prod and cons are indexes: the wrap bit stands above the place
abbrev pub control_words : Control → ControlWords
control_words control = record { prod = control.prod.number; cons = control.cons.number; closed = bit control.closed }

-- It looked, and what it found, as it stood in the run that it knows from then on, is told.
pub record HasLookedFor (told : ControlWords) (old new : SenderValue) (status : Status) : Type 0 where
  pub control : Control
  pub looked : HasStepped (Look control) old new
  pub control_is : control ≡ control_of old.ring.made_with.geometry (world new.history)
  pub told_is : told ≡ control_words control
  pub status_is : status ≡ Done
