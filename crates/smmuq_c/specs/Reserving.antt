-- What is reserved and published across calls.
use Rattle.std.specs.Prelude.{◌≡◌, ℕ, true, List, [], None, Some}
use Rattle.cmdcodec.specs.declared.raw.Raw.{Raw}
use Rattle.batch.specs.Refusals.{list_refusal}
use Rattle.ringcore.specs.declared.world.event.Who.TheVariants.{Sender as SenderWho}
use Rattle.ringcore.specs.world.Trails.{IsSettled}
use Rattle.ring.specs.table.Histories.{Grew}
use Rattle.ring.specs.sender.GoingOn.{WentOn, HasOpened}
use Rattle.ring.specs.sender.Senders.{SenderValue, ReceiptValue}
use Rattle.ring.specs.sender.Reservations.{ReservationValue, IsReceiptOf}
use Rattle.ring.specs.sender.Sending.{IsReservedWithin, IsGivenUp}
use Rattle.ring.specs.sender.Publishing.{published, sender_of}
use Rattle.smmuq_c.specs.Sends.{tries_of}
use Rattle.smmuq_c.specs.declared.object.Object.{Object}
use Rattle.smmuq_c.specs.declared.object.Object.TheVariants.{Sender as SenderOf, Reservation as ReservationOf}
use Rattle.smmuq_c.specs.declared.status.Status.{Status}
use Rattle.smmuq_c.specs.declared.status.Status.TheVariants.{Done, Batch, Refused, WrongHandle, OpenReservation, NoReservation}

-- ---- reserving

-- A batch of these commands with a closing CMD_SYNC was reserved, and nothing of it is written.
pub record IsOpened (commands : List Raw) (tries : ℕ) (old : SenderValue) (new : ReservationValue) : Type 0 where
  pub batch : list_refusal commands ≡ None
  pub reserved : IsReservedWithin commands true (tries_of tries) old new
  pub own : HasOpened old new

-- None was, and this is why.
abbrev pub IsUnreserved : List Raw → ℕ → SenderValue → SenderValue → Status → Type 0
IsUnreserved commands tries old new (Batch fault) = (list_refusal commands ≡ Some fault) × (new ≡ old)
IsUnreserved commands tries old new (Refused cause) =
    (list_refusal commands ≡ None) × IsGivenUp commands true (tries_of tries) old cause new × WentOn old new
IsUnreserved commands tries old new other = ⊥

abbrev pub HasReserved : List Raw → ℕ → Object → Object → Status → Type 0
HasReserved commands tries (SenderOf old) (ReservationOf new) status = IsOpened commands tries old new × (status ≡ Done)
HasReserved commands tries (SenderOf old) (SenderOf new) status = IsUnreserved commands tries old new status
HasReserved commands tries (SenderOf old) other status = ⊥
HasReserved commands tries (ReservationOf r) new status = (new ≡ ReservationOf r) × (status ≡ OpenReservation)
HasReserved commands tries other new status = (new ≡ other) × (status ≡ WrongHandle)

-- ---- publishing

-- All of the reservation was written and published, and this is the number of its CMD_SYNC.
pub record IsPublished (number : ℕ) (old : ReservationValue) (new : SenderValue) : Type 0 where
  pub sender_is : record new { history = [] } ≡ sender_of (published (record old { history = [] }))
  pub settled : IsSettled new.trail
  pub history : Grew (SenderWho old.sender) old.trail new.trail old.history new.history
  pub ring_is : new.ring ≡ old.ring
  pub number_is : new.number ≡ old.sender
  pub receipt : ReceiptValue
  pub receipt_is : IsReceiptOf old receipt
  pub told_is : number ≡ receipt.number

abbrev pub HasPublished : ℕ → Object → Object → Status → Type 0
HasPublished number (ReservationOf old) (SenderOf new) status = IsPublished number old new × (status ≡ Done)
HasPublished number (ReservationOf old) other status = ⊥
HasPublished number (SenderOf s) new status = (new ≡ SenderOf s) × (status ≡ NoReservation)
HasPublished number other new status = (new ≡ other) × (status ≡ WrongHandle)
