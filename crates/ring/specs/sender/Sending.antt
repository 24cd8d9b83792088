-- The events that a send added, by its answer.
use Rattle.std.specs.Prelude.{◌≡◌, ℕ, zero, suc, ◌+◌, ◌<◌, Bool, true, false, List, []}
use Rattle.ring.specs.Runs.{Raw, Sender}
use Rattle.ring.specs.table.Histories.{Grew}
use Rattle.ring.specs.declared.sender.cause.Cause.{Cause}
use Rattle.ring.specs.declared.sender.cause.Refused.{Refused}
use Rattle.ring.specs.declared.sender.cause.Cause.TheVariants.{TooLong, Exhausted, Closed, Full, Contended}
use Rattle.ring.specs.sender.Senders.{SenderValue, ReceiptValue}
use Rattle.ring.specs.sender.Reservations.{ReservationValue, IsReceiptOf}
use Rattle.ring.specs.sender.Reserving.{IsReserved, IsRefused}
use Rattle.ring.specs.sender.Publishing.{published, sender_of}

-- whether another try may succeed
abbrev pub may_pass : Cause → Bool
may_pass TooLong = false
may_pass Exhausted = false
may_pass Closed = false
may_pass Full = true
may_pass Contended = true

-- This many tries were refused in a row, each for a cause that may pass.
abbrev pub HasTried : List Raw → Bool → ℕ → SenderValue → SenderValue → Type 0
HasTried body closes zero s t = t ≡ s
HasTried body closes (suc k) s t =
    (u : SenderValue) × (cause : Cause) × HasTried body closes k s u × (may_pass cause ≡ true) × IsRefused body closes u cause t

-- some refused tries and then a reservation, in at most `tries` tries
pub record IsReservedWithin (body : List Raw) (closes : Bool) (tries : ℕ) (s : SenderValue) (r : ReservationValue) : Type 0 where
  pub refusals : ℕ
  pub few : refusals < tries
  pub after : SenderValue
  pub tried : HasTried body closes refusals s after
  pub reserved : IsReserved body closes after r

-- Some refused tries, and then the whole batch was sent. The run that the sender knows grew by exactly the steps that
-- published what was reserved.
pub record IsSent (body : List Raw) (tries : ℕ) (s t : SenderValue) (receipt : ReceiptValue) : Type 0 where
  pub reservation : ReservationValue
  pub reserved : IsReservedWithin body true tries s reservation
  pub sender_is : record t { history = [] } ≡ sender_of (published (record reservation { history = [] }))
  pub grew : Grew (Sender reservation.sender) reservation.trail t.trail reservation.history t.history
  pub receipt_is : IsReceiptOf reservation receipt

pub record IsSentBare (body : List Raw) (tries : ℕ) (s t : SenderValue) : Type 0 where
  pub reservation : ReservationValue
  pub reserved : IsReservedWithin body false tries s reservation
  pub sender_is : record t { history = [] } ≡ sender_of (published (record reservation { history = [] }))
  pub grew : Grew (Sender reservation.sender) reservation.trail t.trail reservation.history t.history

-- The answer is the last refusal: after `tries` tries, or at once if its cause doesn't pass.
pub record IsGivenUp (body : List Raw) (closes : Bool) (tries : ℕ) (s : SenderValue) (cause : Cause) (t : SenderValue) : Type 0 where
  pub refusals : ℕ
  pub few : refusals < tries
  pub before : SenderValue
  pub tried : HasTried body closes refusals s before
  pub refused : IsRefused body closes before cause t
  pub enough : may_pass cause ≡ true → refusals + 1 ≡ tries

-- the same, by the refusal
abbrev pub IsGivenUpWith : List Raw → Bool → ℕ → SenderValue → Refused → Type 0
IsGivenUpWith body closes tries s refused =
    IsGivenUp body closes tries s refused.cause refused.sender
