-- How a sender goes on with its calls: its run only grows, and its ring and number stay.
use Rattle.std.specs.Prelude.{◌≡◌}
use Rattle.ring.specs.Runs.{Sender}
use Rattle.ring.specs.table.{Grew}
use Rattle.ring.specs.sender.Senders.{SenderValue}
use Rattle.ring.specs.sender.Reservations.{ReservationValue}

-- the same sender, in the same ring
pub record WentOn (old new : SenderValue) : Type 0 where
  pub grew : Grew (Sender old.number) old.trail new.trail old.history new.history
  pub ring_is : new.ring ≡ old.ring
  pub number_is : new.number ≡ old.number

-- a reservation of this sender, in its ring
pub record HasOpened (s : SenderValue) (r : ReservationValue) : Type 0 where
  pub grew : Grew (Sender s.number) s.trail r.trail s.history r.history
  pub ring_is : r.ring ≡ s.ring
  pub number_is : r.sender ≡ s.number

-- the same reservation, with more of it written or handed over
abbrev pub ReservationGrew : ReservationValue → ReservationValue → Type 0
ReservationGrew old new = Grew (Sender old.sender) old.trail new.trail old.history new.history

-- the sender of a reservation that was handed over
abbrev pub GrewHandingOver : ReservationValue → SenderValue → Type 0
GrewHandingOver r t = Grew (Sender r.sender) r.trail t.trail r.history t.history
