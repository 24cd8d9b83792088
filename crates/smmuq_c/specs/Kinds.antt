-- The number of the kind of object that a handle holds.
use Rattle.std.specs.Prelude.{◌≡◌, ℕ, Bool, true, false, Option, None, Some}
use Rattle.smmuq_c.specs.declared.status.Status.{Status}
use Rattle.smmuq_c.specs.declared.status.Status.TheVariants.{Done, OpenReservation}
use Rattle.smmuq_c.specs.declared.object.Object.{Object}
use Rattle.smmuq_c.specs.declared.object.Object.TheVariants.{Unit as UnitOf, Sender as SenderOf, Reservation as ReservationOf, Engine as EngineOf, Consumer as ConsumerOf, Guest as GuestOf, Forwarder as ForwarderOf}

abbrev pub kind_of : Object → ℕ
kind_of (UnitOf u) = 1
kind_of (SenderOf s) = 2
kind_of (ReservationOf r) = 2
kind_of (EngineOf e) = 3
kind_of (ConsumerOf c) = 4
kind_of (GuestOf g) = 5
kind_of (ForwarderOf f) = 6

-- 0 if it is empty
abbrev pub kind_in : Option Object → ℕ
kind_in None = 0
kind_in (Some object) = kind_of object

-- a sender that has an open reservation
abbrev pub is_reservation : Object → Bool
is_reservation (ReservationOf r) = true
is_reservation other = false

-- Such a one isn't freed; anything else is.
abbrev pub HasFreed : Option Object → Option Object → Status → Type 0
HasFreed (Some (ReservationOf r)) new status = (new ≡ Some (ReservationOf r)) × (status ≡ OpenReservation)
HasFreed old new status = (new ≡ None) × (status ≡ Done)
