-- A handle is freed, but for an open reservation.
use Rattle.std.proofs.Common.{◌≡◌, true, false, refl, sym, subst, Option, None, Some}
use Rattle.smmuq_c.specs.declared.object.Object.{Object}
use Rattle.smmuq_c.specs.declared.object.Object.TheVariants.{Unit as UnitOf, Sender as SenderOf, Reservation as ReservationOf, Engine as EngineOf, Consumer as ConsumerOf, Guest as GuestOf, Forwarder as ForwarderOf}
use Rattle.smmuq_c.specs.declared.status.Status.TheVariants.{Done, OpenReservation}
use Rattle.smmuq_c.specs.Kinds.{is_reservation, HasFreed}

pub empty_freed : {old new : Option Object} → old ≡ None → new ≡ None → HasFreed old new Done
empty_freed {new = new} is gone = subst (λ (o : Option Object). HasFreed o new Done) (sym is) (gone, refl)

freed_object : (object : Object) {new : Option Object} → is_reservation object ≡ false → new ≡ None → HasFreed (Some object) new Done
freed_object (UnitOf u) is gone = (gone, refl)
freed_object (SenderOf s) is gone = (gone, refl)
freed_object (ReservationOf r) is gone = absurd (cc)
freed_object (EngineOf e) is gone = (gone, refl)
freed_object (ConsumerOf c) is gone = (gone, refl)
freed_object (GuestOf g) is gone = (gone, refl)
freed_object (ForwarderOf f) is gone = (gone, refl)

pub freed : {object : Object} {old new : Option Object} → old ≡ Some object → is_reservation object ≡ false → new ≡ None → HasFreed old new Done
freed {object = object} {new = new} was is gone = subst (λ (o : Option Object). HasFreed o new Done) (sym was) (freed_object object is gone)

kept_object : (object : Object) {new : Option Object} → is_reservation object ≡ true → new ≡ Some object → HasFreed (Some object) new OpenReservation
kept_object (UnitOf u) is there = absurd (cc)
kept_object (SenderOf s) is there = absurd (cc)
kept_object (ReservationOf r) is there = (there, refl)
kept_object (EngineOf e) is there = absurd (cc)
kept_object (ConsumerOf c) is there = absurd (cc)
kept_object (GuestOf g) is there = absurd (cc)
kept_object (ForwarderOf f) is there = absurd (cc)

pub kept : {object : Object} {old new : Option Object} → old ≡ Some object → is_reservation object ≡ true → new ≡ Some object → HasFreed old new OpenReservation
kept {object = object} {new = new} was is there = subst (λ (o : Option Object). HasFreed o new OpenReservation) (sym was) (kept_object object is there)
