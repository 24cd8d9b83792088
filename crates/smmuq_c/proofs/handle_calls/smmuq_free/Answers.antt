use Rattle.std.proofs.Common.{refl, sym}
use Rattle.smmuq_c.specs.declared.status.Status.TheVariants.{Done, OpenReservation}
use Rattle.smmuq_c.proofs.Freed.{empty_freed, freed, kept}
use Rattle.smmuq_c.proofs.handle_calls.smmuq_free.Goals as goal

pub returns-in_default : goal.returns-in_default
returns-in_default c =
    let none = c.in_default.ensures.lent in (Done, c.number.ensures, empty_freed none none)

pub returns-then-is_reservation : goal.returns-then-is_reservation
returns-then-is_reservation c =
    let reserved = sym c.if-is_reservation.ensures in
    (OpenReservation, c.number-then-is_reservation.ensures, kept c.in-Some.ensures.lent reserved refl)

pub returns : goal.returns
returns c =
    let not_reserved = sym c.if-is_reservation.ensures in
    (Done, c.number-2.ensures, freed c.in-Some.ensures.lent not_reserved c.clear.ensures)
