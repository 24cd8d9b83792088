use Rattle.std.proofs.Common.{subst}
use Rattle.ring.specs.Runs.{Sender}
use Rattle.ring.specs.table.{Grew}
use Rattle.ring.specs.sender.{ReservationValue}
use Rattle.ring.proofs.TableLemmas.Grown.{port_step}
use Rattle.ring.proofs.sender.open_reservation.OpenReservation.flip_next.Goals as goal

pub returns-clause-history : goal.returns-clause-history
returns-clause-history g c =
    subst (λ (r : ReservationValue). Grew (Sender r.sender) r.trail c.flip.new.self.trail r.history c.flip.new.self.history) c.self.view_is
    (port_step c.self.inside.port c.flip.new.self _ _ c.self.invariant.tallied.who_is c.flip.ensures.trail c.flip.ensures.history)
