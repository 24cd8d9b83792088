use Rattle.std.proofs.Common.{ap, ◌∙◌, subst}
use Rattle.ring.specs.Runs.{Sender}
use Rattle.ring.specs.table.{Grew, PortValue}
use Rattle.ring.specs.sender.{ReservationValue}
use Rattle.ring.proofs.TableLemmas.Grown.{grew_more, port_step}
use Rattle.ring.proofs.sender.open_reservation.OpenReservation.write_next.Goals as goal

pub returns-clause-history : goal.returns-clause-history
returns-clause-history g c =
    let who_is = c.self.invariant.tallied.who_is in
    let low = port_step c.self.inside.port c.write.new.self _ _ who_is c.write.ensures.trail c.write.ensures.history in
    let high = port_step c.write.new.self c.write-2.new.self _ _ (ap (λ (p : PortValue). p.who) c.write.ensures.trail ∙ who_is) c.write-2.ensures.trail c.write-2.ensures.history in
    subst (λ (r : ReservationValue). Grew (Sender r.sender) r.trail c.write-2.new.self.trail r.history c.write-2.new.self.history) c.self.view_is (grew_more _ _ _ _ _ _ _ low high)
