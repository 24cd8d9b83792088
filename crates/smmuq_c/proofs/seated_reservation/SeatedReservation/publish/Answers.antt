use Rattle.std.proofs.Common.{sym, ap, subst, ◌∙◌}
use Rattle.ring.specs.sender.Reservations.{ReservationValue}
use Rattle.ring.specs.sender.Senders.{SenderValue}
use Rattle.smmuq_c.specs.Reserving.{IsPublished}
use Rattle.smmuq_c.proofs.seated_reservation.SeatedReservation.publish.Goals as goal

pub publish-sender-requires : goal.publish-sender-requires
publish-sender-requires c = ap (λ (r : ReservationValue). r.ring) c.bind.ensures ∙ c.self.invariant.0 ∙ sym c.deref-2.ensures

pub new-requires : goal.new-requires
new-requires c = c.publish-sender.ensures.ring ∙ ap (λ (r : ReservationValue). r.ring) c.bind.ensures ∙ c.self.invariant.0

pub returns : goal.returns
returns c =
    let number = c.number.result in
    let sent = c.publish-sender.ensures in
    let sender = c.publish-sender.result.0 in
    subst (λ (old : ReservationValue). IsPublished number old c.new.result) (c.bind.ensures ∙ c.self.view_is)
    (subst (λ (new : SenderValue). IsPublished number c.bind.result new) (sym c.new.ensures) (record {
      sender_is = sent.sender;
      settled = sent.settled;
      history = sent.history;
      ring_is = sent.ring;
      number_is = sent.id;
      receipt = c.publish-sender.result.1;
      receipt_is = sent.receipt;
      told_is = c.number.ensures;
    }))
