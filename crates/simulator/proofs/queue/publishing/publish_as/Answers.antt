use Rattle.std.proofs.Common.{◌≡◌, ℕ, [], ◌++◌, ap, ap₂, ◌∙◌}
use Rattle.ring.specs.Runs.{Sender, Trail, trail_of}
use Rattle.ring.specs.sender.Senders.{SenderValue}
use Rattle.ring.specs.sender.Reservations.{ReservationValue}
use Rattle.ring.specs.sender.Publishing.{handing_over, published as published_by_ring}
use Rattle.simulator.specs.queue.{published}
use Rattle.simulator.proofs.SeatLemmas.{IsCall, is_call}
use Rattle.simulator.proofs.queue.publishing.publish_as.Given.{Over}
use Rattle.simulator.proofs.queue.publishing.publish_as.Goals as goal

its_own : (g : Over) (c : goal.After-run_stands g) → c.hand_over-sender.result.number ≡ c.args.idle.tally.sender
its_own g c = c.hand_over-sender.ensures.id ∙ ap (λ (r : ReservationValue). r.sender) c.lend_reservation-reservation.ensures.reservation

known : (g : Over) (c : goal.After-run_stands g) → IsCall c.args.idle.tally.sender c.hand_over-sender.result.trail c.args.keeper.now c.take_sender-idle.new.self
known g c = is_call c.args.idle.tally.sender c.hand_over-sender.result.number c.hand_over-sender.result.trail c.args.keeper.now c.lend_reservation-reservation.new.self c.take_sender-idle.new.self
    c.lend_reservation-reservation.ensures.keeper (its_own g c) c.take_sender-idle.ensures.keeper c.take_sender-idle.ensures.adds c.run_stands.ensures c.take_sender-idle.ensures.others

pub returns-clause-run : goal.returns-clause-run
unfolding published
returns-clause-run g c =
    let before : Trail = trail_of (Sender c.args.idle.tally.sender) c.args.keeper.now.run in
    let events = handing_over c.args.keeper.now.ring.made_with.geometry before in
    let trail_is : c.hand_over-sender.result.trail ≡ events 0 0 ++ before =
    ap (λ (t : SenderValue). t.trail) c.hand_over-sender.ensures.sender
    ∙ ap (λ (r : ReservationValue). (published_by_ring (record r { history = [] })).trail) c.lend_reservation-reservation.ensures.reservation
    ∙ ap₂ (λ (w f : ℕ). events w f ++ before) c.requires.open.unwritten c.requires.open.unflipped in
    ((known g c).adds (events 0 0) trail_is).run_is

pub returns-clause-back : goal.returns-clause-back
returns-clause-back g c = (known g c).back
