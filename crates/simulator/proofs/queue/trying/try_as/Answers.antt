use Rattle.std.proofs.Common.{◌≡◌, ap, ◌∙◌}
use Rattle.ring.specs.sender.Senders.{SenderValue}
use Rattle.simulator.proofs.SeatLemmas.{IsCall, is_call}
use Rattle.simulator.proofs.Trying.{well, in_vain}
use Rattle.simulator.proofs.queue.trying.try_as.Given.{Over}
use Rattle.simulator.proofs.queue.trying.try_as.Goals as goal

its_own : (g : Over) (c : goal.After-run_stands g) → c.in-Ok.reservation.sender ≡ c.args.idle.sender
its_own g c = c.in-Ok.ensures.opened.number_is ∙ ap (λ (u : SenderValue). u.number) c.lend_sender-sender.ensures.sender

known : (g : Over) (c : goal.After-run_stands g) → IsCall c.args.idle.sender c.in-Ok.reservation.trail c.args.keeper.now c.take_reservation-idle.new.self
known g c = is_call c.args.idle.sender c.in-Ok.reservation.sender c.in-Ok.reservation.trail c.args.keeper.now c.lend_sender-sender.new.self c.take_reservation-idle.new.self
    c.lend_sender-sender.ensures.keeper (its_own g c) c.take_reservation-idle.ensures.keeper c.take_reservation-idle.ensures.adds c.run_stands.ensures c.take_reservation-idle.ensures.others

pub returns-in-Ok-clause-tried : goal.returns-in-Ok-clause-tried
returns-in-Ok-clause-tried g c =
    well c.indexes_tell_the_queue.ensures.queue c.world_law.ensures.within c.args.keeper.now c.take_reservation-idle.new.self c.args.idle.sender c.args.batch g.K.BatchKind.closes
    c.lend_sender-sender.result c.lend_sender-sender.ensures.sender c.in-Ok.reservation c.take_reservation-idle.result (known g c) c.in-Ok.ensures.reserved
    c.take_reservation-idle.ensures.left (c.take_reservation-idle.ensures.left.sender_is ∙ its_own g c) c.take_reservation-idle.ensures.idle

pub returns-in-Ok-clause-back : goal.returns-in-Ok-clause-back
returns-in-Ok-clause-back g c = (known g c).back

still_its_own : (g : Over) (c : goal.After-run_stands-in-Err g) → c.in-Err.refused.sender.number ≡ c.args.idle.sender
still_its_own g c = c.in-Err.ensures.given_back.number_is ∙ ap (λ (u : SenderValue). u.number) c.lend_sender-sender.ensures.sender

known_refused : (g : Over) (c : goal.After-run_stands-in-Err g) → IsCall c.args.idle.sender c.in-Err.refused.sender.trail c.args.keeper.now c.take_sender-idle.new.self
known_refused g c = is_call c.args.idle.sender c.in-Err.refused.sender.number c.in-Err.refused.sender.trail c.args.keeper.now c.lend_sender-sender.new.self c.take_sender-idle.new.self
    c.lend_sender-sender.ensures.keeper (still_its_own g c) c.take_sender-idle.ensures.keeper c.take_sender-idle.ensures.adds c.run_stands-in-Err.ensures c.take_sender-idle.ensures.others

pub returns-in-Err-clause-tried : goal.returns-in-Err-clause-tried
returns-in-Err-clause-tried g c =
    in_vain c.indexes_tell_the_queue.ensures.queue c.world_law.ensures.within c.args.keeper.now c.take_sender-idle.new.self c.args.idle.sender c.args.batch g.K.BatchKind.closes
    c.lend_sender-sender.result c.lend_sender-sender.ensures.sender c.in-Err.refused.sender (known_refused g c) c.in-Err.refused.cause c.take_sender-idle.result c.in-Err.ensures.refused
    (c.take_sender-idle.ensures.number ∙ still_its_own g c) c.take_sender-idle.ensures.idle

pub returns-in-Err-clause-back : goal.returns-in-Err-clause-back
returns-in-Err-clause-back g c = (known_refused g c).back
