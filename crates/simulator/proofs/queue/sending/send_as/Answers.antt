use Rattle.std.proofs.Common.{◌≡◌, ℕ, ◌++◌, ap, ◌∙◌, sym, Option, Result, Ok, Err}
use Rattle.ring.specs.Runs.{Ring}
use Rattle.ring.specs.Rings.{RingValue}
use Rattle.ring.specs.declared.sender.cause.Cause.{Cause}
use Rattle.ring.specs.sender.Senders.{SenderValue}
use Rattle.ring.specs.sender.Reservations.{ReservationValue, reserved_number}
use Rattle.ring.specs.sender.Publishing.{handing_over, published}
use Rattle.simulator.specs.queue.{Ran, IsTriedInVain, sent_by}
use Rattle.simulator.proofs.SeatLemmas.{IsCall, is_call}
use Rattle.simulator.proofs.Trying.{in_vain, sent_well, sent_in_vain}
use Rattle.simulator.proofs.queue.sending.send_as.Given.{Over}
use Rattle.simulator.proofs.queue.sending.send_as.Goals as goal

abbrev Sent : Type 0
Sent = Ran (Result (Option ℕ) Cause)

-- ---- it is reserved and handed over

reserved_his : (g : Over) (c : goal.After-run_stands g) → c.in-Ok.reservation.sender ≡ c.args.idle.sender
reserved_his g c = c.in-Ok.ensures.opened.number_is ∙ ap (λ (u : SenderValue). u.number) c.lend_sender-sender.ensures.sender

its_own : (g : Over) (c : goal.After-run_stands g) → c.hand_over-sender.result.number ≡ c.args.idle.sender
its_own g c = c.hand_over-sender.ensures.id ∙ reserved_his g c

known : (g : Over) (c : goal.After-run_stands g) → IsCall c.args.idle.sender c.hand_over-sender.result.trail c.args.keeper.now c.take_sender-idle.new.self
known g c = is_call c.args.idle.sender c.hand_over-sender.result.number c.hand_over-sender.result.trail c.args.keeper.now c.lend_sender-sender.new.self c.take_sender-idle.new.self
    c.lend_sender-sender.ensures.keeper (its_own g c) c.take_sender-idle.ensures.keeper c.take_sender-idle.ensures.adds c.run_stands.ensures c.take_sender-idle.ensures.others

-- From nothing written on, all of it is.
from_nothing : (r : ReservationValue) (made : Ring) → r.ring.made_with ≡ made → r.written ≡ 0 → r.flipped ≡ 0 → (published r).trail ≡ handing_over made.geometry r.trail 0 0 ++ r.trail
from_nothing r made of_ring unwritten unflipped = λ k. handing_over (of_ring k).geometry r.trail (unwritten k) (unflipped k) ++ r.trail

handed : (g : Over) (c : goal.After-run_stands g)
    → c.hand_over-sender.result.trail ≡ handing_over c.args.keeper.now.ring.made_with.geometry c.in-Ok.reservation.trail 0 0 ++ c.in-Ok.reservation.trail
handed g c =
    let opened = c.in-Ok.ensures.reserved.won.trail_is in
    ap (λ (t : SenderValue). t.trail) c.hand_over-sender.ensures.sender
    ∙ from_nothing c.in-Ok.reservation c.args.keeper.now.ring.made_with
    (ap (λ (ring : RingValue). ring.made_with) (c.in-Ok.ensures.opened.ring_is ∙ ap (λ (u : SenderValue). u.ring) c.lend_sender-sender.ensures.sender))
    (ap (λ (q : ReservationValue). q.written) opened) (ap (λ (q : ReservationValue). q.flipped) opened)

sent : (g : Over) (c : goal.After-run_stands g)
    → sent_by c.args.keeper.now.ring.made_with c.args.idle.sender c.args.batch g.K.BatchKind.closes c.args.keeper.now.run ≡ record { answer = Ok (reserved_number c.in-Ok.reservation.trail); run = c.take_sender-idle.new.self.run }
sent g c = sent_well c.indexes_tell_the_queue.ensures.queue c.world_law.ensures.within c.args.keeper.now c.take_sender-idle.new.self c.args.idle.sender c.args.batch g.K.BatchKind.closes
    c.lend_sender-sender.result c.lend_sender-sender.ensures.sender c.in-Ok.reservation c.in-Ok.ensures.reserved c.hand_over-sender.result (known g c) (handed g c)

pub returns-in-Ok : goal.returns-in-Ok
returns-in-Ok g c = record {
  run_is = ap (λ (sent : Sent). sent.run) (sym (sent g c));
  answer_is = ap Ok c.number-number.ensures ∙ ap (λ (sent : Sent). sent.answer) (sym (sent g c));
  back = (known g c).back;
  seat = record { sender_is = c.take_sender-idle.ensures.number ∙ its_own g c; idle = c.take_sender-idle.ensures.idle };
}

-- ---- it is refused

still_its_own : (g : Over) (c : goal.After-run_stands-in-Err g) → c.in-Err.refused.sender.number ≡ c.args.idle.sender
still_its_own g c = c.in-Err.ensures.given_back.number_is ∙ ap (λ (u : SenderValue). u.number) c.lend_sender-sender.ensures.sender

known_refused : (g : Over) (c : goal.After-run_stands-in-Err g) → IsCall c.args.idle.sender c.in-Err.refused.sender.trail c.args.keeper.now c.take_sender-idle-in-Err.new.self
known_refused g c = is_call c.args.idle.sender c.in-Err.refused.sender.number c.in-Err.refused.sender.trail c.args.keeper.now c.lend_sender-sender.new.self c.take_sender-idle-in-Err.new.self
    c.lend_sender-sender.ensures.keeper (still_its_own g c) c.take_sender-idle-in-Err.ensures.keeper c.take_sender-idle-in-Err.ensures.adds c.run_stands-in-Err.ensures c.take_sender-idle-in-Err.ensures.others

tried : (g : Over) (c : goal.After-run_stands-in-Err g)
    → IsTriedInVain c.args.keeper.now c.take_sender-idle-in-Err.new.self c.args.idle.sender c.args.batch g.K.BatchKind.closes c.take_sender-idle-in-Err.result c.in-Err.refused.cause
tried g c = in_vain c.indexes_tell_the_queue.ensures.queue c.world_law.ensures.within c.args.keeper.now c.take_sender-idle-in-Err.new.self c.args.idle.sender c.args.batch g.K.BatchKind.closes
    c.lend_sender-sender.result c.lend_sender-sender.ensures.sender c.in-Err.refused.sender (known_refused g c) c.in-Err.refused.cause c.take_sender-idle-in-Err.result c.in-Err.ensures.refused
    (c.take_sender-idle-in-Err.ensures.number ∙ still_its_own g c) c.take_sender-idle-in-Err.ensures.idle

refused_so : (g : Over) (c : goal.After-run_stands-in-Err g)
    → sent_by c.args.keeper.now.ring.made_with c.args.idle.sender c.args.batch g.K.BatchKind.closes c.args.keeper.now.run ≡ record { answer = Err c.in-Err.refused.cause; run = c.take_sender-idle-in-Err.new.self.run }
refused_so g c = sent_in_vain c.indexes_tell_the_queue.ensures.queue c.world_law.ensures.within c.args.keeper.now c.take_sender-idle-in-Err.new.self c.args.idle.sender c.args.batch g.K.BatchKind.closes
    c.lend_sender-sender.result c.lend_sender-sender.ensures.sender c.take_sender-idle-in-Err.result c.in-Err.refused.cause (tried g c)

pub returns-in-Err : goal.returns-in-Err
returns-in-Err g c = record {
  run_is = ap (λ (sent : Sent). sent.run) (sym (refused_so g c));
  answer_is = ap (λ (sent : Sent). sent.answer) (sym (refused_so g c));
  back = (known_refused g c).back;
  seat = (tried g c).seat;
}
