use Rattle.smmuq_c.proofs.NewSenders.{one_seated, own_rest}
use Rattle.smmuq_c.proofs.ring_calls.seat_all.Goals as goal

pub loop-sender-preserved : goal.loop-sender-preserved
loop-sender-preserved g =
    let added = g.in_ok-push.ensures.items in
    record {
      own = own_rest _ _ _ _ g.loop-sender.invariant.own g.in-Some.ensures.items;
      done = rw added (one_seated _ _ _ _ g.loop-sender.seats.items g.in_ok-seat.seat g.loop-sender.invariant.done g.in-Some.ensures.items g.in_ok-seat.ensures);
    }
