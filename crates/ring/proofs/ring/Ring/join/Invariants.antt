use Rattle.std.proofs.Common.{◌≡◌, [], ◌++◌, List, vec_len}
use Rattle.ring.specs.sender.{SenderValue}
use Rattle.ring.specs.Finishing.{all_in}
use Rattle.ring.proofs.ring.Ring.join.Given as goal

abbrev pub invariant-loop-sender : goal.invariant-loop-sender
invariant-loop-sender l = record {
  table : l.seat.table_id ≡ l.initial.seat.table_id;
  gathered : (done : List SenderValue) × (l.fn.senders.items ≡ l.senders.items ++ done) × (l.seat.me ≡ (all_in l.fn.consumer.ring.made_with l.fn.consumer.trail l.fn.consumer.history done, []));
}

abbrev pub decreases-loop-sender : goal.decreases-loop-sender
decreases-loop-sender l = vec_len l.senders
