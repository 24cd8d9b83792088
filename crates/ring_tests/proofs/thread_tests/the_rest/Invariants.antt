use Rattle.std.proofs.Common.{◌≡◌}
use Rattle.ring_tests.proofs.thread_tests.the_rest.Given as goal

abbrev pub invariant-loop : goal.invariant-loop
invariant-loop l = record {
  sender : l.sender.ring ≡ l.ring;
  id : l.sender.number ≡ l.fn.seats.sender.number;
  consumer : l.consumer.ring ≡ l.ring;
}
