use Rattle.std.proofs.Common.{◌≡◌}
use Rattle.hardware_queue_tests.proofs.threads.send_rest.Given as goal

abbrev pub invariant-loop : goal.invariant-loop
invariant-loop l = record {
  sender : l.sender.ring ≡ l.ring;
  forwarder : l.forwarder.consumer.consumer.ring ≡ l.ring;
}
