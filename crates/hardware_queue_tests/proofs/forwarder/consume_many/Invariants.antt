use Rattle.std.proofs.Common.{◌≡◌}
use Rattle.hardware_queue_tests.proofs.forwarder.consume_many.Given as goal

abbrev pub invariant-loop : goal.invariant-loop
invariant-loop g l = l.forwarder.consumer.consumer.ring ≡ l.ring
