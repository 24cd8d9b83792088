use Rattle.std.proofs.Common.{◌≡◌}
use Rattle.hardware_queue_tests.proofs.threads.forward_many.Given as goal

abbrev pub invariant-loop : goal.invariant-loop
invariant-loop l = l.forwarder.consumer.consumer.ring ≡ l.ring
