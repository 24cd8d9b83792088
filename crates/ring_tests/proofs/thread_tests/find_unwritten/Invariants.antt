use Rattle.std.proofs.Common.{◌≡◌}
use Rattle.ring_tests.proofs.thread_tests.find_unwritten.Given as goal

abbrev pub invariant-loop : goal.invariant-loop
invariant-loop l = l.consumer.ring ≡ l.ring
