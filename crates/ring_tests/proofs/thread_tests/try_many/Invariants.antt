use Rattle.std.proofs.Common.{◌≡◌}
use Rattle.ring_tests.proofs.thread_tests.try_many.Given as goal

abbrev pub invariant-loop : goal.invariant-loop
invariant-loop l = l.sender.ring ≡ l.ring
