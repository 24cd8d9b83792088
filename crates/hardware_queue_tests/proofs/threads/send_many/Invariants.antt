use Rattle.std.proofs.Common.{◌≡◌}
use Rattle.hardware_queue_tests.proofs.threads.send_many.Given as goal

abbrev pub invariant-loop-sent : goal.invariant-loop-sent
invariant-loop-sent l = l.sender.ring ≡ l.ring
