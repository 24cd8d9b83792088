use Rattle.std.proofs.Common.{◌≡◌}
use Rattle.ring_tests.proofs.thread_tests.send_many.Given as goal

abbrev pub invariant-loop-sent : goal.invariant-loop-sent
invariant-loop-sent l = record {
  ring : l.sender.ring ≡ l.ring;
  id : l.sender.number ≡ l.fn.sender.number;
}
