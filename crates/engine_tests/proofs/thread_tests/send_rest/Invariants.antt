use Rattle.std.proofs.Common.{◌≡◌}
use Rattle.engine_tests.proofs.thread_tests.send_rest.Given as goal

abbrev pub invariant-loop : goal.invariant-loop
invariant-loop l = record {
  sender : l.sender.ring ≡ l.ring;
  id : l.sender.number ≡ l.fn.sender.number;
  engine : l.engine.consumer.ring ≡ l.ring;
}
