use Rattle.std.proofs.Common.{◌≡◌}
use Rattle.engine_tests.proofs.calls.expect_answers.Given as goal

abbrev pub invariant-loop-line : goal.invariant-loop-line
invariant-loop-line g l = record {
  can_next : (goal.iterator-loop-line g).can_next l.line-iterator;
  is_finite : (goal.iterator-loop-line g).is_finite l.line-iterator;
  sender : l.parts.sender.ring ≡ l.ring;
  id : l.parts.sender.number ≡ l.fn.parts.sender.number;
  engine : l.parts.engine.consumer.ring ≡ l.ring;
}
