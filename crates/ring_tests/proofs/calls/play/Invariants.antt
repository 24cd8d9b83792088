use Rattle.std.proofs.Common.{◌≡◌}
use Rattle.ring_tests.proofs.calls.play.Given as goal

abbrev pub invariant-loop-line : goal.invariant-loop-line
invariant-loop-line g l = record {
  sender : l.seats.sender.ring ≡ l.ring;
  id : l.seats.sender.number ≡ l.fn.seats.sender.number;
  consumer : l.seats.consumer.ring ≡ l.ring;
}
