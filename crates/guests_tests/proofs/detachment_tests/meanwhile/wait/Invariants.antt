use Rattle.std.proofs.Common.{◌≡◌}
use Rattle.ring.specs.sender.GoingOn.{WentOn}
use Rattle.guests_tests.proofs.detachment_tests.meanwhile.wait.Given as goal

abbrev pub invariant-loop : goal.invariant-loop
invariant-loop l = record {
  ring : l.sender.ring ≡ l.ring;
  id : l.sender.number ≡ l.fn.sender.number;
  same_sender : WentOn l.configuring.sender l.sender;
}
