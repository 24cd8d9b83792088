use Rattle.std.proofs.Common.{◌≡◌}
use Rattle.guests_tests.proofs.detachment_tests.device.take.Given as goal

abbrev pub invariant-loop : goal.invariant-loop
invariant-loop l = l.consumer.ring ≡ l.ring
