use Rattle.std.proofs.Common.{◌≡◌}
use Rattle.access_stress.proofs.driver.drive.Given as goal

abbrev pub invariant-loop-round : goal.invariant-loop-round
invariant-loop-round l = l.sender.ring ≡ l.ring
