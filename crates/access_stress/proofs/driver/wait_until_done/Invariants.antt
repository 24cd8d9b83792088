use Rattle.std.proofs.Common.{◌≡◌}
use Rattle.access_stress.proofs.driver.wait_until_done.Given as goal

abbrev pub invariant-loop : goal.invariant-loop
invariant-loop l = (l.sender.ring ≡ l.fn.sender.ring) × (l.sender.number ≡ l.fn.sender.number)
