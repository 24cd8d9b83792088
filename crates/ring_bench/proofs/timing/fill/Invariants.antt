use Rattle.std.proofs.Common.{◌≡◌}
use Rattle.ring_bench.proofs.timing.fill.Given as goal

abbrev pub invariant-loop-sent : goal.invariant-loop-sent
invariant-loop-sent l = l.sender.ring ≡ l.ring
