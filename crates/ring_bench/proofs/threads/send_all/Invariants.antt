use Rattle.std.proofs.Common.{◌≡◌}
use Rattle.ring_bench.proofs.threads.send_all.Given as goal

abbrev pub invariant-loop-k : goal.invariant-loop-k
invariant-loop-k l = l.sender.ring ≡ l.ring
