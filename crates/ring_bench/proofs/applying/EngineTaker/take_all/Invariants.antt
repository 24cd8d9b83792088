use Rattle.std.proofs.Common.{◌≡◌}
use Rattle.ring_bench.proofs.applying.EngineTaker.take_all.Given as goal

abbrev pub invariant-loop : goal.invariant-loop
invariant-loop l = l.engine.consumer.ring ≡ l.ring
