use Rattle.std.proofs.Common.{◌≡◌}
use Rattle.ring_bench.proofs.taking.ConsumerNothingTaker.take_all.Given as goal

abbrev pub invariant-loop : goal.invariant-loop
invariant-loop l = l.consumer.ring ≡ l.ring
