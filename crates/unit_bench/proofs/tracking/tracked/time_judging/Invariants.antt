use Rattle.std.proofs.Common.{◌≡◌}
use Rattle.engine.specs.Stops.{unstopped}
use Rattle.unit_bench.proofs.tracking.tracked.time_judging.Given as goal

abbrev pub invariant-loop : goal.invariant-loop
invariant-loop g l = l.tracked.unit.stop ≡ unstopped
