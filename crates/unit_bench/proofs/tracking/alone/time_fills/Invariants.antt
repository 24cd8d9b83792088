use Rattle.std.proofs.Common.{◌≡◌}
use Rattle.engine.specs.Stops.{unstopped}
use Rattle.unit_bench.proofs.tracking.alone.time_fills.Given as goal

abbrev pub invariant-loop-place : goal.invariant-loop-place
invariant-loop-place g l = l.unit.stop ≡ unstopped
