use Rattle.std.proofs.Common.{◌≡◌}
use Rattle.engine.specs.Stops.{unstopped}
use Rattle.unit_bench.proofs.tracking.time_all.Given as goal

abbrev pub invariant-loop-round : goal.invariant-loop-round
invariant-loop-round g l = (l.alone.stop ≡ unstopped) × (l.tracked.unit.stop ≡ unstopped)
