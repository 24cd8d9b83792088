use Rattle.std.proofs.Common.{◌≡◌}
use Rattle.engine.specs.Stops.{unstopped}
use Rattle.unit_bench.proofs.cold.contents.used_unit.Given as goal

abbrev pub invariant-loop-place : goal.invariant-loop-place
invariant-loop-place l = l.unit.stop ≡ unstopped
