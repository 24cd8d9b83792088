use Rattle.std.proofs.Common.{◌≡◌}
use Rattle.engine.specs.Stops.{unstopped}
use Rattle.unit_bench.proofs.cold.time_all.Given as goal

abbrev pub invariant-loop-turn : goal.invariant-loop-turn
invariant-loop-turn g l = (l.small.stop ≡ unstopped) × (l.large.stop ≡ unstopped) × (l.small_used.stop ≡ unstopped) × (l.large_used.stop ≡ unstopped)
