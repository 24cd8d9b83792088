use Rattle.std.proofs.Common.{◌≡◌}
use Rattle.engine_tests.proofs.first_hour.serve.Given as goal

abbrev pub invariant-loop : goal.invariant-loop
invariant-loop l = l.engine.consumer.ring ≡ l.ring
