use Rattle.std.proofs.Common.{◌≡◌}
use Rattle.access_stress.proofs.model.serve_meanwhile.Given as goal

abbrev pub invariant-loop : goal.invariant-loop
invariant-loop l = l.engine.consumer.ring ≡ l.ring
