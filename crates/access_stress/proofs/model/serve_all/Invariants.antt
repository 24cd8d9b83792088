use Rattle.std.proofs.Common.{◌≡◌}
use Rattle.access_stress.proofs.model.serve_all.Given as goal

abbrev pub invariant-loop-at : goal.invariant-loop-at
invariant-loop-at l = l.engine.consumer.ring ≡ l.ring
