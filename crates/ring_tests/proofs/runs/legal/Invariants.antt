use Rattle.ring_tests.proofs.Legal.{AreLegal}
use Rattle.ring_tests.proofs.runs.legal.Given as goal

abbrev pub invariant-loop-count : goal.invariant-loop-count
invariant-loop-count l = AreLegal l.count l.run.raws
