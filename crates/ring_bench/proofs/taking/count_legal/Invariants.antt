use Rattle.ring_bench.proofs.Legal.{AreLegal}
use Rattle.ring_bench.proofs.taking.count_legal.Given as goal

abbrev pub invariant-loop-count : goal.invariant-loop-count
invariant-loop-count l = AreLegal l.count l.run.raws
