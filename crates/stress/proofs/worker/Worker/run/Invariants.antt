use Rattle.std.proofs.Common.{◌≡◌}
use Rattle.stress.specs.Workers.{assignment, HasTriedTimes}
use Rattle.stress.proofs.worker.Worker.run.Given as goal

abbrev pub invariant-loop : goal.invariant-loop
invariant-loop g l = record { same : assignment l.worker ≡ assignment l.fn.self; tried : HasTriedTimes l.counter l.fn.self l.worker }
