use Rattle.std.proofs.Common.{◌≡◌, ◌+◌}
use Rattle.stress.specs.EngineTurns.{GoesOn}
use Rattle.stress.specs.Workers.{assignment}
use Rattle.stress.proofs.ending.send_left.Given as goal

abbrev pub invariant-loop : goal.invariant-loop
invariant-loop l = (assignment l.worker ≡ assignment l.fn.worker) × (l.worker.sent ≡ l.fn.worker.sent + l.counter) × GoesOn 0 l.fn.engine l.engine
