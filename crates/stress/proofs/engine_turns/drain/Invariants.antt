use Rattle.stress.specs.EngineTurns.{GoesOn, HasTurned, IsBusy}
use Rattle.stress.proofs.engine_turns.drain.Given as goal

abbrev pub invariant-loop : goal.invariant-loop
invariant-loop l = record { goes_on : GoesOn l.counter l.fn.engine l.engine; turned : HasTurned IsBusy l.counter l.fn.engine l.engine }
