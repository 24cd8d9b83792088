use Rattle.stress.specs.EngineTurns.{GoesOn, HasTurned, IsAny}
use Rattle.stress.proofs.engine_turns.run_engine.Given as goal

abbrev pub invariant-loop-turn : goal.invariant-loop-turn
invariant-loop-turn g l = record { goes_on : GoesOn l.turn l.fn.engine l.engine; turned : HasTurned IsAny l.turn l.fn.engine l.engine }
