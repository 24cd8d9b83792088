use Rattle.stress.specs.EngineTurns.{IsAny}
use Rattle.stress.proofs.Turns.{one_step, one_more_turn}
use Rattle.stress.proofs.engine_turns.run_engine.Goals as goal

pub loop-turn-preserved : goal.loop-turn-preserved
loop-turn-preserved g c = record {
  goes_on =
      one_step c.loop-turn.turn c.args.engine c.loop-turn.engine c.step_run.new.self c.step_run.result c.loop-turn.invariant.goes_on c.step_run.ensures.stepped c.step_run.ensures.ring
      c.step_run.ensures.removes c.step_run.ensures.history;
  turned =
      one_more_turn IsAny c.loop-turn.turn c.args.engine c.loop-turn.engine c.step_run.new.self c.loop-turn.invariant.turned
      (record { answer = c.step_run.result; ran = c.step_run.ensures.stepped; is = tt; grew = c.step_run.ensures.history });
}
