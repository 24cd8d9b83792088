use Rattle.std.proofs.Common.{◌≡◌, ℕ, ◌+◌, subst, arith}
use Rattle.stress.specs.EngineTurns.{HasTurned, IsBusy}
use Rattle.stress.proofs.Turns.{one_step, one_more_turn, at_least}
use Rattle.stress.proofs.engine_turns.drain.Goals as goal

pub returns-in-Empty-clause-goes_on : goal.returns-in-Empty-clause-goes_on
returns-in-Empty-clause-goes_on c =
    at_least (c.loop.counter + 1) 1 c.args.engine.now c.step_run.new.self (omega arith)
    (one_step c.loop.counter c.args.engine.now c.loop.engine c.step_run.new.self c.step_run.result c.loop.invariant.goes_on c.step_run.ensures.stepped c.step_run.ensures.ring c.step_run.ensures.removes c.step_run.ensures.history)

pub returns-in-Drained-clause-goes_on : goal.returns-in-Drained-clause-goes_on
returns-in-Drained-clause-goes_on c =
    at_least (c.loop.counter + 1) 1 c.args.engine.now c.step_run.new.self (omega arith)
    (one_step c.loop.counter c.args.engine.now c.loop.engine c.step_run.new.self c.step_run.result c.loop.invariant.goes_on c.step_run.ensures.stepped c.step_run.ensures.ring c.step_run.ensures.removes c.step_run.ensures.history)

pub loop-preserved : goal.loop-preserved
loop-preserved c = record {
  goes_on =
      one_step c.loop.counter c.args.engine.now c.loop.engine c.step_run.new.self c.step_run.result c.loop.invariant.goes_on c.step_run.ensures.stepped c.step_run.ensures.ring c.step_run.ensures.removes c.step_run.ensures.history;
  turned =
      one_more_turn IsBusy c.loop.counter c.args.engine.now c.loop.engine c.step_run.new.self c.loop.invariant.turned
      (record { answer = c.step_run.result; ran = c.step_run.ensures.stepped; is = (c.in_default.not-Empty, c.in_default.not-Drained); grew = c.step_run.ensures.history });
}

pub returns-in_default-clause-goes_on : goal.returns-in_default-clause-goes_on
returns-in_default-clause-goes_on c =
    at_least (c.loop.counter + 1) 1 c.args.engine.now c.step_run.new.self (omega arith)
    (one_step c.loop.counter c.args.engine.now c.loop.engine c.step_run.new.self c.step_run.result c.loop.invariant.goes_on c.step_run.ensures.stepped c.step_run.ensures.ring c.step_run.ensures.removes c.step_run.ensures.history)

pub returns-in_default-clause-undrained : goal.returns-in_default-clause-undrained
returns-in_default-clause-undrained c =
    subst (λ (n : ℕ). HasTurned IsBusy n c.args.engine.now c.step_run.new.self) (let e : c.loop.counter + 1 ≡ c.args.slots + 1 = omega arith in e)
    (one_more_turn IsBusy c.loop.counter c.args.engine.now c.loop.engine c.step_run.new.self c.loop.invariant.turned
    (record { answer = c.step_run.result; ran = c.step_run.ensures.stepped; is = (c.in_default.not-Empty, c.in_default.not-Drained); grew = c.step_run.ensures.history }))
