use Rattle.schedule.specs.Steps.{step_of}
use Rattle.schedule.proofs.ServedLemmas.{step_taken, step_refused}
use Rattle.schedule.proofs.kind.serve_step.Goals as goal

pub returns-in_ok-say_answer-in-Ok : goal.returns-in_ok-say_answer-in-Ok
returns-in_ok-say_answer-in-Ok c =
    let took = c.in-Ok.ensures in
    step_taken c.args.number (step_of c.args.asked.now) c.args.is_counted c.in-Ok.seen c.args.core.now c.take.new.core _ _ took.0 took.1 c.in_ok-say_answer-in-Ok.ensures

pub returns-in_ok-say_step_fault-in-Err : goal.returns-in_ok-say_step_fault-in-Err
returns-in_ok-say_step_fault-in-Err c =
    step_refused c.args.number (step_of c.args.asked.now) c.args.is_counted c.in-Err.fault c.args.core.now c.take.new.core _ _ c.in-Err.ensures.0 c.in_ok-say_step_fault-in-Err.ensures
