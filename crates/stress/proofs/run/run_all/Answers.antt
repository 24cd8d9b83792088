use Rattle.std.proofs.Common.{◌∙◌, ℕ, subst}
use Rattle.stress.specs.EngineTurns.{GoesOn}
use Rattle.stress.proofs.Rows.{workers_in}
use Rattle.stress.proofs.run.run_all.Goals as goal

pub run_at_once-engine-requires-clause-workers : goal.run_at_once-engine-requires-clause-workers
run_at_once-engine-requires-clause-workers g c κs within =
    workers_in c.args.plan.now c.in_ok-ring.field-0.ring c.args.plan.now.senders c.in_ok-ring.field-0.workers.items c.in_ok-ring.ensures.workers

pub finish-requires-clause-engine : goal.finish-requires-clause-engine
finish-requires-clause-engine g c = record {
  before = c.in_ok-ring.field-0.engine;
  filled = c.in_ok-ring.ensures.filled;
  goes_on = subst (λ (n : ℕ). GoesOn n c.in_ok-ring.field-0.engine c.run_at_once-engine.result.0) c.turns.ensures.value c.run_at_once-engine.ensures.engine;
  ring_is = c.run_at_once-engine.ensures.engine.ring ∙ c.in_ok-ring.ensures.engine;
}
