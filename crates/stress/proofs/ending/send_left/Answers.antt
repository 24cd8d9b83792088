use Rattle.std.proofs.Common.{◌≡◌, ap, ◌∙◌, subst, arith}
use Rattle.stress.specs.Plans.{PlanValue}
use Rattle.stress.specs.Workers.{Assignment}
use Rattle.stress.specs.EngineTurns.{HasGivenUp}
use Rattle.stress.proofs.Turns.{at_least, on_and_on, later_given_up, when_err}
use Rattle.stress.proofs.ending.send_left.Goals as goal

pub returns-in_err-worker-clause-given_up : goal.returns-in_err-worker-clause-given_up
returns-in_err-worker-clause-given_up c =
    let same : c.loop.worker.plan ≡ c.args.plan = ap (λ (a : Assignment). a.plan) c.loop.invariant.0 ∙ c.requires.plan in
    when_err c.from_residual.result (HasGivenUp c.args.plan c.args.engine.now c.send_next.new.engine)
    (later_given_up c.args.plan 0 c.args.engine.now c.loop.engine c.send_next.new.engine c.loop.invariant.2
    (subst (λ (p : PlanValue). HasGivenUp p c.loop.engine c.send_next.new.engine) same c.in_err-worker.ensures.given_up))

pub loop-preserved : goal.loop-preserved
loop-preserved c = (
  c.in_ok-worker.ensures.assignment ∙ c.loop.invariant.0,
  (let s = c.in_ok-worker.ensures.sent in let i = c.loop.invariant.1 in omega (arith, s, i)),
  at_least 1 0 c.args.engine.now c.send_next.new.engine (omega arith) (on_and_on 0 1 c.args.engine.now c.loop.engine c.send_next.new.engine c.loop.invariant.2 c.in_ok-worker.ensures.engine),
)
