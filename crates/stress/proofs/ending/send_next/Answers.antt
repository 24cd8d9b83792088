use Rattle.std.proofs.Common.{rules, ◌≡◌, ℕ, suc, ◌+◌, sym, ap, ◌∙◌, subst, arith}
use Rattle.std.proofs.lemmas.Grind.{common_steps}
use Rattle.qindex.specs.Positions.{size}
use Rattle.stress.specs.Plans.{body, closes}
use Rattle.stress.specs.Workers.{WorkerValue, Assignment, IsOnPlan}
use Rattle.ring.specs.sender.Reserving.{IsRefused}
use Rattle.stress.specs.EngineTurns.{HasTurned, IsBusy, HasDrained, AreRefused, HasGivenUp, undrained, refused, most_tries}
use Rattle.stress.proofs.Turns.{still, at_least, on_and_on, one_more_refused, refused_try, when_err}
use Rattle.stress.proofs.ending.send_next.Goals as goal

pub returns-in_err-drain-clause-given_up : goal.returns-in_err-drain-clause-given_up
returns-in_err-drain-clause-given_up c =
    when_err c.from_residual.result (HasGivenUp c.args.worker.plan c.args.engine.now c.drain.new.engine)
    (undrained c.loop.engine (at_least c.loop.counter 0 c.args.engine.now c.loop.engine (omega arith) c.loop.invariant.goes_on)
    (subst (λ (n : ℕ). HasTurned IsBusy (n + 1) c.loop.engine c.drain.new.engine) (c.slots-slots.ensures ∙ ap (λ (w : WorkerValue). size w.plan.log2) c.worker.view_is) c.in_err-drain.ensures.undrained))

pub returns-then-is_sent-clause-engine : goal.returns-then-is_sent-clause-engine
returns-then-is_sent-clause-engine c =
    at_least (c.loop.counter + 1) 1 c.args.engine.now c.drain.new.engine (omega arith)
    (on_and_on c.loop.counter 1 c.args.engine.now c.loop.engine c.drain.new.engine c.loop.invariant.goes_on c.drain.ensures.goes_on)

pub loop-preserved : goal.loop-preserved
loop-preserved c = record {
  same = c.try_next-next.ensures.assignment ∙ c.loop.invariant.same;
  sent = first_of (search rules, grind (arith, common_steps));
  goes_on = on_and_on c.loop.counter 1 c.args.engine.now c.loop.engine c.drain.new.engine c.loop.invariant.goes_on c.drain.ensures.goes_on;
  refused =
      one_more_refused (size c.args.worker.plan.log2) (body c.args.worker.plan c.args.worker.sender.number (suc c.args.worker.sent)) (closes c.args.worker.plan (suc c.args.worker.sent))
      c.loop.counter c.args.worker.sender c.loop.worker.sender c.try_next-next.result.0.sender c.args.engine.now c.loop.engine c.drain.new.engine c.loop.invariant.refused
      (
      let unsuccessful = refused_try c.loop.worker c.try_next-next.result.0 c.try_next-next.result.1 (sym c.if-is_sent.ensures) c.try_next-next.ensures.tried in
      record {
        found = c.in_ok-drain.field-0;
        drained =
            subst (λ (n : ℕ). HasDrained n c.in_ok-drain.field-0 c.loop.engine c.drain.new.engine)
            (c.slots-slots.ensures ∙ ap (λ (w : WorkerValue). size w.plan.log2) c.worker.view_is) c.in_ok-drain.ensures.found;
        cause = unsuccessful.0;
        refused =
            subst (λ (x : Assignment × ℕ). IsRefused (body x.0.plan x.0.number (suc x.1)) (closes x.0.plan (suc x.1)) c.loop.worker.sender unsuccessful.0 c.try_next-next.result.0.sender)
            (λ k. (c.loop.invariant.same k, c.loop.invariant.sent k)) unsuccessful.1;
      }
      );
}

pub returns-clause-given_up : goal.returns-clause-given_up
returns-clause-given_up c =
    let all : c.loop.counter ≡ most_tries = omega arith in
    refused c.args.engine.now (still c.args.engine.now) (record {
      sent = c.args.worker.sent;
      before = c.args.worker.sender;
      after = c.loop.worker.sender;
      on_plan = subst (λ (w : WorkerValue). IsOnPlan w.plan w.sender w.sent) c.worker.view_is c.worker.invariant;
      ring_is = c.requires.ring ∙ sym c.requires.engine;
      refused =
          subst
          (λ (n : ℕ). AreRefused (size c.args.worker.plan.log2) (body c.args.worker.plan c.args.worker.sender.number (suc c.args.worker.sent)) (closes c.args.worker.plan (suc c.args.worker.sent)) n
          c.args.worker.sender c.loop.worker.sender c.args.engine.now c.loop.engine) all c.loop.invariant.refused;
    })
