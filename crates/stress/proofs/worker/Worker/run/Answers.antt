use Rattle.std.proofs.Common.{◌≡◌, ℕ, suc, ◌+◌, ◌∙◌, subst, arith}
use Rattle.stress.specs.Workers.{HasTriedTimes}
use Rattle.stress.proofs.worker.Worker.run.Goals as goal

pub loop-preserved : goal.loop-preserved
loop-preserved g c = record {
  same = c.try_next-next.ensures.assignment ∙ c.loop.invariant.same;
  tried =
      subst (λ (n : ℕ). HasTriedTimes n c.args.self c.try_next-next.result.0) (let e : suc c.loop.counter ≡ c.loop.counter + 1 = omega arith in e) (
        c.loop.worker,
        c.loop.invariant.tried,
        record {
          attempt = c.try_next-next.result.1;
          same = c.try_next-next.ensures.assignment;
          sent = c.try_next-next.ensures.sent;
          tried = c.try_next-next.ensures.tried;
        },
      );
}
