use Rattle.std.proofs.Common.{rules, refl, sym, subst, inr}
use Rattle.engine.specs.Stops.{IsStopped, MayComeNext}
use Rattle.transactions.specs.Tracking.{IsTracked}
use Rattle.transactions.specs.TrackedVerdicts.{took_by}
use Rattle.trace.specs.declared.request.Request.TheVariants.{Command as CommandOf}
use Rattle.trace.specs.Serving.{Serves}
use Rattle.trace.specs.Traces.{TraceValue}
use Rattle.trace.proofs.Slots.{judged}
use Rattle.trace.proofs.state.Trace.command.Goals as goal

pub invariant_of-self : goal.invariant_of-self
invariant_of-self c = judged c.args.raw c.self.inside.unit c.judge.new.self c.judge.result c.self.inside.accesses.items c.judge.ensures.judged c.self.invariant

pub returns : goal.returns
returns c taken is =
    let new : TraceValue = record { unit = c.judge.new.self; walks = c.self.inside.walks.items; accesses = c.self.inside.accesses.items; right = c.self.inside.right } in
    let tracked = subst (λ (t : TraceValue). IsTracked t.unit taken) (sym c.self.view_is) is in
    let running : ¬ IsStopped c.self.inside.unit.unit.stop.mode = search rules in
    let next : MayComeNext c.args.raw c.self.inside.unit.unit.stop = search rules in
    subst (λ (old : TraceValue). Serves taken (CommandOf c.args.raw) old c.reply_of.result new) c.self.view_is
    (record {
      more = took_by c.args.raw c.judge.result;
      served = inr (record {
        running = running;
        next = next;
        verdict = c.judge.result;
        said_is = c.reply_of.ensures;
        judged = c.judge.ensures.judged;
        waits = c.judge.ensures.waits taken tracked;
        more_are = refl;
        new_is = refl;
      });
      tracked = c.judge.ensures.tracked taken tracked;
    })
