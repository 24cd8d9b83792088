use Rattle.std.proofs.Common.{◌≡◌, List, Some, ap, sym, ◌∙◌, arith}
use Rattle.std.specs.Prelude.{slice_get}
use Rattle.cmdcodec.specs.declared.raw.Raw.{Raw}
use Rattle.engine.specs.Stops.{StopValue}
use Rattle.engine.proofs.Judging.{not_stopped, any_next}
use Rattle.engine.proofs.Stepping.{applied_more}
use Rattle.engine.proofs.Running.{none_behind}
use Rattle.transactions.proofs.TrackedRuns.{next_applied, next_tracked}
use Rattle.transactions.proofs.tracked_run.apply_ready.Goals as goal

pub loop-count-preserved : goal.loop-count-preserved
loop-count-preserved c =
    let raws : List Raw = c.args.run.now.raws in
    let place = c.loop-count.count in
    let i = c.loop-count.invariant in
    let one = c.in-Some.ensures.0.1 in
    let at : slice_get raws place ≡ Some c.unwrap.result = sym c.get.ensures ∙ c.unwrap.ensures in
    let few = i.few in
    let one_few = one.judged.few in
    let counted = i.counted in
    let more = applied_more _ _ _ _ _ one.judged in
    record {
      applied = next_applied raws place c.unwrap.result at c.args.tracked.now _ c.apply.new.self _ _ _ i.applied one;
      few = omega (arith, few, one_few);
      running = not_stopped _ (ap (λ (s : StopValue). s.mode) one.judged.stop);
      next = λ raw there. any_next c.apply.new.self.unit.stop raw (ap (λ (s : StopValue). s.next) one.judged.stop);
      counted = omega (arith, counted, more);
      tracked = next_tracked raws place c.unwrap.result at c.args.tracked.now _ c.apply.new.self i.tracked c.in-Some.ensures.1;
    }

pub returns-clause-longest : goal.returns-clause-longest
returns-clause-longest c raw at = none_behind c.args.run.now.raws c.len.result raw c.len.ensures.value at
