use Rattle.std.proofs.Common.{◌≡◌, ◌+◌, List, Some, ap, sym, subst, ◌∙◌, arith}
use Rattle.std.specs.Prelude.{slice_get}
use Rattle.cmdcodec.specs.declared.raw.Raw.{Raw}
use Rattle.engine.specs.Stops.{StopValue}
use Rattle.engine.specs.Units.{AreApplied}
use Rattle.engine.proofs.Judging.{not_stopped, any_next}
use Rattle.engine.proofs.Stepping.{applied_more}
use Rattle.engine.proofs.Running.{one_more, take_one_more, none_behind}
use Rattle.engine.proofs.engine.run_stepping.apply_legal.Goals as goal

pub loop-count-preserved : goal.loop-count-preserved
loop-count-preserved c =
    let raws : List Raw = c.args.run.now.raws in
    let i = c.loop-count.invariant in
    let one = c.in-Some.ensures.applied.1 in
    let at : slice_get raws c.loop-count.count ≡ Some c.unwrap.result = sym c.get.ensures ∙ c.unwrap.ensures in
    let few = i.few in
    let one_few = one.few in
    let counted = i.counted in
    let more = applied_more _ _ _ _ _ one in
    record {
      applied = subst (λ (xs : List Raw). AreApplied xs (c.loop-count.removed + c.in-Some.more) c.args.unit.now c.apply_words.new.self)
          (sym (take_one_more raws c.loop-count.count c.unwrap.result at)) (one_more _ _ _ _ _ i.applied _ _ _ one);
      few = omega (arith, few, one_few);
      running = not_stopped _ (ap (λ (s : StopValue). s.mode) one.stop);
      next = λ raw there. any_next c.apply_words.new.self.stop raw (ap (λ (s : StopValue). s.next) one.stop);
      counted = omega (arith, counted, more);
    }

pub returns-clause-longest : goal.returns-clause-longest
returns-clause-longest c raw at = none_behind c.args.run.now.raws c.len.result raw c.len.ensures.value at
