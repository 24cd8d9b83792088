use Rattle.std.proofs.Common.{length, refl, ap, ◌∙◌, arith}
use Rattle.engine.specs.Engines.{EngineValue}
use Rattle.renewal.proofs.Filling.{owned, none_filled, one_more_filled, not_filled, as_many, all_filled}
use Rattle.renewal.proofs.succession.carry.Goals as goal

pub returns-then-len-capacity-clause-uncarried : goal.returns-then-len-capacity-clause-uncarried
returns-then-len-capacity-clause-uncarried c =
    let listed = ap length c.in-Ok.ensures.ok in
    let held = as_many c.args.old.now.unit.caches.entries in
    omega (arith, listed, held)

pub loop-entry-init : goal.loop-entry-init
loop-entry-init c = record { consumer_is = refl; unit_is = none_filled _ _ _ _ c.requires }

pub loop-entry-preserved : goal.loop-entry-preserved
loop-entry-preserved c = record {
  consumer_is = c.fill.ensures.consumer ∙ c.loop-entry.invariant.consumer_is;
  unit_is = one_more_filled _ _ _ _ _ c.loop-entry.invariant.unit_is c.entry-item.result c.loop-entry-test.true c.entry-item.is
      (owned _ _ _ c.in-Ok.ensures.own c.deref-entry-items.ensures.value _ _ c.loop-entry-test.true c.entry-item.is) _ (ap (λ (e : EngineValue). e.unit) c.in-Ok-fill.ensures.ok);
}

pub returns-in-Err-fill-clause-uncarried : goal.returns-in-Err-fill-clause-uncarried
returns-in-Err-fill-clause-uncarried c =
    not_filled _ _ _ _ _ c.loop-entry.invariant.unit_is c.entry-item.result c.loop-entry-test.true c.entry-item.is
    (owned _ _ _ c.in-Ok.ensures.own c.deref-entry-items.ensures.value _ _ c.loop-entry-test.true c.entry-item.is)
    (let listed = ap length c.deref-entry-items.ensures.value in omega (arith, listed)) _ c.in-Err-fill.ensures.answer

pub returns-clause-carried : goal.returns-clause-carried
returns-clause-carried c =
    all_filled _ _ _ _ _ (c.deref-entry-items.ensures.value ∙ c.in-Ok.ensures.ok)
    (let most = c.loop-entry.auto.entry-index-end in let all = c.loop-entry-test.false in omega (arith, most, all))
    (let listed = ap length c.deref-entry-items.ensures.value in omega (arith, listed))
    c.loop-entry.invariant.unit_is
