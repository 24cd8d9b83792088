use Rattle.std.proofs.Common.{[], Some, ap, subst, ◌∙◌}
use Rattle.transactions.specs.Tracking.{IsTracked}
use Rattle.transactions.specs.TrackedQueueUnits.{TrackedQueueValue, tracked_in}
use Rattle.smmuq_c.specs.declared.object.Object.TheVariants.{Unit as UnitOf}
use Rattle.smmuq_c.proofs.unit_calls.make_unit.Goals as goal

pub returns-in-Ok-new-2 : goal.returns-in-Ok-new-2
returns-in-Ok-new-2 c =
    let made = c.in-Ok-new.ensures in
    let e = made.unit in
    record {
      caches = c.in-Ok.caches;
      caches_are = c.in-Ok.ensures.ok;
      new_is = c.put.ensures ∙ ap Some (c.in-Ok-new-2.ensures.ok ∙ ap UnitOf e);
      tracked = subst (λ (q : TrackedQueueValue). IsTracked (tracked_in q) []) e made.tracked;
    }
