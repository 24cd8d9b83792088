use Rattle.std.proofs.Common.{ap, sym, subst, ◌∙◌}
use Rattle.engine.specs.Counting.{taken}
use Rattle.engine.specs.Units.{UnitValue}
use Rattle.transactions.specs.Tracking.{TrackedValue, tracked_with, IsTracked}
use Rattle.transactions.proofs.Covering.{unit_tracked}
use Rattle.transactions.proofs.Together.{stays_together}
use Rattle.transactions.proofs.tracked.TrackedUnit.evict_all.Goals as goal

pub returns-clause-tracked : goal.returns-clause-tracked
returns-clause-tracked g c list is =
    let before = subst (λ (t : TrackedValue). IsTracked t list) (sym c.self.view_is) is in
    unit_tracked (tracked_with c.self.inside.unit c.self.inside.tracking) c.evict_all.new.self list before
    (ap (λ (u : UnitValue). taken u.counts) c.evict_all.ensures.lost.new_is) c.evict_all.ensures.settled

pub returns-clause-together : goal.returns-clause-together
returns-clause-together g c =
    stays_together c.args.self.now (tracked_with c.evict_all.new.self c.self.inside.tracking)
    (returns-clause-tracked g c) (ap (λ (u : UnitValue). u.stop.next) c.evict_all.ensures.lost.new_is ∙ ap (λ (t : TrackedValue). t.unit.stop.next) c.self.view_is)
