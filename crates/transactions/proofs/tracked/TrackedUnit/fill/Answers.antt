use Rattle.std.proofs.Common.{refl, ap, sym, subst, ◌∙◌}
use Rattle.engine.specs.Counting.{taken}
use Rattle.engine.specs.Units.{UnitValue}
use Rattle.transactions.specs.Tracking.{TrackedValue, tracked_with, IsTracked}
use Rattle.transactions.proofs.Covering.{unit_tracked, kept_by}
use Rattle.transactions.proofs.Together.{stays_together}
use Rattle.transactions.proofs.tracked.TrackedUnit.fill.Goals as goal

pub returns-clause-tracked : goal.returns-clause-tracked
returns-clause-tracked c list is =
    let before = subst (λ (t : TrackedValue). IsTracked t list) (sym c.self.view_is) is in
    unit_tracked (tracked_with c.self.inside.unit c.self.inside.tracking) c.fill.new.self list before
    (kept_by (λ (u : UnitValue). taken u.counts) c.fill.result c.fill.new.self _ c.self.inside.unit c.fill.ensures.ok c.fill.ensures.err refl) c.fill.ensures.settled

pub returns-clause-together : goal.returns-clause-together
returns-clause-together c =
    stays_together c.args.self.now (tracked_with c.fill.new.self c.self.inside.tracking)
    (returns-clause-tracked c)
    (kept_by (λ (u : UnitValue). u.stop.next) c.fill.result c.fill.new.self _ c.self.inside.unit c.fill.ensures.ok c.fill.ensures.err refl ∙ ap (λ (t : TrackedValue). t.unit.stop.next) c.self.view_is)
