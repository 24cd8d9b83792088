use Rattle.std.proofs.Common.{ap, sym, subst, ◌∙◌}
use Rattle.engine.specs.Counting.{taken}
use Rattle.engine.specs.Units.{UnitValue}
use Rattle.transactions.specs.Tracking.{TrackedValue, tracked_with, IsTracked}
use Rattle.transactions.proofs.Covering.{unit_tracked}
use Rattle.transactions.proofs.Together.{stays_together}
use Rattle.transactions.proofs.tracked.TrackedUnit.evict_older.Goals as goal

pub returns-clause-tracked : goal.returns-clause-tracked
returns-clause-tracked c list is =
    let before = subst (λ (t : TrackedValue). IsTracked t list) (sym c.self.view_is) is in
    unit_tracked (tracked_with c.self.inside.unit c.self.inside.tracking) c.evict_older.new.self list before
    (ap (λ (u : UnitValue). taken u.counts) c.evict_older.ensures.lost.new_is) c.evict_older.ensures.settled

pub returns-clause-together : goal.returns-clause-together
returns-clause-together c =
    stays_together c.args.self.now (tracked_with c.evict_older.new.self c.self.inside.tracking)
    (returns-clause-tracked c) (ap (λ (u : UnitValue). u.stop.next) c.evict_older.ensures.lost.new_is ∙ ap (λ (t : TrackedValue). t.unit.stop.next) c.self.view_is)
