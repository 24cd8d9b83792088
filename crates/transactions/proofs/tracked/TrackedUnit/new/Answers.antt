use Rattle.std.proofs.Common.{ap}
use Rattle.engine.specs.Counting.{taken}
use Rattle.engine.specs.Units.{UnitValue}
use Rattle.transactions.specs.Tracking.{TrackingValue, tracked_with}
use Rattle.transactions.proofs.Covering.{none_tracked}
use Rattle.transactions.proofs.Together.{together_from_nothing}
use Rattle.transactions.proofs.tracked.TrackedUnit.new.Goals as goal

pub returns-clause-tracked : goal.returns-clause-tracked
returns-clause-tracked c =
    none_tracked c.new-unit.result c.in_ok-tracking.tracking c.args.room (ap (λ (u : UnitValue). taken u.counts) c.new-unit.ensures.unit) c.new-unit.ensures.settled
    (ap (λ (t : TrackingValue). t.recent) c.in_ok-tracking.ensures) (ap (λ (t : TrackingValue). t.outstanding) c.in_ok-tracking.ensures)

pub returns-clause-together : goal.returns-clause-together
returns-clause-together c =
    together_from_nothing (tracked_with c.new-unit.result c.in_ok-tracking.tracking) (returns-clause-tracked c) (ap (λ (u : UnitValue). u.stop.next) c.new-unit.ensures.unit)
