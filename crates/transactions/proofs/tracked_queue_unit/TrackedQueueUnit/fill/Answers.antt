use Rattle.std.proofs.Common.{refl}
use Rattle.engine.specs.Counting.{taken}
use Rattle.engine.specs.Units.{UnitValue}
use Rattle.transactions.proofs.Covering.{kept_by}
use Rattle.transactions.proofs.Queued.{queue_tracked}
use Rattle.transactions.proofs.tracked_queue_unit.TrackedQueueUnit.fill.Goals as goal

pub returns-clause-tracked : goal.returns-clause-tracked
returns-clause-tracked c =
    queue_tracked c.args.self.now c.self.inside.queue c.self.inside.tracking c.self.inside.walks c.fill.new.self c.self.view_is
    (kept_by (λ (u : UnitValue). taken u.counts) c.fill.result c.fill.new.self _ c.self.inside.queue.unit c.fill.ensures.ok c.fill.ensures.err refl) c.fill.ensures.settled
