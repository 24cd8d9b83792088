use Rattle.std.proofs.Common.{ap}
use Rattle.engine.specs.Counting.{taken}
use Rattle.engine.specs.Units.{UnitValue}
use Rattle.transactions.proofs.Queued.{queue_tracked}
use Rattle.transactions.proofs.tracked_queue_unit.TrackedQueueUnit.evict.Goals as goal

pub returns-clause-tracked : goal.returns-clause-tracked
returns-clause-tracked c =
    queue_tracked c.args.self.now c.self.inside.queue c.self.inside.tracking c.self.inside.walks c.evict.new.self c.self.view_is (ap (λ (u : UnitValue). taken u.counts) c.evict.ensures.new) c.evict.ensures.settled
