use Rattle.engine.specs.Counting.{taken}
use Rattle.engine.specs.declared.queue_unit.QueueUnit.{QueueUnit}
use Rattle.transactions.proofs.Covering.{kept_by}
use Rattle.transactions.proofs.Queued.{acknowledged_counts, queue_tracked}
use Rattle.transactions.proofs.tracked_queue_unit.TrackedQueueUnit.acknowledge.Goals as goal

pub returns-clause-tracked : goal.returns-clause-tracked
returns-clause-tracked c =
    queue_tracked c.args.self.now c.self.inside.queue c.self.inside.tracking c.self.inside.walks c.acknowledge.new.self.unit c.self.view_is
    (kept_by (λ (q : QueueUnit). taken q.unit.counts) c.acknowledge.result c.acknowledge.new.self _ c.self.inside.queue c.acknowledge.ensures.ok c.acknowledge.ensures.err
    (acknowledged_counts c.args.remedy c.self.inside.queue))
    c.acknowledge.ensures.settled
