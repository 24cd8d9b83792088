use Rattle.std.proofs.Common.{[], length, sym, ap, subst}
use Rattle.caches.specs.Held.{Entries}
use Rattle.engine.specs.Counting.{taken}
use Rattle.engine.specs.Settled.{IsSettled}
use Rattle.engine.specs.declared.queue_unit.QueueUnit.{QueueUnit}
use Rattle.engine.proofs.Settlings.{settled_empty}
use Rattle.transactions.specs.Tracking.{TrackingValue}
use Rattle.transactions.proofs.Covering.{none_tracked}
use Rattle.transactions.proofs.tracked_queue_unit.TrackedQueueUnit.reset.Goals as goal

pub returns-clause-tracked : goal.returns-clause-tracked
returns-clause-tracked c =
    none_tracked c.reset.new.self.unit c.reset-2.new.self (length c.self.inside.tracking.outstanding) (ap (λ (q : QueueUnit). taken q.unit.counts) c.reset.ensures)
    (subst (λ (e : Entries). IsSettled e []) (sym (ap (λ (q : QueueUnit). q.unit.caches.entries) c.reset.ensures)) settled_empty)
    (ap (λ (t : TrackingValue). t.recent) c.reset-2.ensures) (ap (λ (t : TrackingValue). t.outstanding) c.reset-2.ensures)
