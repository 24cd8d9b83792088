use Rattle.std.proofs.Common.{[], ap, sym, subst}
use Rattle.caches.specs.Held.{Entries}
use Rattle.engine.specs.Counting.{taken}
use Rattle.engine.specs.Settled.{IsSettled}
use Rattle.engine.specs.declared.queue_unit.QueueUnit.{QueueUnit}
use Rattle.engine.proofs.Settlings.{settled_empty}
use Rattle.transactions.specs.Tracking.{TrackingValue}
use Rattle.transactions.proofs.Covering.{none_tracked}
use Rattle.transactions.proofs.tracked_queue_unit.TrackedQueueUnit.new.Goals as goal

pub returns-clause-tracked : goal.returns-clause-tracked
returns-clause-tracked c =
    let queue = c.new-queue.result in
    none_tracked queue.unit c.in_ok-tracking.tracking c.args.room (ap (λ (q : QueueUnit). taken q.unit.counts) c.new-queue.ensures)
    (subst (λ (e : Entries). IsSettled e []) (sym (ap (λ (q : QueueUnit). q.unit.caches.entries) c.new-queue.ensures)) (subst (λ (e : Entries). IsSettled e []) (sym c.requires.empty) settled_empty))
    (ap (λ (t : TrackingValue). t.recent) c.in_ok-tracking.ensures) (ap (λ (t : TrackingValue). t.outstanding) c.in_ok-tracking.ensures)
