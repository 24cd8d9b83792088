use Rattle.hardware_queue.specs.Queues.{QueueValue}
use Rattle.hardware_queue.proofs.Forwards.{settled_of}
use Rattle.hardware_queue.proofs.Orders.{in_order_once_taken}
use Rattle.hardware_queue.proofs.Telling.{told_all_truly}
use Rattle.hardware_queue.proofs.forwarder.Forwarder.finish.Goals as goal

pub returns-clause-end : goal.returns-clause-end
returns-clause-end g c =
    let q : QueueValue = g.Q.CommandQueue.queue c.self.inside.owner.queue in
    let end = c.finish.ensures in
    let kept = c.self.invariant.0.in_flight in
    rw (← c.self.view_is) (record {
      end_is = end;
      order = in_order_once_taken q end.end_is.run c.self.inside.consumer.consumer.trail kept.shown end.end_is.taken_in_order;
      told = λ k s at.
          told_all_truly c.counts_law.ensures.words c.consumer_trail.ensures.advanced c.consumer_trail.ensures.taken _ end.end_is.run _ (g.Q.CommandQueue.has_effect c.self.inside.owner.queue) q
          end.end_is.run_of.run_is c.self.invariant.0.syncs (settled_of q _ _ _ kept) c.syncs_complete.ensures k s.trail (end.settled k s at);
    })
