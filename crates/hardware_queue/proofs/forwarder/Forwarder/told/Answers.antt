use Rattle.hardware_queue.specs.Queues.{QueueValue}
use Rattle.hardware_queue.proofs.Forwards.{settled_of, met_still}
use Rattle.hardware_queue.proofs.FateLemmas.{known_met}
use Rattle.hardware_queue.proofs.Orders.{in_order}
use Rattle.hardware_queue.proofs.Telling.{told_all_truly}
use Rattle.hardware_queue.proofs.forwarder.Forwarder.told.Goals as goal

pub returns-clause-told : goal.returns-clause-told
returns-clause-told g c =
    let q : QueueValue = g.Q.CommandQueue.queue c.self.inside.owner.queue in
    told_all_truly c.counts_law.ensures.words c.consumer_trail.ensures.advanced c.consumer_trail.ensures.taken _ _ _ (g.Q.CommandQueue.has_effect c.self.inside.owner.queue) q
    c.meet.ensures.of_consumer.stands.after.run_is c.self.invariant.0.syncs (settled_of q _ _ _ c.self.invariant.0.in_flight) c.syncs_complete.ensures _ _ c.meet.ensures.told

pub returns-clause-order : goal.returns-clause-order
returns-clause-order g c =
    let q : QueueValue = g.Q.CommandQueue.queue c.self.inside.owner.queue in
    in_order c.world_law.ensures.taken c.consumer_trail.ensures.advanced q _ _ _ c.meet.ensures.of_consumer c.self.invariant.0.in_flight.shown

pub invariant_of-self : goal.invariant_of-self
invariant_of-self g c =
    let q : QueueValue = g.Q.CommandQueue.queue c.self.inside.owner.queue in
    let is = c.self.invariant.0 in (
      record {
        in_flight = met_still q _ c.self.inside.consumer _ _ is.in_flight c.meet.ensures.consumer c.meet.ensures.settled;
        syncs = is.syncs;
        lost_are = is.lost_are;
      },
      known_met q.lost c.self.inside.consumer c.meet.new.self c.self.inside.fates c.self.invariant.1 c.meet.ensures.consumer c.meet.ensures.settled,
    )
