use Rattle.hardware_queue.proofs.Forwards.{settled_of}
use Rattle.hardware_queue.proofs.Orders.{in_order}
use Rattle.hardware_queue.proofs.forwarder.Forwarder.poll.Goals as goal

pub returns-clause-polled : goal.returns-clause-polled
returns-clause-polled g c = rw (← c.self.view_is) c.poll_with-found.ensures.polled

pub returns-clause-order : goal.returns-clause-order
returns-clause-order g c =
    in_order c.world_law.ensures.taken c.consumer_trail.ensures.advanced (g.Q.CommandQueue.queue c.poll_with-found.new.owner.queue) _ _ _ c.trail_stands_in_a_run.ensures.history c.poll_with-found.ensures.flight.shown

pub returns-clause-consumed : goal.returns-clause-consumed
returns-clause-consumed g c = settled_of (g.Q.CommandQueue.queue c.poll_with-found.new.owner.queue) _ _ _ c.poll_with-found.ensures.flight
