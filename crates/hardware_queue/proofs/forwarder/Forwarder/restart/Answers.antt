use Rattle.hardware_queue.proofs.Restarts.{restarted_still, known_still}
use Rattle.hardware_queue.proofs.forwarder.Forwarder.restart.Goals as goal

pub invariant_of-self : goal.invariant_of-self
invariant_of-self g c = (
  restarted_still _ _ (c.restart.ensures.restarted.0) _ _ c.self.inside.consumer c.self.inside.flight c.self.inside.lost (c.restart.ensures.restarted.1) c.restart.ensures.running c.self.invariant.0,
  known_still (g.Q.CommandQueue.queue c.self.inside.owner.queue) _ (c.restart.ensures.restarted.0) _ _ c.self.inside.fates (c.restart.ensures.restarted.1) c.self.invariant.1,
)
