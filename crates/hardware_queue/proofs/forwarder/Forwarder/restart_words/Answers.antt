use Rattle.hardware_queue.proofs.Restarts.{restarted_still, known_still}
use Rattle.hardware_queue.proofs.forwarder.Forwarder.restart_words.Goals as goal

pub invariant_of-self : goal.invariant_of-self
invariant_of-self g c = (
  restarted_still _ _ (c.args.gerrorn) _ _ c.self.inside.consumer c.self.inside.flight c.self.inside.lost (c.restart_with.ensures.restarted.restarted) c.restart_with.ensures.running c.self.invariant.0,
  known_still (g.Q.CommandQueue.queue c.self.inside.owner.queue) _ (c.args.gerrorn) _ _ c.self.inside.fates (c.restart_with.ensures.restarted.restarted) c.self.invariant.1,
)
