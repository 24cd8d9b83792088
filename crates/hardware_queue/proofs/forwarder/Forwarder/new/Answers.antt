use Rattle.hardware_queue.proofs.Forwards.{forwarder_begins}
use Rattle.hardware_queue.proofs.FateLemmas.{known_begins}
use Rattle.hardware_queue.proofs.forwarder.Forwarder.new.Goals as goal

pub invariant_of-result : goal.invariant_of-result
invariant_of-result g c = (
  forwarder_begins (g.Q.CommandQueue.queue c.args.owner.queue) _ c.args.consumer _ _ _ c.new-3.ensures c.requires.taken c.requires.shown c.requires.consumed c.requires.lost c.slots.ensures.value c.in_ok-flight.ensures,
  known_begins _ c.args.consumer _ c.args.senders _ c.requires.lost c.requires.taken c.new-3.ensures c.requires.senders c.in_ok-fates.ensures,
)
