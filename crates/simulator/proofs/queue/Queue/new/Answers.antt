use Rattle.simulator.proofs.SeatLemmas.{new_queue}
use Rattle.simulator.proofs.queue.Queue.new.Goals as goal

pub invariant_of-queue : goal.invariant_of-queue
invariant_of-queue c = new_queue c.args.log2 c.args.senders c.args.max_batches c.in_ok-ring.ring c.in_ok-ring.keeper c.in-Ok.seats.items c.in_ok-ring.ensures.made.made_is c.in_ok-ring.ensures.made.keeper_is c.in-Ok.ensures
