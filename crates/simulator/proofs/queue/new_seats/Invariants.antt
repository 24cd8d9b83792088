use Rattle.simulator.specs.queue.{AreNew}
use Rattle.simulator.proofs.queue.new_seats.Given as goal

abbrev pub invariant-loop-sender : goal.invariant-loop-sender
invariant-loop-sender l = AreNew l.sender l.seats.items
