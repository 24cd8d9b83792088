use Rattle.std.proofs.Common.{sym, subst, ◌+◌}
use Rattle.simulator.specs.declared.queue.Seat.TheVariants.{Idle}
use Rattle.simulator.specs.queue.{AreNew}
use Rattle.simulator.proofs.SeatLemmas.{new_seat, one_more_seat}
use Rattle.simulator.proofs.queue.new_seats.Goals as goal

pub loop-sender-preserved : goal.loop-sender-preserved
loop-sender-preserved c =
    subst (AreNew (c.loop-sender.sender + 1)) (sym c.in_ok-push.ensures.items)
    (one_more_seat c.loop-sender.sender c.loop-sender.seats.items (Idle c.new.result) c.loop-sender.invariant (new_seat c.loop-sender.sender c.new.result c.new.ensures.number c.new.ensures.idle))
