use Rattle.std.proofs.Common.{List, sym, subst}
use Rattle.ring.specs.Runs.{Raw}
use Rattle.simulator.specs.declared.queue.Queue.TheInside.{Inside}
use Rattle.simulator.specs.declared.queue.Seat.TheVariants.{Idle, Open}
use Rattle.simulator.specs.queue.{IsIdleSeat, IsOpenSeat, IsQueue}
use Rattle.simulator.proofs.SeatLemmas.{queue_in, seat_at, is_queue_after}
use Rattle.simulator.proofs.queue.Queue.reserve.Goals as goal
use Rattle.simulator.proofs.queue.Queue.reserve.Goals.{in-Ok, in-Err}

its_seat : (c : goal.Joined-try_once) → IsIdleSeat c.args.self.now.keeper c.args.sender c.idle_in-idle.result
its_seat c = seat_at c.self.inside c.args.self.now c.args.sender c.index.result.now (Idle c.idle_in-idle.result) c.self.view_is c.self.invariant c.requires.known c.index.ensures c.idle_in-idle.ensures

pub invariant_of-self : goal.invariant_of-self
invariant_of-self c = elim c.match-try_once.branch [
  | in-Ok w ↦ subst (λ (q : Inside). IsQueue q.ring (queue_in q)) (sym w.self-inside-is)
      (is_queue_after c.self.inside c.args.self.now c.args.sender c.idle_in-idle.result.sender c.try_once.new.keeper (Open w.in-Ok.idle c.args.batch)
      c.self.view_is c.self.invariant c.requires.known (its_seat c).sender_is w.in-Ok.ensures.back
      (subst (λ (body : List Raw). IsOpenSeat c.try_once.new.keeper c.idle_in-idle.result.sender body w.in-Ok.idle) c.as_borrowed.ensures w.in-Ok.ensures.tried.seat))
  | in-Err w ↦ subst (λ (q : Inside). IsQueue q.ring (queue_in q)) (sym w.self-inside-is)
      (is_queue_after c.self.inside c.args.self.now c.args.sender c.idle_in-idle.result.sender c.try_once.new.keeper _
      c.self.view_is c.self.invariant c.requires.known (its_seat c).sender_is w.in-Err.ensures.back w.in-Err.ensures.tried.seat)
]
