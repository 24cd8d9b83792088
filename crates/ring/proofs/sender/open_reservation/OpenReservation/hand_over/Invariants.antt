use Rattle.std.proofs.Common.{[], ◌≡◌}
use Rattle.ring.specs.Runs.{Sender}
use Rattle.ring.specs.table.{Grew}
use Rattle.ring.specs.sender.{wrote_many}
use Rattle.ring.proofs.sender.open_reservation.OpenReservation.hand_over.Given as goal

abbrev pub invariant-loop-done : goal.invariant-loop-done
invariant-loop-done g l = record {
  is : record l.reservation { history = [] } ≡ wrote_many l.done (record l.fn.self { history = [] });
  history : Grew (Sender l.fn.self.sender) l.fn.self.trail l.reservation.trail l.fn.self.history l.reservation.history;
}
