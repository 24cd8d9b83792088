use Rattle.ring.specs.table.{flips}
use Rattle.ring.proofs.sender.open_reservation.OpenReservation.flip_next.Given as goal

abbrev pub ghosts-flip : goal.ghosts-flip
ghosts-flip g a = record { intent = flips a.offset a.count }
