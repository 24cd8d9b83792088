use Rattle.ring.specs.table.{writes}
use Rattle.ring.proofs.sender.open_reservation.OpenReservation.write_next.Given as goal

abbrev pub ghosts-write : goal.ghosts-write
ghosts-write g a = record { intent = writes a.offset a.half }
