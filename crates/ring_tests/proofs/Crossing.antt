-- A reservation that borrows no batch may go to another thread.
use denote.RattleType.{RattleType}
use denote.Param.Send.{IsSend, sendable}
use Rattle.std.proofs.Crossing.{crosses}
use Rattle.atomic_table.proofs.shared.Seat.TheSendSync.{the_send as seat_send}
use Rattle.ring.specs.declared.sender.batch_kind.BatchKind as kind
use Rattle.ring.specs.contracts.sender.unbound_reservation.UnboundReservation as UnboundReservation

pub unbound_send : (K : RattleType) (g : kind.Ghosts K.Denot) → IsSend (UnboundReservation.the_row K g)
unbound_send K g = search (sendable, crosses, seat_send) depth 60
