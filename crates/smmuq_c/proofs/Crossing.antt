-- What a handle owns may go to another thread.
use denote.Param.Send.{IsSend, param_send, sendable}
use Rattle.std.proofs.Crossing.{crosses, frees, send, sync}
use Rattle.circular_buffer.proofs.cells.Cells.TheSendSync.{the_send as cells_send}
use Rattle.circular_buffer.proofs.cells.Deed.TheSendSync.{the_send as deed_send}
use Rattle.atomic_table.proofs.shared.Seat.TheSendSync.{the_send as seat_send}
use Rattle.atomic_table.proofs.shared.Shared.TheSendSync.{the_send as shared_send, the_sync as shared_sync}
use Rattle.atomic_table.proofs.send_lease.SendLease.TheSendSync.{the_send as lease_send, the_sync as lease_sync}
use Rattle.ring.proofs.Crossing.{pending_send, ring_sync}
use Rattle.ring.specs.contracts.ring.Ring as Ring
use Rattle.engine.proofs.Crossing.{engine_send}
use Rattle.transactions.proofs.Crossing.{tracked_queue_unit_send}
use Rattle.smmuq_c.specs.contracts.seated_sender.SeatedSender as SeatedSender
use Rattle.smmuq_c.specs.contracts.seated_reservation.SeatedReservation as SeatedReservation
use Rattle.smmuq_c.specs.contracts.seated_engine.SeatedEngine as SeatedEngine
use Rattle.smmuq_c.specs.contracts.seated_consumer.SeatedConsumer as SeatedConsumer
use Rattle.smmuq_c.specs.contracts.seated_forwarder.SeatedForwarder as SeatedForwarder
use Rattle.smmuq_c.specs.contracts.object.Object as Object
use denote.RattleType.{RattleType}
use Rattle.ring.specs.declared.device.Device.{Ghosts}
use Rattle.ring.specs.contracts.consumer.deferring_consumer.DeferringConsumer as DeferringConsumer
use Rattle.shadow_queue.specs.contracts.shadow_queue.ShadowQueue as ShadowQueue
use Rattle.shadow_queue.specs.contracts.shadow_queue.ShadowQueueCommandQueue.TheImpl as Queue
use Rattle.hardware_queue.specs.contracts.forwarder.Forwarder as Forwarder
use Rattle.hardware_queue.specs.contracts.fates.Fates as Fates
use Rattle.hardware_queue.specs.contracts.flight.Flight as Flight
use Rattle.hardware_queue.specs.contracts.owner.Owner as Owner

pub ring_send : IsSend Ring.the_row
ring_send = search (sendable, send, sync, crosses, shared_send, shared_sync, lease_send, lease_sync) depth 60 fits 100000

pub sender_send : IsSend SeatedSender.the_row
sender_send = search (sendable, crosses, send, sync, seat_send, ring_send, ring_sync) depth 60 fits 100000

pub reservation_send : IsSend SeatedReservation.the_row
reservation_send = search (sendable, crosses, send, sync, seat_send, ring_send, ring_sync) depth 60 fits 100000

pub seated_send : IsSend SeatedEngine.the_row
seated_send = search (sendable, crosses, send, sync, engine_send, ring_send, ring_sync) depth 60 fits 100000

pub taker_send : IsSend SeatedConsumer.the_row
taker_send = search (sendable, crosses, send, sync, pending_send, ring_send, ring_sync) depth 60 fits 100000

pub deferring_send : (D : RattleType) (g : Ghosts D.Denot) → IsSend (DeferringConsumer.the_row D g)
deferring_send D g = search (sendable, crosses, seat_send) depth 60 fits 100000

pub shadow_send : IsSend ShadowQueue.the_row
shadow_send = search (sendable, crosses) depth 60 fits 100000

pub owner_send : IsSend (Owner.the_row ShadowQueue.the_row Queue.ghosts)
owner_send = search (sendable, crosses, param_send, shadow_send) depth 60 fits 200000

pub flight_send : IsSend Flight.the_row
flight_send = search (sendable, crosses, frees, cells_send, deed_send) depth 60 fits 200000

pub fates_send : IsSend Fates.the_row
fates_send = search (sendable, crosses) depth 60 fits 200000

pub forwarder_send : IsSend (Forwarder.the_row ShadowQueue.the_row Queue.ghosts)
forwarder_send = search (sendable, crosses, param_send, deferring_send, owner_send, flight_send, fates_send) depth 60 fits 200000

pub forwarding_send : IsSend SeatedForwarder.the_row
forwarding_send = search (sendable, crosses, send, sync, forwarder_send, ring_send, ring_sync) depth 60 fits 100000

pub object_send : IsSend Object.the_row
object_send = search (sendable, crosses, tracked_queue_unit_send, sender_send, reservation_send, seated_send, taker_send, forwarding_send) depth 60 fits 100000
