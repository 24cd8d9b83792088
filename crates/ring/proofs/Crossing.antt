-- A consumer may move to another thread, whatever its device is: what it keeps of it has no bytes. A ring may
-- be shared.
use denote.RattleType.{RattleType}
use denote.Param.Send.{IsSend, IsSync, sendable}
use Rattle.std.proofs.Crossing.{crosses, send, sync}
use Rattle.atomic_table.proofs.shared.Seat.TheSendSync.{the_send as seat_send}
use Rattle.atomic_table.proofs.shared.Shared.TheSendSync.{the_sync as shared_sync}
use Rattle.atomic_table.proofs.send_lease.SendLease.TheSendSync.{the_sync as lease_sync}
use Rattle.ring.specs.declared.device.Device.{Ghosts}
use Rattle.ring.specs.contracts.consumer.Consumer.{the_row}
use Rattle.ring.specs.contracts.consumer.pending_consumer.PendingConsumer as PendingConsumer
use Rattle.ring.specs.contracts.ring.Ring as Ring

pub consumer_send : (D : RattleType) (g : Ghosts D.Denot) → IsSend (the_row D g)
consumer_send D g = search (sendable, crosses, seat_send) depth 40

pub pending_send : (D : RattleType) (g : Ghosts D.Denot) → IsSend (PendingConsumer.the_row D g)
pending_send D g = search (sendable, crosses, seat_send, consumer_send) depth 60 fits 100000

pub ring_sync : IsSync Ring.the_row
ring_sync = search (sendable, send, sync, crosses, shared_sync, lease_sync) depth 60 fits 100000
