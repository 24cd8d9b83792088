-- A tracked unit may move to another thread.
use denote.Param.Send.{IsSend, sendable}
use Rattle.std.proofs.Crossing.{crosses, frees}
use Rattle.circular_buffer.proofs.cells.Cells.TheSendSync.{the_send as cells_send}
use Rattle.circular_buffer.proofs.cells.Deed.TheSendSync.{the_send as deed_send}
use Rattle.caches.proofs.Crossing.{caches_send}
use Rattle.transactions.specs.contracts.outstanding.OutstandingTransactions as Outstanding
use Rattle.transactions.specs.contracts.recent_invalidations.RecentInvalidations as Recent
use Rattle.transactions.specs.contracts.tracked.TrackedUnit as TrackedUnit
use Rattle.transactions.specs.contracts.tracked_queue_unit.TrackedQueueUnit as TrackedQueueUnit
use Rattle.transactions.specs.contracts.tracking.Tracking as Tracking

recent_send : IsSend Recent.the_row
recent_send = search (sendable, crosses, frees, cells_send, deed_send) depth 60 fits 200000

outstanding_send : IsSend Outstanding.the_row
outstanding_send = search (sendable, crosses) depth 60 fits 200000

tracking_send : IsSend Tracking.the_row
tracking_send = search (sendable, crosses, recent_send, outstanding_send) depth 60 fits 200000

pub tracked_unit_send : IsSend TrackedUnit.the_row
tracked_unit_send = search (sendable, crosses, caches_send, tracking_send) depth 60 fits 200000

pub tracked_queue_unit_send : IsSend TrackedQueueUnit.the_row
tracked_queue_unit_send = search (sendable, crosses, caches_send, tracking_send) depth 60 fits 200000
