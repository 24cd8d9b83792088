use denote.Param.Send.{sendable}
use Rattle.std.proofs.Crossing.{crosses}
use Rattle.ring.proofs.Crossing.{ring_sync}
use Rattle.ring_tests.proofs.Crossing.{unbound_send}
use Rattle.ring_tests.proofs.unbound_tests.end_beside.Goals as goal

pub join-requires-send-F : goal.join-requires-send-F
join-requires-send-F g c κs within = search (sendable, crosses, ring_sync, unbound_send) depth 40
