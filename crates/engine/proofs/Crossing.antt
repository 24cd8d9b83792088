-- An engine may move to another thread.
use denote.Param.Send.{IsSend, sendable}
use Rattle.std.proofs.Crossing.{crosses}
use Rattle.caches.proofs.Crossing.{caches_send}
use Rattle.ring.proofs.Crossing.{consumer_send}
use Rattle.engine.specs.contracts.engine.Engine.{the_row}

pub engine_send : IsSend the_row
engine_send = search (sendable, crosses, caches_send, consumer_send) depth 40 fits 100000
