-- A tracked engine may move to another thread.
use denote.Param.Send.{IsSend, sendable}
use Rattle.std.proofs.Crossing.{crosses}
use Rattle.ring.proofs.Crossing.{consumer_send}
use Rattle.transactions.proofs.Crossing.{tracked_unit_send}
use Rattle.tracked_engine.specs.contracts.tracked_engine.TrackedEngine.{the_row}

pub tracked_engine_send : IsSend the_row
tracked_engine_send = search (sendable, crosses, consumer_send, tracked_unit_send) depth 60 fits 200000
