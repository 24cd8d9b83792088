-- What a thread takes along may go to it.
use mir.Syntax.{Sym}
use denote.Ref.{NamedLft}
use denote.Param.Send.{IsSend, sendable}
use denote.Struct.Field.{shr_ref_field}
use denote.Struct.Tuple.{TupleAt}
use Rattle.std.proofs.Common.{[], ◌∷◌}
use Rattle.ring.proofs.Crossing.{ring_sync}
use Rattle.ring.specs.contracts.ring.Ring as Ring
use Rattle.tracked_engine.proofs.Crossing.{tracked_engine_send}
use Rattle.tracked_engine.specs.contracts.tracked_engine.TrackedEngine.{the_row}

-- the closure that serves the queue takes along the ring and the engine
pub server_send : (name : Sym) (ring : NamedLft) → IsSend (TupleAt name ((shr_ref_field ring Ring.the_row tt).row ∷ the_row ∷ []))
server_send name ring = search (sendable, tracked_engine_send, ring_sync) depth 20

-- the one in which a transaction begins takes the engine alone
pub device_send : (name : Sym) → IsSend (TupleAt name (the_row ∷ []))
device_send name = search (sendable, tracked_engine_send) depth 20
