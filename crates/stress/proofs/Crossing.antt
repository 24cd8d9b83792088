-- What runs an engine may go to another thread.
use mir.Syntax.{Sym}
use denote.RattleType.{RattleType}
use denote.Ref.{NamedLft}
use denote.Param.{param}
use denote.Param.Send.{IsSend, IsSync, sendable}
use denote.Struct.Field.{shr_ref_field, u32-field}
use denote.Struct.Tuple.{TupleAt}
use Rattle.std.proofs.Common.{[], ◌∷◌}
use Rattle.ring.proofs.Crossing.{ring_sync}
use Rattle.ring.specs.contracts.ring.Ring as Ring
use Rattle.engine.proofs.Crossing.{engine_send}
use Rattle.engine.specs.contracts.engine.Engine.{the_row}

-- the closure that runs it takes along the ring, the gate, how many turns it has, and the engine
pub runner_send : (name : Sym) (ring gate : NamedLft) (Gate : RattleType) → IsSync (param 1 Gate)
    → IsSend (TupleAt name ((shr_ref_field ring Ring.the_row tt).row ∷ (shr_ref_field gate (param 1 Gate) tt).row ∷ u32-field.row ∷ the_row ∷ []))
runner_send name ring gate Gate shared = search (sendable, engine_send, ring_sync) depth 20
