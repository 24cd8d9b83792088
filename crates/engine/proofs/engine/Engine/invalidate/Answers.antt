use Rattle.std.proofs.Common.{ap}
use Rattle.engine.specs.Units.{UnitValue}
use Rattle.engine.specs.Engines.{IsEngine}
use Rattle.engine.proofs.Stepping.{still_counted, engine_settled}
use Rattle.engine.proofs.engine.Engine.invalidate.Goals as goal

together : (c : goal.After-invalidate) → IsEngine c.self.inside.consumer c.invalidate.new.self
together c =
    still_counted _ _ _ c.self.invariant (ap (λ (u : UnitValue). u.counts) c.invalidate.ensures.lost.new_is) (ap (λ (u : UnitValue). u.stop.next) c.invalidate.ensures.lost.new_is) c.invalidate.ensures.settled

pub invariant_of-self : goal.invariant_of-self
invariant_of-self c = together c

pub returns-clause-settled : goal.returns-clause-settled
returns-clause-settled c = engine_settled _ _ (together c)
