use Rattle.std.proofs.Common.{ap}
use Rattle.engine.specs.Units.{UnitValue}
use Rattle.engine.specs.Engines.{IsEngine}
use Rattle.engine.proofs.Stepping.{still_counted, engine_settled}
use Rattle.engine.proofs.engine.Engine.evict_all.Goals as goal

together : (g : _) (c : goal.After-evict_all g) → IsEngine c.self.inside.consumer c.evict_all.new.self
together g c =
    still_counted _ _ _ c.self.invariant (ap (λ (u : UnitValue). u.counts) c.evict_all.ensures.lost.new_is) (ap (λ (u : UnitValue). u.stop.next) c.evict_all.ensures.lost.new_is) c.evict_all.ensures.settled

pub invariant_of-self : goal.invariant_of-self
invariant_of-self g c = together g c

pub returns-clause-settled : goal.returns-clause-settled
returns-clause-settled g c = engine_settled _ _ (together g c)
