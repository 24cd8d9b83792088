use Rattle.std.proofs.Common.{ap}
use Rattle.engine.specs.Units.{UnitValue}
use Rattle.engine.specs.Engines.{IsEngine}
use Rattle.engine.proofs.Stepping.{still_counted, engine_settled}
use Rattle.engine.proofs.engine.Engine.evict_older.Goals as goal

together : (c : goal.After-evict_older) → IsEngine c.self.inside.consumer c.evict_older.new.self
together c =
    still_counted _ _ _ c.self.invariant (ap (λ (u : UnitValue). u.counts) c.evict_older.ensures.lost.new_is) (ap (λ (u : UnitValue). u.stop.next) c.evict_older.ensures.lost.new_is) c.evict_older.ensures.settled

pub invariant_of-self : goal.invariant_of-self
invariant_of-self c = together c

pub returns-clause-settled : goal.returns-clause-settled
returns-clause-settled c = engine_settled _ _ (together c)
