use Rattle.std.proofs.Common.{refl}
use Rattle.simulator.proofs.Standings.{after_call}
use Rattle.simulator.proofs.simulator.Simulator.look.Goals as goal

pub invariant_of-self : goal.invariant_of-self
invariant_of-self c = after_call c.self.inside.queue c.look.new.self c.self.inside.consumer c.self.inside.unit c.look.ensures.consumer c.look.ensures.run refl c.self.invariant
