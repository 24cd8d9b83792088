use Rattle.std.proofs.Common.{ap}
use Rattle.simulator.proofs.UnitCalls.{kept, after_unit, evicted_is}
use Rattle.simulator.proofs.simulator.Simulator.evict.Goals as goal

pub invariant_of-self : goal.invariant_of-self
invariant_of-self c =
    let is = c.self.invariant in
    after_unit c.self.inside.queue c.self.inside.consumer c.self.inside.unit c.evict.new.self _ (ap kept c.evict.ensures.new) c.evict.ensures.settled is
    (evicted_is c.self.inside.queue.keeper c.self.inside.unit c.evict.new.self c.args.tag.now is.state c.evict.ensures.new is.stands)
