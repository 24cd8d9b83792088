use Rattle.std.proofs.Common.{refl, sym, subst}
use Rattle.simulator.specs.queue.{ring_in}
use Rattle.simulator.specs.{published_by, SimulatorValue, Stands}
use Rattle.simulator.proofs.Standings.{by_run, after_call, published_takes_none}
use Rattle.simulator.proofs.simulator.Simulator.publish.Goals as goal

pub invariant_of-self : goal.invariant_of-self
invariant_of-self c =
    after_call c.self.inside.queue c.publish.new.self c.self.inside.consumer c.self.inside.unit c.publish.ensures.consumer c.publish.ensures.run
    (published_takes_none (ring_in c.self.inside.queue).geometry c.args.sender c.self.inside.queue.keeper.run) c.self.invariant

pub returns : goal.returns
returns c state stands =
    by_run c.self.inside.queue c.publish.new.self c.self.inside.unit (published_by c.args.sender) c.publish.ensures.consumer c.publish.ensures.number c.publish.ensures.run
    (published_takes_none (ring_in c.self.inside.queue).geometry c.args.sender c.self.inside.queue.keeper.run) (λ then. refl) state (subst (λ (m : SimulatorValue). Stands m state) (sym c.self.view_is) stands)
