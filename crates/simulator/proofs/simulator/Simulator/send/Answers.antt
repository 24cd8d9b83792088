use Rattle.std.proofs.Common.{refl, sym, subst}
use Rattle.simulator.specs.queue.{ring_in}
use Rattle.simulator.specs.{sent, SimulatorValue, Stands}
use Rattle.simulator.proofs.Standings.{by_run, after_call, sent_takes_none}
use Rattle.simulator.proofs.simulator.Simulator.send.Goals as goal

pub invariant_of-self : goal.invariant_of-self
invariant_of-self c =
    after_call c.self.inside.queue c.send.new.self c.self.inside.consumer c.self.inside.unit c.send.ensures.consumer c.send.ensures.run
    (sent_takes_none (ring_in c.self.inside.queue) c.args.sender c.args.batch c.args.closes c.self.inside.queue.keeper.run) c.self.invariant

pub returns : goal.returns
returns c state stands =
    by_run c.self.inside.queue c.send.new.self c.self.inside.unit (sent c.args.sender c.args.batch c.args.closes) c.send.ensures.consumer c.send.ensures.answer c.send.ensures.run
    (sent_takes_none (ring_in c.self.inside.queue) c.args.sender c.args.batch c.args.closes c.self.inside.queue.keeper.run) (λ then. refl) state (subst (λ (m : SimulatorValue). Stands m state) (sym c.self.view_is) stands)
