use Rattle.std.proofs.Common.{refl, sym, subst}
use Rattle.engine.specs.Stops.{acknowledged_by}
use Rattle.simulator.specs.{acknowledged, SimulatorValue, Stands, Does}
use Rattle.simulator.proofs.UnitCalls.{stays, after_unit, acknowledged_is}
use Rattle.simulator.proofs.simulator.Simulator.acknowledge.Goals as goal

done : (c : goal.After-acknowledge) → Does (record { queue = c.self.inside.queue; unit = c.self.inside.unit }) (record { queue = c.self.inside.queue; unit = c.acknowledge.new.self })
    c.acknowledge.result (acknowledged c.args.gerrorn c.args.remedy)
done c state s =
    acknowledged_is c.self.inside.queue.keeper c.self.inside.unit c.acknowledge.new.self c.args.remedy c.acknowledge.result c.acknowledge.ensures.ok c.acknowledge.ensures.err state s c.args.gerrorn c.acknowledge.ensures.answer

pub invariant_of-self : goal.invariant_of-self
invariant_of-self c =
    let is = c.self.invariant in
    let old = c.self.inside.unit in
    after_unit c.self.inside.queue c.self.inside.consumer old c.acknowledge.new.self _
    (stays c.acknowledge.result old (record old { stop = acknowledged_by c.args.remedy old.stop }) c.acknowledge.new.self refl c.acknowledge.ensures.ok c.acknowledge.ensures.err)
    c.acknowledge.ensures.settled is (done c is.state is.stands).1

pub returns : goal.returns
returns c state stands = done c state (subst (λ (m : SimulatorValue). Stands m state) (sym c.self.view_is) stands)
