use Rattle.std.proofs.Common.{refl, sym, subst}
use Rattle.engine.specs.Units.{with_entries, filled as filled_in_unit}
use Rattle.simulator.specs.{filled, SimulatorValue, Stands, MayDo}
use Rattle.simulator.proofs.UnitCalls.{stays, after_unit, filled_is}
use Rattle.simulator.proofs.simulator.Simulator.fill.Goals as goal

done : (c : goal.After-fill) → MayDo (record { queue = c.self.inside.queue; unit = c.self.inside.unit }) (record { queue = c.self.inside.queue; unit = c.fill.new.self })
    c.fill.result (λ wanting. filled wanting c.args.tag c.args.value)
done c state s = filled_is c.self.inside.queue.keeper c.self.inside.unit c.fill.new.self state c.args.tag c.args.value s c.fill.result c.fill.ensures.answer c.fill.ensures.ok c.fill.ensures.err

pub invariant_of-self : goal.invariant_of-self
invariant_of-self c =
    let is = c.self.invariant in
    let old = c.self.inside.unit in
    after_unit c.self.inside.queue c.self.inside.consumer old c.fill.new.self _
    (stays c.fill.result old (with_entries old (filled_in_unit c.args.tag c.args.value old)) c.fill.new.self refl c.fill.ensures.ok c.fill.ensures.err) c.fill.ensures.settled is (done c is.state is.stands).2

pub returns : goal.returns
returns c state stands = done c state (subst (λ (m : SimulatorValue). Stands m state) (sym c.self.view_is) stands)
