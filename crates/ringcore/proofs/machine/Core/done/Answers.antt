use Rattle.std.proofs.Common.{arith}
use Rattle.ringcore.specs.machine.Core.{core_of}
use Rattle.ringcore.proofs.MachineLemmas.TakenSteps.{cell_is, acknowledged_few}
use Rattle.ringcore.proofs.MachineLemmas.Inside.{there_inside}
use Rattle.ringcore.proofs.machine.Core.done.Goals as goal

pub overflow_cast-result : goal.overflow_cast-result
overflow_cast-result c =
    let core = core_of c.self.inside in
    let is = c.self.invariant in
    let low = there_inside core c.args.self.now c.self.view_is c.args.sender c.requires in
    let cell = cell_is core is.run c.args.sender is.stands low in
    let few = acknowledged_few c.world_law.ensures.acknowledged c.counts_law.ensures.few core is.run c.args.sender is.stands in
    omega (arith, c.acknowledged.ensures, cell, few)
