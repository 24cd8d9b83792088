use Rattle.std.proofs.Common.{◌≡◌, subst}
use Rattle.ringcore.specs.declared.machine.step.Step.TheVariants.{Acknowledge}
use Rattle.ringcore.specs.declared.machine.step.Seen.TheVariants.{Acknowledged}
use Rattle.ringcore.specs.machine.Core.{CoreValue, core_of, ring_of, IsTaken}
use Rattle.ringcore.proofs.MachineLemmas.TakenSteps.{done_machine, done_taken}
use Rattle.ringcore.proofs.MachineLemmas.Inside.{no_fault_inside}
use Rattle.ringcore.proofs.machine.Core.acknowledge.Goals as goal

pub invariant_of-self : goal.invariant_of-self
invariant_of-self c =
    let core = core_of c.self.inside in
    let no_fault = no_fault_inside core c.args.self.now c.self.view_is (Acknowledge c.args.sender c.args.number) c.acknowledge_fault.result c.in_default.is c.acknowledge_fault.ensures in
    done_machine c.acknowledge.ensures c.steps_law.ensures.allowed core c.acknowledge-2.new.self c.args.sender c.args.number c.acknowledge-2.ensures no_fault c.self.invariant

pub returns : goal.returns
returns c =
    let core = core_of c.self.inside in
    let no_fault = no_fault_inside core c.args.self.now c.self.view_is (Acknowledge c.args.sender c.args.number) c.acknowledge_fault.result c.in_default.is c.acknowledge_fault.ensures in
    let new : CoreValue = record core { words = c.acknowledge-2.new.self } in
    subst (λ (old : CoreValue). IsTaken old new (Acknowledge c.args.sender c.args.number) Acknowledged × (ring_of new ≡ ring_of old)) c.self.view_is
    (done_taken c.acknowledge.ensures c.steps_law.ensures.allowed core c.acknowledge-2.new.self c.args.sender c.args.number c.acknowledge-2.ensures no_fault)
