use Rattle.std.proofs.Common.{◌≡◌, ◌+◌, ◌≤◌, sym, ap, subst, ◌∙◌}
use Rattle.qindex.specs.declared.control.Control.{Control}
use Rattle.qindex.specs.Positions.{size, index_of}
use Rattle.ringcore.specs.declared.machine.step.Step.TheVariants.{Advance}
use Rattle.ringcore.specs.declared.machine.step.Seen.TheVariants.{Word}
use Rattle.ringcore.specs.world.World.{head, world}
use Rattle.ringcore.specs.machine.Core.{CoreValue, core_of, ring_of, AfterEachRun, IsTaken}
use Rattle.ringcore.proofs.MachineLemmas.AdvanceSteps.{count_fits, taken_fits, tallies_fit, advanced_machine, advance_taken}
use Rattle.ringcore.proofs.MachineLemmas.Inside.{no_fault_inside, control_inside}
use Rattle.ringcore.proofs.machine.Core.advance.Goals as goal

pub forward-requires : goal.forward-requires
forward-requires c =
    let core = core_of c.self.inside in
    let no_fault = no_fault_inside core c.args.self.now c.self.view_is (Advance c.args.count) c.advance_fault.result c.in_default.is c.advance_fault.ensures in
    let same = ap (λ (m : CoreValue). m.words.geometry) c.self.view_is ∙ sym c.control-head.ensures.geometry.cons_geometry in
    record { steps = subst (λ g. c.args.count ≤ size g) same (count_fits c.steps_law.ensures.allowed core c.args.count no_fault c.self.invariant.run c.self.invariant.stands) }

pub takes_read-requires-clause-counts : goal.takes_read-requires-clause-counts
takes_read-requires-clause-counts c =
    let core = core_of c.self.inside in
    let no_fault = no_fault_inside core c.args.self.now c.self.view_is (Advance c.args.count) c.advance_fault.result c.in_default.is c.advance_fault.ensures in
    tallies_fit c.steps_law.ensures.allowed core c.args.count no_fault c.self.invariant.run c.self.invariant.stands c.counts_law.ensures.syncs c.counts_law.ensures.few

pub advances-requires : goal.advances-requires
advances-requires c =
    let core = core_of c.self.inside in
    let no_fault = no_fault_inside core c.args.self.now c.self.view_is (Advance c.args.count) c.advance_fault.result c.in_default.is c.advance_fault.ensures in
    taken_fits c.steps_law.ensures.allowed core c.args.count no_fault c.self.invariant.run c.self.invariant.stands c.counts_law.ensures.bound c.self.invariant.few

pub invariant_of-self : goal.invariant_of-self
invariant_of-self c =
    let core = core_of c.self.inside in
    let no_fault = no_fault_inside core c.args.self.now c.self.view_is (Advance c.args.count) c.advance_fault.result c.in_default.is c.advance_fault.ensures in
    let says = control_inside core c.args.self.now c.self.view_is c.control-head.result c.control-head.ensures.says in
    let from_is : AfterEachRun core (λ run. c.control-head.result.cons ≡ index_of core.words.geometry (head (world run))) =
    (λ run stands. ap (λ (k : Control). k.cons) (says run stands)) in
    let to_is : AfterEachRun core (λ run. c.forward.result ≡ index_of core.words.geometry (head (world run) + c.args.count)) =
    (λ run stands. c.forward.ensures.position core.words.geometry (head (world run)) (from_is run stands)) in
    advanced_machine c.steps_law.ensures.allowed core c.args.count no_fault c.advance.ensures c.advance-2.new.self c.advances.new.self c.takes_read.new.self c.control-head.result.cons c.forward.result from_is to_is c.advance-2.ensures c.takes_read.ensures c.advances.ensures c.self.invariant

pub returns : goal.returns
returns c =
    let core = core_of c.self.inside in
    let no_fault = no_fault_inside core c.args.self.now c.self.view_is (Advance c.args.count) c.advance_fault.result c.in_default.is c.advance_fault.ensures in
    let says = control_inside core c.args.self.now c.self.view_is c.control-head.result c.control-head.ensures.says in
    let from_is : AfterEachRun core (λ run. c.control-head.result.cons ≡ index_of core.words.geometry (head (world run))) =
    (λ run stands. ap (λ (k : Control). k.cons) (says run stands)) in
    let to_is : AfterEachRun core (λ run. c.forward.result ≡ index_of core.words.geometry (head (world run) + c.args.count)) =
    (λ run stands. c.forward.ensures.position core.words.geometry (head (world run)) (from_is run stands)) in
    let new : CoreValue = record { words = c.advance-2.new.self; senders = core.senders; consumer = c.advances.new.self; tallies = c.takes_read.new.self } in
    subst (λ (old : CoreValue). IsTaken old new (Advance c.args.count) (Word c.control.result) × (ring_of new ≡ ring_of old)) c.self.view_is
    (advance_taken c.steps_law.ensures.allowed core c.args.count no_fault c.advance.ensures c.advance-2.new.self c.advances.new.self c.takes_read.new.self c.control-head.result.cons c.forward.result from_is to_is c.advance-2.ensures c.takes_read.ensures c.advances.ensures c.control.result c.control.ensures.says)
