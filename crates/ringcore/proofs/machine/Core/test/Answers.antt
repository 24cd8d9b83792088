use Rattle.std.proofs.Common.{◌≡◌, ap, subst}
use Rattle.std.specs.Prelude.{slice_index}
use Rattle.qindex.specs.declared.control.Control.{Control}
use Rattle.ringcore.specs.declared.machine.step.Step.TheVariants.{Test}
use Rattle.ringcore.specs.declared.machine.step.Seen.TheVariants.{Ready}
use Rattle.ringcore.specs.world.World.{head, world}
use Rattle.ringcore.specs.memory.Layout.{flag_word}
use Rattle.ringcore.specs.memory.Flags.{IsReadyRun}
use Rattle.ringcore.specs.machine.Core.{CoreValue, core_of, ring_of, AfterEachRun, IsTaken}
use Rattle.ringcore.proofs.MachineLemmas.TakenSteps.{test_machine, test_taken}
use Rattle.ringcore.proofs.MachineLemmas.Inside.{no_fault_inside, control_inside}
use Rattle.ringcore.proofs.machine.Core.test.Goals as goal

pub invariant_of-self : goal.invariant_of-self
invariant_of-self c =
    let core = core_of c.self.inside in
    let no_fault = no_fault_inside core c.args.self.now c.self.view_is (Test c.args.slot c.args.count) c.test_fault.result c.in_default.is c.test_fault.ensures in
    let says = control_inside core c.args.self.now c.self.view_is c.control.result c.control.ensures.says in
    let ready : AfterEachRun core (λ run. IsReadyRun core.words.geometry (slice_index core.words.words (flag_word core.words.geometry (head (world run)))) (head (world run)) c.args.count c.ready-found.result) =
    (λ run stands. c.ready-found.ensures.position core.words.geometry (head (world run)) (ap (λ (k : Control). k.cons) (says run stands))) in
    test_machine c.test.ensures c.steps_law.ensures.allowed core c.args.slot c.args.count c.ready-found.result c.tests.new.self no_fault c.tests.ensures ready c.self.invariant

pub returns : goal.returns
returns c =
    let core = core_of c.self.inside in
    let no_fault = no_fault_inside core c.args.self.now c.self.view_is (Test c.args.slot c.args.count) c.test_fault.result c.in_default.is c.test_fault.ensures in
    let says = control_inside core c.args.self.now c.self.view_is c.control.result c.control.ensures.says in
    let ready : AfterEachRun core (λ run. IsReadyRun core.words.geometry (slice_index core.words.words (flag_word core.words.geometry (head (world run)))) (head (world run)) c.args.count c.ready-found.result) =
    (λ run stands. c.ready-found.ensures.position core.words.geometry (head (world run)) (ap (λ (k : Control). k.cons) (says run stands))) in
    let new : CoreValue = record core { consumer = c.tests.new.self } in
    subst (λ (old : CoreValue). IsTaken old new (Test c.args.slot c.args.count) (Ready c.ready-found.result) × (ring_of new ≡ ring_of old)) c.self.view_is
    (test_taken c.test.ensures c.steps_law.ensures.allowed core c.args.slot c.args.count c.ready-found.result c.tests.new.self no_fault c.tests.ensures ready)
