use Rattle.std.proofs.Common.{◌≡◌, ◌+◌, Some, ap, subst}
use Rattle.std.specs.Prelude.{slice_index}
use Rattle.qindex.specs.declared.control.Control.{Control}
use Rattle.ringcore.specs.declared.machine.step.Step.TheVariants.{Read}
use Rattle.ringcore.specs.declared.machine.step.Seen.TheVariants.{Half}
use Rattle.ringcore.specs.world.World.{head, world}
use Rattle.ringcore.specs.memory.Layout.{data_word}
use Rattle.ringcore.specs.machine.Faults.{tested_offset}
use Rattle.ringcore.specs.machine.Core.{CoreValue, core_of, ring_of, AfterEachRun, IsTaken}
use Rattle.ringcore.proofs.MachineLemmas.ReadSteps.{read_machine, read_taken}
use Rattle.ringcore.proofs.MachineLemmas.Inside.{accepted_inside, control_inside}
use Rattle.ringcore.proofs.machine.Core.read.Goals as goal

pub invariant_of-self : goal.invariant_of-self
invariant_of-self c =
    let core = core_of c.self.inside in
    let offset = c.in_ok-offset.offset in
    let which = c.half_of_number-which.result in
    let accepted = accepted_inside core c.args.self.now c.self.view_is (Read c.args.slot c.args.half) (λ m run. tested_offset (ring_of m) run c.args.slot ≡ Some offset) c.in_ok-offset.ensures.accepted in
    let says = control_inside core c.args.self.now c.self.view_is c.control.result c.control.ensures.says in
    let word_is : AfterEachRun core (λ run. c.read-word.result ≡ slice_index core.words.words (data_word core.words.geometry (head (world run) + offset) which)) =
    (λ run stands. c.read-word.ensures.position core.words.geometry (head (world run) + offset) (c.forward.ensures.position core.words.geometry (head (world run)) (ap (λ (k : Control). k.cons) (says run stands)))) in
    read_machine c.read.ensures core c.args.slot c.args.half offset c.read-word.result which c.reads.new.self c.half_of_number-which.ensures accepted word_is c.reads.ensures c.self.invariant

pub returns : goal.returns
returns c =
    let core = core_of c.self.inside in
    let offset = c.in_ok-offset.offset in
    let which = c.half_of_number-which.result in
    let accepted = accepted_inside core c.args.self.now c.self.view_is (Read c.args.slot c.args.half) (λ m run. tested_offset (ring_of m) run c.args.slot ≡ Some offset) c.in_ok-offset.ensures.accepted in
    let says = control_inside core c.args.self.now c.self.view_is c.control.result c.control.ensures.says in
    let word_is : AfterEachRun core (λ run. c.read-word.result ≡ slice_index core.words.words (data_word core.words.geometry (head (world run) + offset) which)) =
    (λ run stands. c.read-word.ensures.position core.words.geometry (head (world run) + offset) (c.forward.ensures.position core.words.geometry (head (world run)) (ap (λ (k : Control). k.cons) (says run stands)))) in
    let new : CoreValue = record core { consumer = c.reads.new.self } in
    subst (λ (old : CoreValue). IsTaken old new (Read c.args.slot c.args.half) (Half c.read-word.result) × (ring_of new ≡ ring_of old)) c.self.view_is
    (read_taken c.read.ensures core c.args.slot c.args.half offset c.read-word.result which c.reads.new.self c.half_of_number-which.ensures accepted word_is c.reads.ensures)
