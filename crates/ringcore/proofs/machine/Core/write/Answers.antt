use Rattle.std.proofs.Common.{◌≡◌, ◌+◌, sym, ap, ap₂, ◌∙◌, subst, arith}
use Rattle.std.proofs.lemmas.Option.{slice_get_read}
use Rattle.std.specs.Prelude.{Some, Ok, slice_set}
use Rattle.qindex.specs.Positions.{index_of}
use Rattle.ringcore.specs.declared.machine.step.Step.TheVariants.{Write}
use Rattle.ringcore.specs.declared.machine.step.Seen.TheVariants.{Written}
use Rattle.ringcore.specs.memory.Layout.{data_word}
use Rattle.ringcore.specs.memory.WordStores.{with_word}
use Rattle.ringcore.specs.machine.Open.{own_offset}
use Rattle.ringcore.specs.machine.Core.{core_of, ring_of, IsTakenOrRefused}
use Rattle.ringcore.proofs.MachineLemmas.WriteSteps.{write_inside, write_fits, wrote_machine, write_taken}
use Rattle.ringcore.proofs.MachineLemmas.Inside.{there_inside, accepted_inside}
use Rattle.ringcore.proofs.machine.Core.write.Goals as goal

pub command-requires : goal.command-requires
command-requires c =
    let core = core_of c.self.inside in
    let s = c.args.sender in
    let k = c.in_ok-offset.offset in
    let is = c.self.invariant in
    let low = there_inside core c.args.self.now c.self.view_is s c.in_ok-offset.ensures.there in
    let accepted = accepted_inside core c.args.self.now c.self.view_is (Write s c.args.slot c.args.half) (λ m run. own_offset (ring_of m) run s c.args.slot ≡ Some k) c.in_ok-offset.ensures.accepted in
    let before = c.index_mut-view.result.now in
    let at = slice_get_read core.senders core.words.senders s before (sym is.views) low c.index_mut-view.ensures.value in
    write_inside c.steps_law.ensures.allowed core s c.args.slot c.args.half k c.half_of_number-half.result c.half_of_number-half.ensures accepted before at is.run is.stands

pub overflow_add-start : goal.overflow_add-start
overflow_add-start c =
    let core = core_of c.self.inside in
    let s = c.args.sender in
    let k = c.in_ok-offset.offset in
    let is = c.self.invariant in
    let low = there_inside core c.args.self.now c.self.view_is s c.in_ok-offset.ensures.there in
    let accepted = accepted_inside core c.args.self.now c.self.view_is (Write s c.args.slot c.args.half) (λ m run. own_offset (ring_of m) run s c.args.slot ≡ Some k) c.in_ok-offset.ensures.accepted in
    let before = c.index_mut-view.result.now in
    let at = slice_get_read core.senders core.words.senders s before (sym is.views) low c.index_mut-view.ensures.value in
    let fits = write_fits c.steps_law.ensures.allowed core s c.args.slot c.args.half k c.half_of_number-half.result c.half_of_number-half.ensures accepted before at c.start.result c.start.ensures is is.run is.stands in
    omega (arith, fits, c.from.ensures)

pub writes-requires : goal.writes-requires
writes-requires c = c.in_ok-offset.ensures.few

pub invariant_of-self : goal.invariant_of-self
invariant_of-self c =
    let core = core_of c.self.inside in
    let s = c.args.sender in
    let k = c.in_ok-offset.offset in
    let is = c.self.invariant in
    let low = there_inside core c.args.self.now c.self.view_is s c.in_ok-offset.ensures.there in
    let accepted = accepted_inside core c.args.self.now c.self.view_is (Write s c.args.slot c.args.half) (λ m run. own_offset (ring_of m) run s c.args.slot ≡ Some k) c.in_ok-offset.ensures.accepted in
    let before = c.index_mut-view.result.now in
    let at = slice_get_read core.senders core.words.senders s before (sym is.views) low c.index_mut-view.ensures.value in
    let index_is = c.index_of-index.ensures ∙ ap₂ index_of c.geometry.ensures (ap (λ n. c.start.result + n) c.from.ensures) in
    wrote_machine c.steps_law.ensures.allowed core s c.args.slot c.args.half k c.half_of_number-half.result c.half_of_number-half.ensures accepted before at c.start.result c.start.ensures
    c.write.ensures low c.command.result c.command.ensures
    c.write-2.new.self (c.write-2.ensures.position core.words.geometry (c.start.result + k) index_is ∙ ap (with_word core.words (data_word core.words.geometry (c.start.result + k) c.half_of_number-half.result)) c.half_of-word.ensures)
    c.writes.new.self c.writes.ensures is

pub returns : goal.returns
returns c =
    let core = core_of c.self.inside in
    let s = c.args.sender in
    let k = c.in_ok-offset.offset in
    let is = c.self.invariant in
    let low = there_inside core c.args.self.now c.self.view_is s c.in_ok-offset.ensures.there in
    let accepted = accepted_inside core c.args.self.now c.self.view_is (Write s c.args.slot c.args.half) (λ m run. own_offset (ring_of m) run s c.args.slot ≡ Some k) c.in_ok-offset.ensures.accepted in
    let before = c.index_mut-view.result.now in
    let at = slice_get_read core.senders core.words.senders s before (sym is.views) low c.index_mut-view.ensures.value in
    let index_is = c.index_of-index.ensures ∙ ap₂ index_of c.geometry.ensures (ap (λ n. c.start.result + n) c.from.ensures) in
    subst (λ old. IsTakenOrRefused old (record core { words = c.write-2.new.self; senders = slice_set core.senders s c.writes.new.self }) (Write s c.args.slot c.args.half) (Ok Written)) c.self.view_is
    (write_taken c.steps_law.ensures.allowed core s c.args.slot c.args.half k c.half_of_number-half.result c.half_of_number-half.ensures accepted before at c.start.result c.start.ensures
    c.write.ensures low c.command.result c.command.ensures
    c.write-2.new.self (c.write-2.ensures.position core.words.geometry (c.start.result + k) index_is ∙ ap (with_word core.words (data_word core.words.geometry (c.start.result + k) c.half_of_number-half.result)) c.half_of-word.ensures)
    c.writes.new.self c.writes.ensures)
