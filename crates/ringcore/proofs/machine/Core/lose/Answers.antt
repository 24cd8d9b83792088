use Rattle.std.proofs.Common.{false, sym, subst}
use Rattle.std.proofs.lemmas.Option.{slice_get_read}
use Rattle.std.specs.Prelude.{Ok, slice_set}
use Rattle.ringcore.specs.declared.machine.step.Seen.TheVariants.{Lost}
use Rattle.ringcore.specs.machine.Core.{reserving, core_of, IsTakenOrRefused, FindsControl}
use Rattle.ringcore.proofs.MachineLemmas.ReserveSteps.{lost_machine, lost_taken}
use Rattle.ringcore.proofs.MachineLemmas.Inside.{there_inside, accepted_inside}
use Rattle.ringcore.proofs.machine.Core.lose.Goals as goal

pub invariant_of-self : goal.invariant_of-self
invariant_of-self c =
    let core = core_of c.self.inside in
    let s = c.args.sender in
    let is = c.self.invariant in
    let low = there_inside core c.args.self.now c.self.view_is s c.requires.there in
    let before = c.index_mut.result.now in
    let at = slice_get_read core.senders core.words.senders s before (sym is.views) low c.index_mut.ensures.value in
    let accepted = accepted_inside core c.args.self.now c.self.view_is (reserving s c.args.body.now c.args.closes) (λ m run. FindsControl m run s c.args.found.now false) c.requires.accepted in
    lost_machine c.steps_law.ensures.allowed core s low (record { items = c.args.body.now }) c.args.closes c.args.found.now accepted before at c.loses.new.self c.loses.ensures is

pub returns : goal.returns
returns c =
    let core = core_of c.self.inside in
    let s = c.args.sender in
    let is = c.self.invariant in
    let low = there_inside core c.args.self.now c.self.view_is s c.requires.there in
    let before = c.index_mut.result.now in
    let at = slice_get_read core.senders core.words.senders s before (sym is.views) low c.index_mut.ensures.value in
    let accepted = accepted_inside core c.args.self.now c.self.view_is (reserving s c.args.body.now c.args.closes) (λ m run. FindsControl m run s c.args.found.now false) c.requires.accepted in
    subst (λ old. IsTakenOrRefused old (record core { senders = slice_set core.senders s c.loses.new.self }) (reserving s c.args.body.now c.args.closes) (Ok (Lost c.args.found.now))) c.self.view_is
    (lost_taken c.steps_law.ensures.allowed core s low (record { items = c.args.body.now }) c.args.closes c.args.found.now accepted before at c.loses.new.self c.loses.ensures)
