use Rattle.std.proofs.Common.{◌≡◌, ◌+◌, true, length, refl, sym, ap, ◌∙◌, subst, arith}
use Rattle.std.proofs.lemmas.Option.{slice_get_read}
use Rattle.std.specs.Prelude.{Ok, slice_set}
use Rattle.ringcore.specs.declared.machine.step.Seen.TheVariants.{Reserved}
use Rattle.ringcore.specs.machine.Core.{reserving, core_of, IsTakenOrRefused, FindsControl}
use Rattle.ringcore.specs.world.Trails.{Run}
use Rattle.ringcore.specs.world.World.{tail, world}
use Rattle.ringcore.specs.world.Allowed.{length_with}
use Rattle.ringcore.specs.machine.Core.{StandsAfter}
use Rattle.ringcore.proofs.MachineLemmas.ReserveSteps.{counted_with, one_ring, has_batches_left, starts_at_tail, start_is_small, won_machine, won_taken}
use Rattle.ringcore.proofs.MachineLemmas.Inside.{there_inside, accepted_inside}
use Rattle.ringcore.proofs.machine.Core.win.Goals as goal

pub distance-requires : goal.distance-requires
distance-requires c =
    let core = core_of c.self.inside in
    let s = c.args.sender in
    let is = c.self.invariant in
    let accepted = accepted_inside core c.args.self.now c.self.view_is (reserving s c.args.body.now c.args.closes) (λ m run. FindsControl m run s c.args.found.now true) c.requires.accepted in
    record { one_ring = one_ring c.steps_law.ensures.allowed core s (record { items = c.args.body.now }) c.args.closes c.args.found.now accepted is.run is.stands }

pub overflow_add-start : goal.overflow_add-start
overflow_add-start c =
    let core = core_of c.self.inside in
    let s = c.args.sender in
    let is = c.self.invariant in
    let accepted = accepted_inside core c.args.self.now c.self.view_is (reserving s c.args.body.now c.args.closes) (λ m run. FindsControl m run s c.args.found.now true) c.requires.accepted in
    let small = start_is_small c.steps_law.ensures.allowed core s (record { items = c.args.body.now }) c.args.closes c.args.found.now accepted c.taken-head.result c.distance.result c.taken-head.ensures.head c.distance.ensures.positions is is.run is.stands in
    omega (arith, small, c.from.ensures)

pub wins-number-requires-clause-batches : goal.wins-number-requires-clause-batches
wins-number-requires-clause-batches c =
    let core = core_of c.self.inside in
    let s = c.args.sender in
    let is = c.self.invariant in
    let low = there_inside core c.args.self.now c.self.view_is s c.requires.there in
    let before = c.index_mut.result.now in
    let at = slice_get_read core.senders core.words.senders s before (sym is.views) low c.index_mut.ensures.value in
    let accepted = accepted_inside core c.args.self.now c.self.view_is (reserving s c.args.body.now c.args.closes) (λ m run. FindsControl m run s c.args.found.now true) c.requires.accepted in
    has_batches_left c.steps_law.ensures.allowed core s (record { items = c.args.body.now }) c.args.closes c.args.found.now accepted before at is.run is.stands

pub invariant_of-self : goal.invariant_of-self
invariant_of-self c =
    let core = core_of c.self.inside in
    let s = c.args.sender in
    let is = c.self.invariant in
    let low = there_inside core c.args.self.now c.self.view_is s c.requires.there in
    let before = c.index_mut.result.now in
    let at = slice_get_read core.senders core.words.senders s before (sym is.views) low c.index_mut.ensures.value in
    let accepted = accepted_inside core c.args.self.now c.self.view_is (reserving s c.args.body.now c.args.closes) (λ m run. FindsControl m run s c.args.found.now true) c.requires.accepted in
    let many : length c.args.body.now + c.from-2.result ≡ length_with c.args.closes c.args.body.now = counted_with c.args.closes c.args.body.now (length c.args.body.now) c.from-2.result refl c.from-2.ensures in
    let start : (run : Run) → StandsAfter core run → c.taken-head.result + c.from.result ≡ tail (world run) = λ run stands.
    ap (λ n. c.taken-head.result + n) c.from.ensures ∙ starts_at_tail c.steps_law.ensures.allowed core s (record { items = c.args.body.now }) c.args.closes c.args.found.now accepted c.taken-head.result c.distance.result c.taken-head.ensures.head c.distance.ensures.positions run stands in
    won_machine c.steps_law.ensures.allowed core s (record { items = c.args.body.now }) c.args.closes c.args.found.now accepted
    c.indexes_tell_the_queue.ensures.queue c.reserve_won.ensures low c.forward.result (length c.args.body.now + c.from-2.result) many c.forward.ensures.value
    c.exchange.new.self (λ now. (c.exchange.ensures.won now).1) before at (c.taken-head.result + c.from.result) start
    c.wins-number.result c.wins-number.ensures.number c.wins-number.new.self c.wins-number.ensures.view is

pub returns : goal.returns
returns c =
    let core = core_of c.self.inside in
    let s = c.args.sender in
    let is = c.self.invariant in
    let low = there_inside core c.args.self.now c.self.view_is s c.requires.there in
    let before = c.index_mut.result.now in
    let at = slice_get_read core.senders core.words.senders s before (sym is.views) low c.index_mut.ensures.value in
    let accepted = accepted_inside core c.args.self.now c.self.view_is (reserving s c.args.body.now c.args.closes) (λ m run. FindsControl m run s c.args.found.now true) c.requires.accepted in
    let many : length c.args.body.now + c.from-2.result ≡ length_with c.args.closes c.args.body.now = counted_with c.args.closes c.args.body.now (length c.args.body.now) c.from-2.result refl c.from-2.ensures in
    let start : (run : Run) → StandsAfter core run → c.taken-head.result + c.from.result ≡ tail (world run) = λ run stands.
    ap (λ n. c.taken-head.result + n) c.from.ensures ∙ starts_at_tail c.steps_law.ensures.allowed core s (record { items = c.args.body.now }) c.args.closes c.args.found.now accepted c.taken-head.result c.distance.result c.taken-head.ensures.head c.distance.ensures.positions run stands in
    subst (λ old. IsTakenOrRefused old (record core { words = c.exchange.new.self; senders = slice_set core.senders s c.wins-number.new.self }) (reserving s c.args.body.now c.args.closes) (Ok (Reserved c.args.found.now.prod c.wins-number.result))) c.self.view_is
    (won_taken c.steps_law.ensures.allowed core s (record { items = c.args.body.now }) c.args.closes c.args.found.now accepted
    c.indexes_tell_the_queue.ensures.queue c.reserve_won.ensures low c.forward.result (length c.args.body.now + c.from-2.result) many c.forward.ensures.value
    c.exchange.new.self (λ now. (c.exchange.ensures.won now).1) before at (c.taken-head.result + c.from.result) start
    c.wins-number.result c.wins-number.ensures.number c.wins-number.new.self c.wins-number.ensures.view is)
