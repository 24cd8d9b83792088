use Rattle.std.proofs.Common.{◌≡◌, ◌+◌, sym, ap, ap₂, ◌∙◌, subst, arith}
use Rattle.std.proofs.lemmas.Option.{slice_get_read}
use Rattle.std.specs.Prelude.{Some, Ok, slice_set}
use Rattle.qindex.specs.Positions.{index_of}
use Rattle.ringcore.specs.declared.machine.step.Step.TheVariants.{Flip}
use Rattle.ringcore.specs.declared.machine.step.Seen.TheVariants.{Flipped}
use Rattle.ringcore.specs.machine.StepAnswers.{new_flags}
use Rattle.ringcore.specs.machine.Open.{own_offset}
use Rattle.ringcore.specs.machine.Core.{core_of, ring_of, IsTakenOrRefused}
use Rattle.ringcore.proofs.MachineLemmas.FlipSteps.{flip_fits, flip_shares, flipped_machine, flip_taken}
use Rattle.ringcore.proofs.MachineLemmas.Inside.{there_inside, accepted_inside}
use Rattle.ringcore.proofs.machine.Core.flip.Goals as goal

pub overflow_add-first : goal.overflow_add-first
overflow_add-first c =
    let core = core_of c.self.inside in
    let s = c.args.sender in
    let slot = c.args.slot in
    let count = c.args.count in
    let k = c.in_ok-offset.offset in
    let is = c.self.invariant in
    let low = there_inside core c.args.self.now c.self.view_is s c.in_ok-offset.ensures.there in
    let accepted = accepted_inside core c.args.self.now c.self.view_is (Flip s slot count) (λ m run. own_offset (ring_of m) run s slot ≡ Some k) c.in_ok-offset.ensures.accepted in
    let before = c.index_mut-view.result.now in
    let at = slice_get_read core.senders core.words.senders s before (sym is.views) low c.index_mut-view.ensures.value in
    let fits = flip_fits c.steps_law.ensures.allowed core s slot count k accepted before at c.start.result c.start.ensures is is.run is.stands in
    omega (arith, fits, c.from.ensures)

pub flip-requires-2-clause-word : goal.flip-requires-2-clause-word
flip-requires-2-clause-word c =
    let core = core_of c.self.inside in
    let s = c.args.sender in
    let slot = c.args.slot in
    let count = c.args.count in
    let k = c.in_ok-offset.offset in
    let is = c.self.invariant in
    let low = there_inside core c.args.self.now c.self.view_is s c.in_ok-offset.ensures.there in
    let accepted = accepted_inside core c.args.self.now c.self.view_is (Flip s slot count) (λ m run. own_offset (ring_of m) run s slot ≡ Some k) c.in_ok-offset.ensures.accepted in
    let before = c.index_mut-view.result.now in
    let at = slice_get_read core.senders core.words.senders s before (sym is.views) low c.index_mut-view.ensures.value in
    let first : c.start.result + c.from.result ≡ c.start.result + k = ap (λ n. c.start.result + n) c.from.ensures in
    let index_is = c.index_of.ensures ∙ ap₂ index_of c.geometry-geometry.ensures first in
    flip_shares c.steps_law.ensures.allowed core s slot count k accepted before at c.start.result c.start.ensures
    c.indexes_tell_place_and_wrap_bit.ensures.alike is.run is.stands c.index_of.result index_is

pub new_flags-requires-clause-within : goal.new_flags-requires-clause-within
new_flags-requires-clause-within c =
    let core = core_of c.self.inside in
    let s = c.args.sender in
    let slot = c.args.slot in
    let count = c.args.count in
    let k = c.in_ok-offset.offset in
    let is = c.self.invariant in
    let low = there_inside core c.args.self.now c.self.view_is s c.in_ok-offset.ensures.there in
    let accepted = accepted_inside core c.args.self.now c.self.view_is (Flip s slot count) (λ m run. own_offset (ring_of m) run s slot ≡ Some k) c.in_ok-offset.ensures.accepted in
    let before = c.index_mut-view.result.now in
    let at = slice_get_read core.senders core.words.senders s before (sym is.views) low c.index_mut-view.ensures.value in
    let fits = flip_fits c.steps_law.ensures.allowed core s slot count k accepted before at c.start.result c.start.ensures is is.run is.stands in
    omega (arith, fits, c.from.ensures)

pub invariant_of-self : goal.invariant_of-self
invariant_of-self c =
    let core = core_of c.self.inside in
    let s = c.args.sender in
    let slot = c.args.slot in
    let count = c.args.count in
    let k = c.in_ok-offset.offset in
    let is = c.self.invariant in
    let low = there_inside core c.args.self.now c.self.view_is s c.in_ok-offset.ensures.there in
    let accepted = accepted_inside core c.args.self.now c.self.view_is (Flip s slot count) (λ m run. own_offset (ring_of m) run s slot ≡ Some k) c.in_ok-offset.ensures.accepted in
    let before = c.index_mut-view.result.now in
    let at = slice_get_read core.senders core.words.senders s before (sym is.views) low c.index_mut-view.ensures.value in
    let first : c.start.result + c.from.result ≡ c.start.result + k = ap (λ n. c.start.result + n) c.from.ensures in
    let index_is = c.index_of.ensures ∙ ap₂ index_of c.geometry-geometry.ensures first in
    flipped_machine c.steps_law.ensures.allowed core s slot count k accepted before at c.start.result c.start.ensures
    c.flip.ensures low c.flip-2.new.self (c.flip-2.ensures.position core.words.geometry (c.start.result + k) index_is) c.flips.new.self c.flips.ensures is

pub returns : goal.returns
returns c =
    let core = core_of c.self.inside in
    let s = c.args.sender in
    let slot = c.args.slot in
    let count = c.args.count in
    let k = c.in_ok-offset.offset in
    let is = c.self.invariant in
    let low = there_inside core c.args.self.now c.self.view_is s c.in_ok-offset.ensures.there in
    let accepted = accepted_inside core c.args.self.now c.self.view_is (Flip s slot count) (λ m run. own_offset (ring_of m) run s slot ≡ Some k) c.in_ok-offset.ensures.accepted in
    let before = c.index_mut-view.result.now in
    let at = slice_get_read core.senders core.words.senders s before (sym is.views) low c.index_mut-view.ensures.value in
    let first : c.start.result + c.from.result ≡ c.start.result + k = ap (λ n. c.start.result + n) c.from.ensures in
    let index_is = c.index_of.ensures ∙ ap₂ index_of c.geometry-geometry.ensures first in
    subst (λ old. IsTakenOrRefused old (record core { words = c.flip-2.new.self; senders = slice_set core.senders s c.flips.new.self }) (Flip s slot count) (Ok (Flipped c.new_flags.result))) c.self.view_is
    (flip_taken c.steps_law.ensures.allowed core s slot count k accepted before at c.start.result c.start.ensures
    c.flip.ensures low c.flip-2.new.self (c.flip-2.ensures.position core.words.geometry (c.start.result + k) index_is) c.flips.new.self c.flips.ensures
    c.new_flags.result (c.new_flags.ensures ∙ ap₂ (λ g n. new_flags g n count) c.geometry-geometry.ensures first))
