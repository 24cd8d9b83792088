use Rattle.std.proofs.Common.{◌≡◌, ◌<◌, length, sym, ap, ◌∙◌, subst, arith}
use Rattle.std.proofs.lemmas.Option.{slice_get_read}
use Rattle.std.specs.Prelude.{Bool, Some, None, if◌then◌else◌}
use Rattle.qindex.specs.Positions.{size}
use Rattle.ringcore.specs.declared.machine.step.Step.TheVariants.{Write}
use Rattle.ringcore.specs.declared.machine.step_fault.StepFault.TheVariants.{Flipped}
use Rattle.ringcore.specs.machine.Open.{own_offset}
use Rattle.ringcore.specs.machine.Core.{core_of, ring_of, AllKnow, IsRefused, HasNoFault}
use Rattle.ringcore.proofs.MachineLemmas.WriteSteps.{write_of_foreign, write_of_own}
use Rattle.ringcore.proofs.machine.Core.write_offset.Goals as goal

pub returns-in_default-clause-refused : goal.returns-in_default-clause-refused
returns-in_default-clause-refused c =
    let core = core_of c.self.inside in
    let s = c.args.sender in
    let slot = c.args.slot in
    let views = c.self.invariant.views in
    let low : s < core.words.senders = omega (arith, views, c.len.ensures, c.if-sender-len.false) in
    let same_size = ap size c.geometry-geometry.ensures in
    let slot_there : slot < size core.words.geometry = omega (arith, same_size, c.size.ensures.value, c.if-slot-size.false) in
    let at = slice_get_read core.senders core.words.senders s c.index-view.result.now (sym views) low c.index-view.ensures in
    subst (λ m. IsRefused m (Write s slot c.args.half) c.foreign.result) c.self.view_is
    (λ run stands.
    let known = stands.senders_know s c.index-view.result.now at in
    write_of_foreign (ring_of core) run s c.index-view.result.now known slot low slot_there c.args.half c.if-half-ge2.false c.slot_is_held.result c.foreign.result
    (sym (c.offset_of.ensures.offset (ring_of core) (sym c.geometry-geometry.ensures) run s known) ∙ c.in_default.is)
    (c.slot_is_held.ensures (ring_of core) run (sym c.geometry-geometry.ensures) (sym views ∙ ap length (sym c.as_slice.ensures.value))
    (subst (AllKnow run) (sym c.as_slice.ensures.value) stands.senders_know))
    c.foreign.ensures)

pub any_flipped-requires : goal.any_flipped-requires
any_flipped-requires c = let below = c.in-Some.ensures.inside.1 in omega (arith, below)

pub returns-then-any_flipped-clause-refused : goal.returns-then-any_flipped-clause-refused
returns-then-any_flipped-clause-refused c =
    let core = core_of c.self.inside in
    let s = c.args.sender in
    let slot = c.args.slot in
    let views = c.self.invariant.views in
    let low : s < core.words.senders = omega (arith, views, c.len.ensures, c.if-sender-len.false) in
    let same_size = ap size c.geometry-geometry.ensures in
    let slot_there : slot < size core.words.geometry = omega (arith, same_size, c.size.ensures.value, c.if-slot-size.false) in
    let at = slice_get_read core.senders core.words.senders s c.index-view.result.now (sym views) low c.index-view.ensures in
    subst (λ m. IsRefused m (Write s slot c.args.half) Flipped) c.self.view_is
    (λ run stands.
    let known = stands.senders_know s c.index-view.result.now at in
    write_of_own (ring_of core) run s c.index-view.result.now known slot low slot_there c.args.half c.if-half-ge2.false c.in-Some.offset c.any_flipped.result
    (sym (c.offset_of.ensures.offset (ring_of core) (sym c.geometry-geometry.ensures) run s known) ∙ c.in-Some.is)
    c.in-Some.ensures.inside.0 (c.any_flipped.ensures run s known)
    ∙ ap (λ (b : Bool). if b then Some Flipped else None) c.if-any_flipped.true)

pub returns-clause-accepted : goal.returns-clause-accepted
returns-clause-accepted c =
    let core = core_of c.self.inside in
    let s = c.args.sender in
    let slot = c.args.slot in
    let views = c.self.invariant.views in
    let low : s < core.words.senders = omega (arith, views, c.len.ensures, c.if-sender-len.false) in
    let same_size = ap size c.geometry-geometry.ensures in
    let slot_there : slot < size core.words.geometry = omega (arith, same_size, c.size.ensures.value, c.if-slot-size.false) in
    let at = slice_get_read core.senders core.words.senders s c.index-view.result.now (sym views) low c.index-view.ensures in
    subst (λ m. HasNoFault m (Write s slot c.args.half) (λ run. own_offset (ring_of m) run s slot ≡ Some c.in-Some.offset)) c.self.view_is
    (λ run stands.
    let known = stands.senders_know s c.index-view.result.now at in
    let own : own_offset (ring_of core) run s slot ≡ Some c.in-Some.offset =
    sym (c.offset_of.ensures.offset (ring_of core) (sym c.geometry-geometry.ensures) run s known) ∙ c.in-Some.is in (
      write_of_own (ring_of core) run s c.index-view.result.now known slot low slot_there c.args.half c.if-half-ge2.false c.in-Some.offset c.any_flipped.result
          own c.in-Some.ensures.inside.0 (c.any_flipped.ensures run s known)
          ∙ ap (λ (b : Bool). if b then Some Flipped else None) c.if-any_flipped.false,
      own,
    ))
