use Rattle.std.proofs.Common.{◌≡◌, ℕ, ◌<◌, ◌≤◌, ◌+◌, ◌&&◌, true, length, refl, sym, ap, ap₂, ◌∙◌, subst, arith}
use Rattle.std.proofs.lemmas.Bool.{and_parts, ltb-true}
use Rattle.std.proofs.lemmas.Option.{slice_get_read}
use Rattle.std.specs.Prelude.{Bool, Some, None, if◌then◌else◌}
use Rattle.qindex.specs.Positions.{place}
use Rattle.ringcore.specs.declared.world.event.Who.TheVariants.{Sender}
use Rattle.ringcore.specs.declared.world.event.Half.TheVariants.{Lo, Hi}
use Rattle.ringcore.specs.world.Trails.{trail_of, reserved_length, has_written}
use Rattle.ringcore.specs.world.World.{world}
use Rattle.ringcore.specs.declared.machine.step.Step.TheVariants.{Flip}
use Rattle.ringcore.specs.declared.machine.step_fault.StepFault.TheVariants.{Flipped, HalfMissing}
use Rattle.ringcore.specs.machine.Open.{all_below, is_held, slot_is_held, own_offset}
use Rattle.ringcore.specs.machine.Faults.{has_sender, has_slot, is_run_length, share_a_word}
use Rattle.ringcore.specs.machine.Core.{CoreValue, core_of, ring_of, AllKnow, IsRefused, HasNoFault}
use Rattle.ringcore.proofs.MachineLemmas.FlipSteps.{has_run, flip_of_foreign, flip_past_end, flip_of_own}
use Rattle.ringcore.proofs.MachineLemmas.Standing.{start_fits}
use Rattle.ringcore.proofs.machine.Core.flip_offset.Goals as goal

module _ (inside outside : CoreValue) (is : inside ≡ outside) (s slot count : ℕ) (b : Bool) (found : b ≡ has_run (ring_of outside) s slot count) (true_is : b ≡ true) where
  exists_inside : has_run (ring_of inside) s slot count ≡ true
  exists_inside = ap (λ m. has_run (ring_of m) s slot count) is ∙ sym found ∙ true_is

  there_inside : s < inside.words.senders
  there_inside =
      ltb-true s inside.words.senders
      (and_parts (has_sender (ring_of inside) s) (has_slot (ring_of inside) slot)
      (and_parts (has_sender (ring_of inside) s && has_slot (ring_of inside) slot) (is_run_length count)
      (and_parts (has_sender (ring_of inside) s && has_slot (ring_of inside) slot && is_run_length count) (share_a_word (ring_of inside) slot count) exists_inside).0).0).0

pub returns-in_default-clause-refused : goal.returns-in_default-clause-refused
returns-in_default-clause-refused c =
    let core = core_of c.self.inside in
    let s = c.args.sender in
    let slot = c.args.slot in
    let count = c.args.count in
    let views = c.self.invariant.views in
    let exists = exists_inside core c.args.self.now c.self.view_is s slot count c.has_run.result c.has_run.ensures c.if-not-has_run.false in
    let low = there_inside core c.args.self.now c.self.view_is s slot count c.has_run.result c.has_run.ensures c.if-not-has_run.false in
    let at = slice_get_read core.senders core.words.senders s c.index-view.result.now (sym views) low c.index-view.ensures in
    let same = c.geometry-geometry.ensures in
    subst (λ m. IsRefused m (Flip s slot count) c.foreign.result) c.self.view_is
    (λ run stands.
    let known = stands.senders_know s c.index-view.result.now at in
    flip_of_foreign (ring_of core) run s slot count exists c.slots_are_held.result c.foreign.result
    (sym (c.offset_of.ensures.offset (ring_of core) (sym same) run s known) ∙ c.in_default.is)
    (c.slots_are_held.ensures (ring_of core) run (sym same) (sym views ∙ ap length (sym c.as_slice.ensures.value))
    (subst (AllKnow run) (sym c.as_slice.ensures.value) stands.senders_know)
    ∙ ap (λ g. all_below count (λ k. slot_is_held (ring_of core) run (place g (slot + k)))) same)
    c.foreign.ensures)

pub overflow_add-first : goal.overflow_add-first
overflow_add-first c =
    let core = core_of c.self.inside in
    let s = c.args.sender in
    let is = c.self.invariant in
    let low = there_inside core c.args.self.now c.self.view_is s c.args.slot c.args.count c.has_run.result c.has_run.ensures c.if-not-has_run.false in
    let at = slice_get_read core.senders core.words.senders s c.index-view.result.now (sym is.views) low c.index-view.ensures in
    let starts = c.start.ensures is.run s (is.stands.senders_know s c.index-view.result.now at) in
    let fits = start_fits core is is.run is.stands s in
    let below = c.in-Some.ensures.inside.1 in
    omega (arith, starts, fits, below, c.from.ensures)

pub positions_are_held-requires : goal.positions_are_held-requires
positions_are_held-requires c =
    let core = core_of c.self.inside in
    let s = c.args.sender in
    let is = c.self.invariant in
    let low = there_inside core c.args.self.now c.self.view_is s c.args.slot c.args.count c.has_run.result c.has_run.ensures c.if-not-has_run.false in
    let at = slice_get_read core.senders core.words.senders s c.index-view.result.now (sym is.views) low c.index-view.ensures in
    let starts = c.start.ensures is.run s (is.stands.senders_know s c.index-view.result.now at) in
    let fits = start_fits core is is.run is.stands s in
    let below = c.in-Some.ensures.inside.1 in
    let small = c.ranges.count.fits in
    omega (arith, starts, fits, below, c.from.ensures, small)

pub returns-then-offset-count-clause-refused : goal.returns-then-offset-count-clause-refused
returns-then-offset-count-clause-refused c =
    let core = core_of c.self.inside in
    let s = c.args.sender in
    let slot = c.args.slot in
    let count = c.args.count in
    let k = c.in-Some.offset in
    let views = c.self.invariant.views in
    let exists = exists_inside core c.args.self.now c.self.view_is s slot count c.has_run.result c.has_run.ensures c.if-not-has_run.false in
    let low = there_inside core c.args.self.now c.self.view_is s slot count c.has_run.result c.has_run.ensures c.if-not-has_run.false in
    let at = slice_get_read core.senders core.words.senders s c.index-view.result.now (sym views) low c.index-view.ensures in
    let same = c.geometry-geometry.ensures in
    subst (λ m. IsRefused m (Flip s slot count) c.foreign-then-offset-count.result) c.self.view_is
    (λ run stands.
    let known = stands.senders_know s c.index-view.result.now at in
    let many = c.len.ensures.reservation run s known in
    let first : c.start.result + c.from.result ≡ (world run).start s + k = ap₂ (λ a b. a + b) (c.start.ensures run s known) c.from.ensures in
    flip_past_end (ring_of core) run s slot count exists k
    (sym (c.offset_of.ensures.offset (ring_of core) (sym same) run s known) ∙ c.in-Some.is)
    c.positions_are_held.result c.foreign-then-offset-count.result (omega (arith, many, c.if-offset-count.true))
    (c.positions_are_held.ensures core.words.geometry (ring_of core) run refl (sym views ∙ ap length (sym c.as_slice-then-offset-count.ensures.value))
    (subst (AllKnow run) (sym c.as_slice-then-offset-count.ensures.value) stands.senders_know)
    ∙ ap (λ p. all_below count (λ j. is_held (ring_of core) run (p + j))) first)
    c.foreign-then-offset-count.ensures)

pub returns-then-any_flipped-clause-refused : goal.returns-then-any_flipped-clause-refused
returns-then-any_flipped-clause-refused c =
    let core = core_of c.self.inside in
    let s = c.args.sender in
    let slot = c.args.slot in
    let count = c.args.count in
    let k = c.in-Some.offset in
    let views = c.self.invariant.views in
    let exists = exists_inside core c.args.self.now c.self.view_is s slot count c.has_run.result c.has_run.ensures c.if-not-has_run.false in
    let low = there_inside core c.args.self.now c.self.view_is s slot count c.has_run.result c.has_run.ensures c.if-not-has_run.false in
    let at = slice_get_read core.senders core.words.senders s c.index-view.result.now (sym views) low c.index-view.ensures in
    let same = c.geometry-geometry.ensures in
    subst (λ m. IsRefused m (Flip s slot count) Flipped) c.self.view_is
    (λ run stands.
    let known = stands.senders_know s c.index-view.result.now at in
    let many = c.len.ensures.reservation run s known in
    let inside : k + count ≤ reserved_length (trail_of (Sender s) run) = omega (arith, many, c.if-offset-count.false) in
    let written : Bool = all_below count (λ j. has_written (k + j) Lo (trail_of (Sender s) run) && has_written (k + j) Hi (trail_of (Sender s) run)) in
    flip_of_own (ring_of core) run s slot count exists k
    (sym (c.offset_of.ensures.offset (ring_of core) (sym same) run s known) ∙ c.in-Some.is)
    c.any_flipped.result written inside (c.any_flipped.ensures run s known inside) refl
    ∙ ap (λ (b : Bool). if b then Some Flipped else if written then None else Some HalfMissing) c.if-any_flipped.true)

pub returns-then-not-all_written-clause-refused : goal.returns-then-not-all_written-clause-refused
returns-then-not-all_written-clause-refused c =
    let core = core_of c.self.inside in
    let s = c.args.sender in
    let slot = c.args.slot in
    let count = c.args.count in
    let k = c.in-Some.offset in
    let views = c.self.invariant.views in
    let exists = exists_inside core c.args.self.now c.self.view_is s slot count c.has_run.result c.has_run.ensures c.if-not-has_run.false in
    let low = there_inside core c.args.self.now c.self.view_is s slot count c.has_run.result c.has_run.ensures c.if-not-has_run.false in
    let at = slice_get_read core.senders core.words.senders s c.index-view.result.now (sym views) low c.index-view.ensures in
    let same = c.geometry-geometry.ensures in
    subst (λ m. IsRefused m (Flip s slot count) HalfMissing) c.self.view_is
    (λ run stands.
    let known = stands.senders_know s c.index-view.result.now at in
    let many = c.len.ensures.reservation run s known in
    let inside : k + count ≤ reserved_length (trail_of (Sender s) run) = omega (arith, many, c.if-offset-count.false) in
    flip_of_own (ring_of core) run s slot count exists k
    (sym (c.offset_of.ensures.offset (ring_of core) (sym same) run s known) ∙ c.in-Some.is)
    c.any_flipped.result c.all_written.result inside (c.any_flipped.ensures run s known inside) (c.all_written.ensures run s known inside)
    ∙ ap₂ (λ (b w : Bool). if b then Some Flipped else if w then None else Some HalfMissing) c.if-any_flipped.false c.if-not-all_written.true)

pub returns-clause-accepted : goal.returns-clause-accepted
returns-clause-accepted c =
    let core = core_of c.self.inside in
    let s = c.args.sender in
    let slot = c.args.slot in
    let count = c.args.count in
    let k = c.in-Some.offset in
    let views = c.self.invariant.views in
    let exists = exists_inside core c.args.self.now c.self.view_is s slot count c.has_run.result c.has_run.ensures c.if-not-has_run.false in
    let low = there_inside core c.args.self.now c.self.view_is s slot count c.has_run.result c.has_run.ensures c.if-not-has_run.false in
    let at = slice_get_read core.senders core.words.senders s c.index-view.result.now (sym views) low c.index-view.ensures in
    let same = c.geometry-geometry.ensures in
    subst (λ m. HasNoFault m (Flip s slot count) (λ run. own_offset (ring_of m) run s slot ≡ Some k)) c.self.view_is
    (λ run stands.
    let known = stands.senders_know s c.index-view.result.now at in
    let many = c.len.ensures.reservation run s known in
    let inside : k + count ≤ reserved_length (trail_of (Sender s) run) = omega (arith, many, c.if-offset-count.false) in
    let own : own_offset (ring_of core) run s slot ≡ Some k = sym (c.offset_of.ensures.offset (ring_of core) (sym same) run s known) ∙ c.in-Some.is in (
      flip_of_own (ring_of core) run s slot count exists k own
          c.any_flipped.result c.all_written.result inside (c.any_flipped.ensures run s known inside) (c.all_written.ensures run s known inside)
          ∙ ap₂ (λ (b w : Bool). if b then Some Flipped else if w then None else Some HalfMissing) c.if-any_flipped.false c.if-not-all_written.false,
      own,
    ))
