use Rattle.std.proofs.Common.{◌≡◌, ◌<◌, true, false, refl, sym, ap, ◌∙◌, subst, arith}
use Rattle.std.proofs.lemmas.Option.{slice_get_read}
use Rattle.qindex.specs.ControlWord.{IsControl}
use Rattle.ringcore.specs.declared.world.event.Who.TheVariants.{Sender}
use Rattle.ringcore.specs.world.Trails.{Run, trail_of}
use Rattle.ringcore.specs.world.World.{world, control}
use Rattle.ringcore.specs.machine.Faults.{reserve_fault, fault_of}
use Rattle.ringcore.specs.machine.Core.{CoreValue, reserving, core_of, ring_of, StandsAfter, IsRefused, HasNoFault, FindsControl}
use Rattle.ringcore.proofs.WorldLemmas.LookedControls.{looked_is_control}
use Rattle.ringcore.proofs.MachineLemmas.SenderSteps.{there_is}
use Rattle.ringcore.proofs.machine.Core.reserve.Goals as goal

pub reserve_fault-requires : goal.reserve_fault-requires
reserve_fault-requires c = λ found is_looked.
    let core = core_of c.self.inside in
    let s = c.args.sender in
    let is = c.self.invariant in
    let views = is.views in
    let low : s < core.words.senders = omega (arith, views, c.len.ensures, c.if-sender-len.false) in
    let view = c.index-view.result.now in
    let at = slice_get_read core.senders core.words.senders s view (sym views) low c.index-view.ensures in
    let looked_is = (is.stands.senders_know s view at).looked_is in
    subst (λ g. IsControl g found) (sym c.geometry-geometry.ensures)
    (looked_is_control c.indexes_tell_the_queue.ensures.control (ring_of core) is.stands.words_are.geometry_is is.run is.stands.words_are.run_is (Sender s) found (sym looked_is ∙ is_looked))

pub returns-in-Some : goal.returns-in-Some
returns-in-Some c =
    let core = core_of c.self.inside in
    let s = c.args.sender in
    let is = c.self.invariant in
    let views = is.views in
    let low : s < core.words.senders = omega (arith, views, c.len.ensures, c.if-sender-len.false) in
    let view = c.index-view.result.now in
    let at = slice_get_read core.senders core.words.senders s view (sym views) low c.index-view.ensures in
    let judged : (run : Run) → StandsAfter core run → fault_of (ring_of core) run (reserving s c.args.body.now c.args.closes) ≡ c.reserve_fault.result = λ run stands.
    there_is s core.words.senders (reserve_fault (ring_of core) (trail_of (Sender s) run) c.args.body.now c.args.closes) low
    ∙ sym (c.reserve_fault.ensures (ring_of core) (sym c.geometry-geometry.ensures) refl run s (stands.senders_know s view at)) in
    (subst (λ m. IsRefused m (reserving s c.args.body.now c.args.closes) c.in-Some.fault) c.self.view_is (λ run stands. judged run stands ∙ c.in-Some.is), refl)

pub win-requires-clause-accepted : goal.win-requires-clause-accepted
win-requires-clause-accepted c =
    let core = core_of c.self.inside in
    let s = c.args.sender in
    let is = c.self.invariant in
    let views = is.views in
    let low : s < core.words.senders = omega (arith, views, c.len.ensures, c.if-sender-len.false) in
    let view = c.index-view.result.now in
    let at = slice_get_read core.senders core.words.senders s view (sym views) low c.index-view.ensures in
    let judged : (run : Run) → StandsAfter core run → fault_of (ring_of core) run (reserving s c.args.body.now c.args.closes) ≡ c.reserve_fault.result = λ run stands.
    there_is s core.words.senders (reserve_fault (ring_of core) (trail_of (Sender s) run) c.args.body.now c.args.closes) low
    ∙ sym (c.reserve_fault.ensures (ring_of core) (sym c.geometry-geometry.ensures) refl run s (stands.senders_know s view at)) in
    subst (λ m. HasNoFault m (reserving s c.args.body.now c.args.closes) (λ run. FindsControl m run s c.control-found.result true)) c.self.view_is
    (λ run stands. (
      judged run stands ∙ c.in_default.is,
      (
        c.control-found.ensures.says run (subst (λ m. StandsAfter m run) c.self.view_is stands) ∙ ap (λ (m : CoreValue). control m.words.geometry (world run)) (sym c.self.view_is),
        sym (c.expects.ensures run s (stands.senders_know s view at)) ∙ c.if-expects.true,
      ),
    ))

pub lose-requires-clause-accepted : goal.lose-requires-clause-accepted
lose-requires-clause-accepted c =
    let core = core_of c.self.inside in
    let s = c.args.sender in
    let is = c.self.invariant in
    let views = is.views in
    let low : s < core.words.senders = omega (arith, views, c.len.ensures, c.if-sender-len.false) in
    let view = c.index-view.result.now in
    let at = slice_get_read core.senders core.words.senders s view (sym views) low c.index-view.ensures in
    let judged : (run : Run) → StandsAfter core run → fault_of (ring_of core) run (reserving s c.args.body.now c.args.closes) ≡ c.reserve_fault.result = λ run stands.
    there_is s core.words.senders (reserve_fault (ring_of core) (trail_of (Sender s) run) c.args.body.now c.args.closes) low
    ∙ sym (c.reserve_fault.ensures (ring_of core) (sym c.geometry-geometry.ensures) refl run s (stands.senders_know s view at)) in
    subst (λ m. HasNoFault m (reserving s c.args.body.now c.args.closes) (λ run. FindsControl m run s c.control-found.result false)) c.self.view_is
    (λ run stands. (
      judged run stands ∙ c.in_default.is,
      (
        c.control-found.ensures.says run (subst (λ m. StandsAfter m run) c.self.view_is stands) ∙ ap (λ (m : CoreValue). control m.words.geometry (world run)) (sym c.self.view_is),
        sym (c.expects.ensures run s (stands.senders_know s view at)) ∙ c.if-expects.false,
      ),
    ))
