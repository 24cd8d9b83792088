use Rattle.std.proofs.Common.{◌≡◌, ◌<◌, ◌∙◌, ap, sym, subst, arith}
use Rattle.std.proofs.lemmas.Option.{slice_get_read}
use Rattle.std.specs.Prelude.{Some}
use Rattle.ringcore.specs.declared.machine.step.Step.TheVariants.{Look}
use Rattle.ringcore.specs.declared.machine.step.Seen.TheVariants.{Word}
use Rattle.ringcore.specs.world.World.{world, control}
use Rattle.ringcore.specs.machine.Core.{CoreValue, core_of, ring_of, StandsAfter, IsTaken}
use Rattle.ringcore.proofs.MachineLemmas.SenderSteps.{with_view, looked_machine, look_taken}
use Rattle.ringcore.proofs.machine.Core.sender_looks.Goals as goal

pub invariant_of-self : goal.invariant_of-self
invariant_of-self c =
    let core = core_of c.self.inside in
    let s = c.args.sender in
    let views = c.self.invariant.views in
    let low : s < core.words.senders = omega (arith, views, c.len.ensures, c.if-sender-len.false) in
    looked_machine c.look.ensures.finds core s low c.control-found.result (λ run stands. c.control-found.ensures.says run (subst (λ m. StandsAfter m run) c.self.view_is stands) ∙ ap (λ (m : CoreValue). control m.words.geometry (world run)) (sym c.self.view_is))
    c.index_mut.result.now c.looks.new.self (slice_get_read core.senders core.words.senders s c.index_mut.result.now (sym views) low c.index_mut.ensures.value) c.looks.ensures c.self.invariant

pub returns : goal.returns
returns c =
    let core = core_of c.self.inside in
    let s = c.args.sender in
    let views = c.self.invariant.views in
    let low : s < core.words.senders = omega (arith, views, c.len.ensures, c.if-sender-len.false) in
    subst (λ old. IsTaken old (with_view core s c.looks.new.self) (Look (Some s)) (Word c.control-found.result) × (ring_of (with_view core s c.looks.new.self) ≡ ring_of old)) c.self.view_is
    (look_taken c.look.ensures.finds core s low c.control-found.result (λ run stands. c.control-found.ensures.says run (subst (λ m. StandsAfter m run) c.self.view_is stands) ∙ ap (λ (m : CoreValue). control m.words.geometry (world run)) (sym c.self.view_is))
    c.index_mut.result.now c.looks.new.self (slice_get_read core.senders core.words.senders s c.index_mut.result.now (sym views) low c.index_mut.ensures.value) c.looks.ensures)
