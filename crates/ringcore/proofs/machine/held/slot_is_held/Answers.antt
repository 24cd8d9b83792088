use Rattle.std.proofs.Common.{◌≡◌, ◌<◌, true, false, length, refl, sym, ap, ◌∙◌, subst}
use Rattle.ringcore.proofs.MachineLemmas.SomeAndAllBelow.{some_there}
use Rattle.std.proofs.lemmas.Option.{slice_get_read}
use Rattle.std.specs.Prelude.{is_some}
use Rattle.ringcore.specs.machine.Open.{holds_slot}
use Rattle.ringcore.proofs.MachineLemmas.HeldPlaces.{none_further, holds_where}
use Rattle.ringcore.proofs.machine.held.slot_is_held.Goals as goal

pub returns-then-is_some : goal.returns-then-is_some
returns-then-is_some c = λ ring run g many know.
    let s = c.loop-sender.sender in
    let at = slice_get_read c.args.views.now (length c.args.views.now) s c.index-views-sender.result refl c.loop-sender-test.true c.index-views-sender.is in
    let here : holds_slot ring run c.args.slot s ≡ true =
    sym (holds_where ring run s c.args.slot) ∙ ap is_some (sym (c.offset_of.ensures.offset ring g run s (know s c.index-views-sender.result at)))
    ∙ sym c.is_some.ensures ∙ c.if-is_some.true in
    sym (some_there (holds_slot ring run c.args.slot) s here ring.senders (subst (λ n. s < n) (sym many) c.loop-sender-test.true))

pub loop-sender-preserved : goal.loop-sender-preserved
loop-sender-preserved c = λ ring run g many know.
    let s = c.loop-sender.sender in
    let at = slice_get_read c.args.views.now (length c.args.views.now) s c.index-views-sender.result refl c.loop-sender-test.true c.index-views-sender.is in
    let here : holds_slot ring run c.args.slot s ≡ false =
    sym (holds_where ring run s c.args.slot) ∙ ap is_some (sym (c.offset_of.ensures.offset ring g run s (know s c.index-views-sender.result at)))
    ∙ sym c.is_some.ensures ∙ c.if-is_some.false in
    none_further (holds_slot ring run c.args.slot) s here (c.loop-sender.invariant ring run g many know)
