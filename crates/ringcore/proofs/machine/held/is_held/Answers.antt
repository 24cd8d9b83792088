use Rattle.std.proofs.Common.{◌≡◌, ◌<◌, true, false, length, refl, sym, ◌∙◌, subst, arith}
use Rattle.ringcore.proofs.MachineLemmas.SomeAndAllBelow.{some_there}
use Rattle.std.proofs.lemmas.Option.{slice_get_read}
use Rattle.ringcore.specs.machine.Open.{some_below, holds}
use Rattle.ringcore.proofs.MachineLemmas.HeldPlaces.{none_further}
use Rattle.ringcore.proofs.machine.held.is_held.Goals as goal

pub returns-then-holds : goal.returns-then-holds
returns-then-holds c = λ geometry ring run g many know.
    let s = c.loop-sender.sender in
    let at = slice_get_read c.args.views.now (length c.args.views.now) s c.index-views-sender.result refl c.loop-sender-test.true c.index-views-sender.is in
    let here : holds run s c.args.position ≡ true = sym (c.holds.ensures run s (know s c.index-views-sender.result at)) ∙ c.if-holds.true in
    sym (some_there (λ t. holds run t c.args.position) s here ring.senders (subst (λ n. s < n) (sym many) c.loop-sender-test.true))

pub loop-sender-preserved : goal.loop-sender-preserved
loop-sender-preserved c = λ geometry ring run g many know.
    let s = c.loop-sender.sender in
    let at = slice_get_read c.args.views.now (length c.args.views.now) s c.index-views-sender.result refl c.loop-sender-test.true c.index-views-sender.is in
    let here : holds run s c.args.position ≡ false = sym (c.holds.ensures run s (know s c.index-views-sender.result at)) ∙ c.if-holds.false in
    none_further (λ t. holds run t c.args.position) s here (c.loop-sender.invariant geometry ring run g many know)

pub returns : goal.returns
returns c = λ geometry ring run g many know.
    let all : c.loop-sender.sender ≡ ring.senders = omega (arith, many, c.loop-sender-test.false, c.loop-sender.auto.sender-end) in
    sym (subst (λ n. some_below n (λ s. holds run s c.args.position) ≡ false) all (c.loop-sender.invariant geometry ring run g many know))
