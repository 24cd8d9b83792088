use Rattle.std.proofs.Common.{◌≡◌, ◌+◌, true, false, sym, ap, ◌∙◌, subst, arith}
use Rattle.std.specs.Prelude.{◌%◌}
use Rattle.qindex.specs.Positions.{place}
use Rattle.ringcore.specs.machine.Open.{all_below, slot_is_held}
use Rattle.ringcore.proofs.MachineLemmas.HeldPlaces.{not_all, all_further}
use Rattle.ringcore.proofs.machine.held.slots_are_held.Goals as goal

pub returns-then-not-slot_is_held : goal.returns-then-not-slot_is_held
returns-then-not-slot_is_held c = λ ring run g many know.
    let k = c.loop-ahead.ahead in
    let here : slot_is_held ring run (place c.args.geometry (c.args.slot + k)) ≡ false =
    ap (λ n. slot_is_held ring run ((c.args.slot + k) % n)) (sym c.size.ensures.value) ∙ sym (c.slot_is_held.ensures ring run g many know) ∙ c.if-not-slot_is_held.true in
    sym (not_all (λ j. slot_is_held ring run (place c.args.geometry (c.args.slot + j))) k here c.args.count c.loop-ahead-test.true)

pub loop-ahead-preserved : goal.loop-ahead-preserved
loop-ahead-preserved c = λ ring run g many know.
    let k = c.loop-ahead.ahead in
    let here : slot_is_held ring run (place c.args.geometry (c.args.slot + k)) ≡ true =
    ap (λ n. slot_is_held ring run ((c.args.slot + k) % n)) (sym c.size.ensures.value) ∙ sym (c.slot_is_held.ensures ring run g many know) ∙ c.if-not-slot_is_held.false in
    all_further (λ j. slot_is_held ring run (place c.args.geometry (c.args.slot + j))) k here (c.loop-ahead.invariant ring run g many know)

pub returns : goal.returns
returns c = λ ring run g many know.
    let all : c.loop-ahead.ahead ≡ c.args.count = omega (arith, c.loop-ahead-test.false, c.loop-ahead.auto.ahead-end) in
    sym (subst (λ n. all_below n (λ j. slot_is_held ring run (place c.args.geometry (c.args.slot + j))) ≡ true) all (c.loop-ahead.invariant ring run g many know))
