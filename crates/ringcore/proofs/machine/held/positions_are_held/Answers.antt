use Rattle.std.proofs.Common.{◌≡◌, ◌+◌, true, false, sym, ap, ◌∙◌, subst, arith}
use Rattle.ringcore.specs.machine.Open.{all_below, is_held}
use Rattle.ringcore.proofs.MachineLemmas.HeldPlaces.{not_all, all_further}
use Rattle.ringcore.proofs.machine.held.positions_are_held.Goals as goal

pub returns-then-not-is_held : goal.returns-then-not-is_held
returns-then-not-is_held c = λ geometry ring run g many know.
    let k = c.loop-ahead.ahead in
    let here : is_held ring run (c.args.position + k) ≡ false = ap (λ n. is_held ring run (c.args.position + n)) (sym c.from.ensures) ∙ sym (c.is_held.ensures geometry ring run g many know) ∙ c.if-not-is_held.true in
    sym (not_all (λ j. is_held ring run (c.args.position + j)) k here c.args.count c.loop-ahead-test.true)

pub loop-ahead-preserved : goal.loop-ahead-preserved
loop-ahead-preserved c = λ geometry ring run g many know.
    let k = c.loop-ahead.ahead in
    let here : is_held ring run (c.args.position + k) ≡ true = ap (λ n. is_held ring run (c.args.position + n)) (sym c.from.ensures) ∙ sym (c.is_held.ensures geometry ring run g many know) ∙ c.if-not-is_held.false in
    all_further (λ j. is_held ring run (c.args.position + j)) k here (c.loop-ahead.invariant geometry ring run g many know)

pub returns : goal.returns
returns c = λ geometry ring run g many know.
    let all : c.loop-ahead.ahead ≡ c.args.count = omega (arith, c.loop-ahead-test.false, c.loop-ahead.auto.ahead-end) in
    sym (subst (λ n. all_below n (λ j. is_held ring run (c.args.position + j)) ≡ true) all (c.loop-ahead.invariant geometry ring run g many know))
