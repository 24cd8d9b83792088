use Rattle.std.proofs.Common.{sym, ◌∙◌, arith}
use Rattle.ring.proofs.ConsumerLemmas.Outcomes.{all_applied, one_more_legal}
use Rattle.ring.proofs.consumer.pending_consumer.first_illegal.Goals as goal

pub loop-place-preserved : goal.loop-place-preserved
loop-place-preserved g c = record {
  legal = one_more_legal c.args.run.now.raws c.loop-place.place c.unwrap-raw.result (sym c.get.ensures ∙ c.unwrap-raw.ensures) c.in_default.ensures.found.1 c.loop-place.invariant.legal;
}

pub returns : goal.returns
returns g c =
    all_applied c.args.run.now.raws c.args.count
    (λ i raw low at. c.loop-place.invariant.legal i raw (let past = c.loop-place-test.false in omega (arith, low, past)) at)
