use Rattle.std.proofs.Common.{refl, arith}
use Rattle.ring.proofs.ConsumerLemmas.Outcomes.{one_replaced}
use Rattle.ring.proofs.consumer.pending_consumer.complete_first.Goals as goal

pub complete_run-consumer-requires-in-Some-clause-outcome : goal.complete_run-consumer-requires-in-Some-clause-outcome
complete_run-consumer-requires-in-Some-clause-outcome g c = one_replaced c.args.run.raws c.args.count c.in-Some.field-0 c.if-count-eq1.true c.in-Some.ensures

pub complete_run-consumer-requires-in-Some-clause-settled : goal.complete_run-consumer-requires-in-Some-clause-settled
complete_run-consumer-requires-in-Some-clause-settled g c =
    c.requires.settled _ (one_replaced c.args.run.raws c.args.count c.in-Some.field-0 c.if-count-eq1.true c.in-Some.ensures)

pub returns-in-Some-clause-completed : goal.returns-in-Some-clause-completed
returns-in-Some-clause-completed g c =
    let e = c.complete_run-consumer-in-Some.ensures in
    let one = c.if-count-eq1.true in
    let past = c.if-count-len.false in
    let many = c.len.ensures.value in (
      one,
      record {
        some = omega (arith, one);
        within = omega (arith, past, many);
        outcome_is = one_replaced c.args.run.raws c.args.count c.in-Some.field-0 one c.in-Some.ensures;
        consumer_is = e.consumer;
        grew = e.history;
        taken_are = e.taken;
        none_pending = refl;
      },
    )
