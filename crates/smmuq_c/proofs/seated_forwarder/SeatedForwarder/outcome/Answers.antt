use Rattle.std.proofs.Common.{refl, inl, arith}
use Rattle.smmuq_c.proofs.seated_forwarder.SeatedForwarder.outcome.Goals as goal

pub returns-clause-called : goal.returns-clause-called
returns-clause-called c =
    let below = c.if-sender-senders.false in
    let many = c.senders.ensures in
    rw (← c.self.view_is) (
      refl,
      inl (record {
        known = omega (arith, below, many);
        outcome = c.outcome_of.result;
        is = c.outcome_of.ensures.outcome;
        whole = c.outcome_of.ensures.whole;
        told_is = c.from.ensures;
        status_is = refl;
      }),
    )
