use Rattle.std.proofs.Common.{ℕ, Some, Err, subst}
use Rattle.smmuq_c.specs.TrackingCalls.{HasFilledWalked}
use Rattle.smmuq_c.proofs.tracking_calls.fill_walked_in.Goals as goal

pub returns-in-Err : goal.returns-in-Err
returns-in-Err c =
    let e = c.in-Err.ensures in
    let tag = c.in-Some.tag in (
      Some tag,
      c.in-Some.ensures,
      subst (λ (walk : ℕ). HasFilledWalked walk tag c.args.value c.args.unit.now c.fill_walked.new.self c.from.result) c.from_bits.ensures (record {
        answer = Err c.in-Err.fault;
        answered = e.answer;
        caches = e.caches;
        ok = e.ok;
        err = e.err;
        rest = e.rest;
        tracked = e.tracked;
        status_is = c.from.ensures;
      }),
    )
