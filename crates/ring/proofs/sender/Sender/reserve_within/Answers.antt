use Rattle.std.proofs.Common.{rules, ℕ, List, sym, subst, add-one, arith}
use Rattle.ring.specs.Runs.{Raw}
use Rattle.ring.specs.sender.{IsRefused, HasTried}
use Rattle.ring.proofs.SenderLemmas.GoingOn.{on_again, then_opened}
use Rattle.ring.proofs.sender.Sender.reserve_within.Goals as goal

pub returns-in-Ok-clause-opened : goal.returns-in-Ok-clause-opened
returns-in-Ok-clause-opened g c = then_opened c.loop-tried.invariant.on c.in-Ok.ensures.opened

pub returns-then-tried-tries-clause-given_back : goal.returns-then-tried-tries-clause-given_back
returns-then-tried-tries-clause-given_back g c = on_again c.loop-tried.invariant.on c.in-Err.ensures.given_back

pub loop-tried-preserved : goal.loop-tried-preserved
loop-tried-preserved g c =
    let s = c.loop-tried.sender in let t = c.in-Err.refused.sender in
    record {
      on = on_again c.loop-tried.invariant.on c.in-Err.ensures.given_back;
      left = (let not_last = c.if-tried-tries.false in let more = c.loop-tried-test.true in omega arith);
      tried = subst (λ (k : ℕ). HasTried c.args.batch g.K.BatchKind.closes k c.args.self t) (sym (add-one c.loop-tried.tried)) (s, c.in-Err.refused.cause, c.loop-tried.invariant.tried, search rules, subst (λ (b : List Raw). IsRefused b g.K.BatchKind.closes s c.in-Err.refused.cause t) c.reborrow.ensures c.in-Err.ensures.refused);
    }
