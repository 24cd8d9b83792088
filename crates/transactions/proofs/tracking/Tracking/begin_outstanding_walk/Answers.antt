use Rattle.std.proofs.Common.{◌≡◌, ℕ, refl, ap, subst, ◌∙◌}
use Rattle.engine.specs.Counting.{taken}
use Rattle.transactions.specs.declared.used.Used.TheVariants.{Tables}
use Rattle.transactions.specs.Tracking.{TrackedValue, tracked_with}
use Rattle.transactions.specs.Transactions.{IsBegun}
use Rattle.transactions.proofs.Covering.{began_tracked, fresh_now}
use Rattle.transactions.proofs.Together.{stays_together, unchanged_tracked, unchanged_together}
use Rattle.transactions.proofs.tracking.Tracking.begin_outstanding_walk.Goals as goal

-- It counts from the commands taken until now.
now_is : (c : goal.In-Some) → c.taken-taken.result ≡ taken c.args.unit.now.counts
now_is c = c.taken-taken.ensures.value ∙ ap taken c.counts.ensures

pub returns-in-Some-clause-begun : goal.returns-in-Some-clause-begun
returns-in-Some-clause-begun c =
    let old = tracked_with c.args.unit.now c.args.self.now in
    let new = tracked_with c.args.unit.now c.begin_with.new.self in
    (refl, subst (λ (n : ℕ). IsBegun old Tables n new c.in-Some.transaction) (now_is c) (c.in-Some.ensures.begun c.args.unit.now))

pub returns-in-Some-clause-tracked : goal.returns-in-Some-clause-tracked
returns-in-Some-clause-tracked c list is =
    began_tracked (tracked_with c.args.unit.now c.args.self.now) (tracked_with c.args.unit.now c.begin_with.new.self) list c.in-Some.transaction.slot Tables c.taken-taken.result is
    (fresh_now list Tables c.taken-taken.result (now_is c ∙ is.many)) (c.in-Some.ensures.begun c.args.unit.now).new_is

pub returns-in-Some-clause-together : goal.returns-in-Some-clause-together
returns-in-Some-clause-together c =
    stays_together (tracked_with c.args.unit.now c.args.self.now) (tracked_with c.args.unit.now c.begin_with.new.self) (returns-in-Some-clause-tracked c)
    (ap (λ (t : TrackedValue). t.unit.stop.next) (c.in-Some.ensures.begun c.args.unit.now).new_is)

pub returns-in-None-clause-begun : goal.returns-in-None-clause-begun
returns-in-None-clause-begun c = c.in-None.ensures.begun c.args.unit.now

pub returns-in-None-clause-tracked : goal.returns-in-None-clause-tracked
returns-in-None-clause-tracked c = unchanged_tracked _ _ (c.in-None.ensures.begun c.args.unit.now).0

pub returns-in-None-clause-together : goal.returns-in-None-clause-together
returns-in-None-clause-together c = unchanged_together _ _ (c.in-None.ensures.begun c.args.unit.now).0
