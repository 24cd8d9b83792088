-- What always holds of a tracked engine is kept by its calls.
use Rattle.std.proofs.Common.{◌≡◌, ℕ, List, [], Option, Some, None, Result, Ok, Err, sym, ap, subst, ◌∙◌, append-nil}
use Rattle.ringcore.specs.world.World.{Taken}
use Rattle.ring.specs.consumer.Completing.{taken_of}
use Rattle.transactions.specs.Tracking.{TrackedValue, IsTracked, StaysTracked}
use Rattle.caches.specs.declared.tag.Tag.{Tag}
use Rattle.caches.specs.declared.tag.Entry.{Entry}
use Rattle.transactions.specs.declared.transaction.BeginFault.{BeginFault}
use Rattle.transactions.specs.declared.transaction.Ended.{Ended}
use Rattle.transactions.specs.declared.transaction.BeginFault.TheVariants.{NotHeld, Full, Walked}
use Rattle.transactions.specs.Transactions.{TransactionValue, IsBeginAnswer, IsBeginWalkedAnswer, IsOutstandingWalk, IsEndAnswer}
use Rattle.transactions.specs.Together.{TrackedConsumer, AreTracked}
use Rattle.tracked_engine.specs.TrackedEngines.{IsTrackedEngine, consumer_in}

pub engine_tracked : (o : Option TrackedConsumer) (tracked : TrackedValue) → IsTrackedEngine o tracked → AreTracked (consumer_in o) tracked
engine_tracked None tracked together = absurd together
engine_tracked (Some d) tracked together = together

-- The unit changed, and took nothing.
pub still_together : (o : Option TrackedConsumer) (old new : TrackedValue) → IsTrackedEngine o old → new.unit.stop.next ≡ old.unit.stop.next → StaysTracked old new [] → IsTrackedEngine o new
still_together None old new together next keeps = together
still_together (Some d) old new together next keeps = record {
  tracked_is = subst (λ (l : List Taken). IsTracked new l) (append-nil (taken_of d.trail)) (keeps (taken_of d.trail) together.tracked_is);
  seen = λ raw is. together.seen raw (sym next ∙ is);
}

-- ---- a transaction that begins or ends leaves the stop as it is

pub next_after_begin : (old : TrackedValue) (tag : Tag) (new : TrackedValue) (answer : Result (Entry × TransactionValue) BeginFault) → IsBeginAnswer old tag new answer → new.unit.stop.next ≡ old.unit.stop.next
next_after_begin old tag new (Ok both) is = ap (λ (t : TrackedValue). t.unit.stop.next) is.2.new_is
next_after_begin old tag new (Err NotHeld) is = ap (λ (t : TrackedValue). t.unit.stop.next) is.0
next_after_begin old tag new (Err Full) is = ap (λ (t : TrackedValue). t.unit.stop.next) is.0
next_after_begin old tag new (Err (Walked fault)) is = absurd is

pub next_after_walked : (old : TrackedValue) (walk : ℕ) (tag : Tag) (new : TrackedValue) (answer : Result TransactionValue BeginFault) → IsBeginWalkedAnswer old walk tag new answer → new.unit.stop.next ≡ old.unit.stop.next
next_after_walked old walk tag new (Ok token) is = ap (λ (t : TrackedValue). t.unit.stop.next) is.0.new_is
next_after_walked old walk tag new (Err NotHeld) is = absurd is
next_after_walked old walk tag new (Err Full) is = ap (λ (t : TrackedValue). t.unit.stop.next) is.0
next_after_walked old walk tag new (Err (Walked fault)) is = ap (λ (t : TrackedValue). t.unit.stop.next) is.0

pub next_after_walk : (number : ℕ) (old new : TrackedValue) (answer : Option (ℕ × TransactionValue)) → IsOutstandingWalk number old new answer → new.unit.stop.next ≡ old.unit.stop.next
next_after_walk number old new (Some both) is = ap (λ (t : TrackedValue). t.unit.stop.next) is.1.new_is
next_after_walk number old new None is = ap (λ (t : TrackedValue). t.unit.stop.next) is.0

pub next_after_end : (old : TrackedValue) (token : TransactionValue) (new : TrackedValue) (answer : Result Ended TransactionValue) → IsEndAnswer old token new answer → new.unit.stop.next ≡ old.unit.stop.next
next_after_end old token new (Ok ended) is = ap (λ (t : TrackedValue). t.unit.stop.next) is.0.new_is
next_after_end old token new (Err back) is = ap (λ (t : TrackedValue). t.unit.stop.next) is.2
