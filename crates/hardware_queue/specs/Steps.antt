-- What a forwarder is, and what its calls do.
use Rattle.std.specs.Prelude.{◌≡◌, ℕ, ◌≤◌, ◌++◌, ◌∷◌, ◌-◌, true, false, List, [], map, take, length, min, Some, slice_get}
use Rattle.cmdcodec.specs.declared.raw.Raw.{Raw}
use Rattle.cmdcodec.specs.declared.ill.Ill.{Ill}
use Rattle.cmdcodec.specs.Legality.{first_ill}
use Rattle.qindex.specs.Positions.{size}
use Rattle.ringcore.specs.declared.world.event.Event.TheVariants.{Advance}
use Rattle.ringcore.specs.declared.world.event.Outcome.{Outcome}
use Rattle.ringcore.specs.declared.world.event.Outcome.TheVariants.{Applied, Replaced}
use Rattle.ring.specs.consumer.Consumers.{ConsumerValue}
use Rattle.ring.specs.consumer.Pendings.{PendingValue}
use Rattle.ring.specs.consumer.Taking.{TookNone, TookUnwritten, TookRun}
use Rattle.ring.specs.consumer.Completing.{taken_of, with_outcome, all_acknowledged}
use Rattle.ring.specs.consumer.Deferring.{DeferringValue, settled_raws, unsettled_raws}
use Rattle.hardware_queue.specs.declared.forwarded.Forwarded.{Forwarded}
use Rattle.hardware_queue.specs.declared.forwarded.Forwarded.TheVariants as answer
use Rattle.hardware_queue.specs.declared.queue_progress.Progress.{Progress}
use Rattle.hardware_queue.specs.declared.queue_progress.Progress.TheVariants as progress
use Rattle.hardware_queue.specs.declared.state.QueueState.TheVariants as state
use Rattle.hardware_queue.specs.Queues.{QueueValue}
use Rattle.hardware_queue.specs.Owners.{OwnerValue, HasPushed}
use Rattle.hardware_queue.specs.Flights.{IsPassing, IsConsumed, BeginsLegal}

-- a forwarder: the consumer of its ring, and the owner of the hardware's queue
pub record ForwarderValue (Q : Type 0) : Type 0 where
  pub consumer : DeferringValue (OwnerValue Q)
  pub owner : OwnerValue Q

-- ---- forward

-- how many more commands it may take: as many may be unsettled as the hardware's queue has slots
abbrev pub room_for : {D : Type 0} → QueueValue → DeferringValue D → ℕ
room_for q consumer = size q.geometry - length (unsettled_raws consumer)

-- as many as fit, and no more than a run has
abbrev pub most_taken : {D : Type 0} → QueueValue → DeferringValue D → ℕ
most_taken q consumer = min (room_for q consumer) 64

-- Of a run the first `count` commands were taken, in one step, and all with this outcome. Nothing was acknowledged.
pub record HasTaken {D : Type 0} (outcome : Outcome) (count : ℕ) (run : PendingValue D) (new : ConsumerValue D) : Type 0 where
  pub advanced : record new { history = [] } ≡ record run.consumer
      { trail = Advance (take count run.raws) ∷ run.consumer.trail; history = [] }
  pub taken : taken_of new.trail
      ≡ taken_of run.consumer.trail ++ map (with_outcome outcome) (take count run.raws)

-- Its commands up to the first illegal one were taken, at least one, and the hardware was shown what it gets for them.
pub record IsShown {D : Type 0} (run : PendingValue D) (new : ConsumerValue D) (q r : QueueValue) (count : ℕ) : Type 0 where
  pub all : List Raw
  pub passing : IsPassing run.raws all
  pub some : 1 ≤ count
  pub whole : count ≡ length all
  pub pushed : HasPushed all q r count
  pub taken : HasTaken Applied count run new

-- It begins with this command, which is illegal, and that alone was taken. The hardware wasn't shown it.
pub record IsReplaced {D : Type 0} (run : PendingValue D) (new : ConsumerValue D) (q r : QueueValue) (raw : Raw) : Type 0 where
  pub first : slice_get run.raws 0 ≡ Some raw
  pub ill : Ill
  pub illegal : first_ill raw ≡ Some ill
  pub taken : HasTaken Replaced 1 run new
  pub untouched : r ≡ q

-- what was done with a run, by the answer
abbrev pub IsDone : {D : Type 0} → PendingValue D → ConsumerValue D → QueueValue → QueueValue → Forwarded → Type 0
IsDone run new q r (answer.Shown count) = IsShown run new q r count
IsDone run new q r (answer.Replaced raw) = IsReplaced run new q r raw
IsDone run new q r other = ⊥

-- It found a run at the head, of as many commands as fit at most.
pub record HasServed {D : Type 0} (old new : DeferringValue D) (q r : QueueValue) (answer : Forwarded) : Type 0 where
  pub run : PendingValue D
  pub took : TookRun (most_taken q old) old.consumer run
  pub done : IsDone run new.consumer q r answer

-- There was room, and nothing to take, as this says.
pub record HasFoundNone {D : Type 0} (Found : ConsumerValue D → ConsumerValue D → Type 0) (old new : DeferringValue D) (q r : QueueValue) : Type 0 where
  pub room : 1 ≤ room_for q old
  pub found : Found old.consumer new.consumer
  pub untouched : r ≡ q

-- what a call of `forward` did, for a queue that is seen as `queue` says
abbrev pub HasForwarded : {Q : Type 0} → (Q → QueueValue) → ForwarderValue Q → ForwarderValue Q → Forwarded → Type 0
HasForwarded queue old new answer.Empty =
    HasFoundNone (TookNone false) old.consumer new.consumer (queue old.owner.queue) (queue new.owner.queue)
HasForwarded queue old new answer.Drained =
    HasFoundNone (TookNone true) old.consumer new.consumer (queue old.owner.queue) (queue new.owner.queue)
HasForwarded queue old new answer.Unwritten =
    HasFoundNone (TookUnwritten (most_taken (queue old.owner.queue) old.consumer)) old.consumer new.consumer
    (queue old.owner.queue) (queue new.owner.queue)
HasForwarded queue old new answer.Full = (room_for (queue old.owner.queue) old.consumer ≡ 0) × (new ≡ old)
HasForwarded queue old new (answer.Broken word) = (old.owner.state ≡ state.Broken word) × (new ≡ old)
HasForwarded queue old new served =
    HasServed old.consumer new.consumer (queue old.owner.queue) (queue new.owner.queue) served

-- ---- poll

-- These were settled, and each CMD_SYNC among them was acknowledged, in order. Nothing was taken.
pub record HasSettled {D : Type 0} (now : List Raw) (old new : DeferringValue D) : Type 0 where
  pub settled : settled_raws new ≡ settled_raws old ++ now
  pub unsettled : unsettled_raws old ≡ now ++ unsettled_raws new
  pub acknowledged : new.consumer.trail ≡ all_acknowledged now old.consumer.trail

-- One command was settled.
abbrev pub HasSettledOne : {D : Type 0} → DeferringValue D → DeferringValue D → Type 0
HasSettledOne old new = (raw : Raw) × HasSettled (raw ∷ []) old new

-- What the hardware has consumed is settled, no more and no less, and with it each illegal command ahead of the next
-- that is for the hardware.
pub record HasSettledAll {D : Type 0} (q : QueueValue) (old new : DeferringValue D) : Type 0 where
  pub now : List Raw
  pub settled : HasSettled now old new
  pub consumed : IsConsumed q (settled_raws new)
  pub next : BeginsLegal (unsettled_raws new)

-- what was settled, by what a look found: nothing where it found what no working queue has
abbrev pub HasSettledAt : {D : Type 0} → Progress → QueueValue → DeferringValue D → DeferringValue D → Type 0
HasSettledAt (progress.Broken word) q old new = new ≡ old
HasSettledAt other q old new = HasSettledAll q old new
