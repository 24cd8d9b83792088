-- A new ring: what its handles hold.
use Rattle.std.specs.Prelude.{◌≡◌, ◌-◌, ◌^◌, ℕ, min, List, length, map, reverse, Option, Some, None}
use Rattle.std.specs.Global.{Box}
use Rattle.caches.specs.declared.fault.CacheFault.TheVariants.{BadCapacity}
use Rattle.ringcore.specs.RingFaults.{number_fault, IsNotMade}
use Rattle.ring.specs.Rings.{RingValue}
use Rattle.ring.specs.NewRings.{IsNewRing}
use Rattle.ring.specs.sender.Senders.{SenderValue}
use Rattle.ring.specs.consumer.Consumers.{ConsumerValue}
use Rattle.engine.specs.Units.{UnitValue}
use Rattle.caches.specs.Limits.{IsCapacity}
use Rattle.smmuq_c.specs.declared.status.Status.{Status}
use Rattle.smmuq_c.specs.declared.status.Status.TheVariants.{Done, Cache, Ring, NoMemory, BadField}
use Rattle.smmuq_c.specs.declared.object.Object.{Object}
use Rattle.smmuq_c.specs.declared.object.Object.TheVariants.{Sender as SenderOf, Engine as EngineOf, Consumer as ConsumerOf, Forwarder as ForwarderOf}
use Rattle.smmuq_c.specs.declared.seated_consumer.CallersDevice.{CallersDevice}
use Rattle.smmuq_c.specs.declared.handle.Handle.{Handle}
use Rattle.ring.specs.consumer.PendingConsumers.{with_none}
use Rattle.qindex.specs.Indexes.{IsGeometry}
use Rattle.ring.specs.consumer.Deferring.{deferring}
use Rattle.hardware_queue.specs.declared.state.QueueState.TheVariants.{Running}
use Rattle.hardware_queue.specs.Queues.{QueueValue}
use Rattle.hardware_queue.specs.Owners.{OwnerValue, IsNew}
use Rattle.smmuq_c.specs.Making.{IsNewUnit}

-- ---- what takes a new ring's commands

-- an engine with empty caches for so many entries
abbrev pub IsNewEngine : ℕ → ConsumerValue UnitValue → Object → Type 0
IsNewEngine capacity consumer object = (unit : UnitValue) × IsNewUnit capacity unit × (object ≡ EngineOf (record { consumer = consumer; unit = unit }))

-- the consumer, with nothing pending
abbrev pub IsNewConsumer : ConsumerValue CallersDevice → Object → Type 0
IsNewConsumer consumer object = object ≡ ConsumerOf (with_none consumer)

-- the forwarder, with a queue of its own that has not begun
pub record IsNewForwarder (queue_log2 : ℕ) (consumer : ConsumerValue (OwnerValue QueueValue)) (object : Object) : Type 0 where
  pub queue : QueueValue
  pub in_range : IsGeometry queue_log2
  pub queue_is : IsNew queue queue_log2
  pub object_is : object ≡ ForwarderOf (record { consumer = deferring consumer; owner = record { queue = queue; state = Running } })

-- ---- a ring

-- A new ring's senders in the order of their numbers, and what takes its commands.
pub record AreNewSeats {D : Type 0} (is_taker : ConsumerValue D → Object → Type 0) (log2 senders max_batches : ℕ) (seats : List Object) (taker : Object) : Type 0 where
  pub ring : RingValue
  pub all : List SenderValue
  pub consumer : ConsumerValue D
  pub new_ring : IsNewRing log2 senders max_batches ring all consumer
  pub seats_are : seats ≡ map SenderOf all
  pub taker_is : is_taker consumer taker

abbrev pub objects_in : List Handle → List (Option Object)
objects_in handles = map (λ (h : Handle). h.object) handles

-- the number of handles, at most 2^32 - 1
abbrev pub sender_count : List Handle → ℕ
sender_count handles = min (length handles) (2 ^ 32 - 1)

-- They are in the handles, the first sender in the first one.
abbrev pub IsRing : {D : Type 0} → (ConsumerValue D → Object → Type 0) → ℕ → ℕ → List Handle → Option Object → Type 0
IsRing is_taker log2 max_batches senders taker =
    (seats : List Object) × (seat : Object) × AreNewSeats is_taker log2 (length senders) max_batches seats seat
    × (objects_in senders ≡ map Some seats) × (taker ≡ Some seat)

-- why none is made
abbrev pub IsNoRing : ℕ → ℕ → ℕ → Status → Type 0
IsNoRing log2 senders max_batches (Ring fault) = IsNotMade (number_fault log2 senders max_batches) fault
IsNoRing log2 senders max_batches NoMemory = number_fault log2 senders max_batches ≡ None
IsNoRing log2 senders max_batches other = ⊥

-- why none is made with an engine
abbrev pub IsNoEngineRing : ℕ → ℕ → ℕ → ℕ → Status → Type 0
IsNoEngineRing log2 senders max_batches capacity (Cache BadCapacity) = ¬ IsCapacity capacity
IsNoEngineRing log2 senders max_batches capacity other = IsCapacity capacity × IsNoRing log2 senders max_batches other

-- why none is made with a forwarder
abbrev pub IsNoForwarderRing : ℕ → ℕ → ℕ → ℕ → Status → Type 0
IsNoForwarderRing log2 senders max_batches queue_log2 BadField = ¬ IsGeometry queue_log2
IsNoForwarderRing log2 senders max_batches queue_log2 other = IsGeometry queue_log2 × IsNoRing log2 senders max_batches other

-- All handles hold what they are for; or all are as before, and this is why.
abbrev pub HasMade : (List Handle → Option Object → Type 0) → (Status → Type 0) → List Handle → List Handle → Option Object → Option Object → Status → Type 0
HasMade is_made is_none old new old_taker new_taker Done = is_made new new_taker
HasMade is_made is_none old new old_taker new_taker status = is_none status × (new ≡ old) × (new_taker ≡ old_taker)

abbrev pub HasMadeRing : ℕ → ℕ → ℕ → List Handle → List Handle → Option Object → Option Object → Status → Type 0
HasMadeRing log2 max_batches capacity old new old_engine new_engine status =
    HasMade (IsRing (IsNewEngine capacity) log2 max_batches) (IsNoEngineRing log2 (sender_count old) max_batches capacity) old new old_engine new_engine status

abbrev pub HasMadeConsumerRing : ℕ → ℕ → List Handle → List Handle → Option Object → Option Object → Status → Type 0
HasMadeConsumerRing log2 max_batches old new old_consumer new_consumer status =
    HasMade (IsRing IsNewConsumer log2 max_batches) (IsNoRing log2 (sender_count old) max_batches) old new old_consumer new_consumer status

abbrev pub HasMadeForwarderRing : ℕ → ℕ → ℕ → List Handle → List Handle → Option Object → Option Object → Status → Type 0
HasMadeForwarderRing log2 max_batches queue_log2 old new old_forwarder new_forwarder status =
    HasMade (IsRing (IsNewForwarder queue_log2) log2 max_batches) (IsNoForwarderRing log2 (sender_count old) max_batches queue_log2) old new old_forwarder new_forwarder status

-- ---- in between

-- what boxes hold, the last first
abbrev pub boxed : List (Box Object) → List Object
boxed boxes = reverse (map (λ (b : Box Object). b.value) boxes)
