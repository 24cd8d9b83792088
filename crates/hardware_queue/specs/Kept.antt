-- What a forwarder keeps of the commands in flight.
use Rattle.std.specs.Prelude.{◌≡◌, ℕ, ◌+◌, length, map}
use Rattle.circular_buffer.specs.Buffer.{Buffer}
use Rattle.cmdcodec.specs.declared.raw.Raw.{Raw}
use Rattle.qindex.specs.Positions.{size}
use Rattle.ringcore.specs.world.World.{outcome_of}
use Rattle.ring.specs.consumer.Completing.{taken_of}
use Rattle.ring.specs.consumer.Deferring.{DeferringValue, settled_raws, unsettled_raws}
use Rattle.hardware_queue.specs.declared.flight.InFlight.{InFlight}
use Rattle.hardware_queue.specs.declared.state.QueueState.{QueueState}
use Rattle.hardware_queue.specs.Queues.{QueueValue}
use Rattle.hardware_queue.specs.Owners.{IsStoppedState}
use Rattle.hardware_queue.specs.Flights.{passed_on, passed_for, IsConsumed, BeginsLegal, NoSyncIsLost}
use Rattle.hardware_queue.specs.Forwarders.{count_lost}

-- a command with its outcome in the ring
abbrev pub in_flight : Raw → InFlight
in_flight raw = record { raw = raw; outcome = outcome_of raw }

-- All that was taken was shown, as far as it is legal. What isn't settled is kept, with room for as many as the
-- hardware's queue has slots. At a stop the first of it is the command at which the hardware stopped.
pub record IsInFlight {D : Type 0} (q : QueueValue) (found : QueueState) (consumer : DeferringValue D) (kept : Buffer InFlight) : Type 0 where
  pub shown : q.shown ≡ passed_on (taken_of consumer.consumer.trail)
  pub consumed : IsConsumed q (settled_raws consumer)
  pub kept_are : kept.items ≡ map in_flight (unsettled_raws consumer)
  pub capacity : kept.capacity ≡ size q.geometry
  pub stopped : IsStoppedState found → BeginsLegal (unsettled_raws consumer)

-- The same while it is settled: `left` more were consumed than are settled.
pub record IsBeingSettled {D : Type 0} (q : QueueValue) (consumer : DeferringValue D) (kept : Buffer InFlight) (left : ℕ) : Type 0 where
  pub shown : q.shown ≡ passed_on (taken_of consumer.consumer.trail)
  pub consumed : q.consumed ≡ length (passed_for (settled_raws consumer)) + left
  pub kept_are : kept.items ≡ map in_flight (unsettled_raws consumer)
  pub capacity : kept.capacity ≡ size q.geometry

-- What it keeps: what is in flight, that no CMD_SYNC was written over, and how many commands were.
pub record IsForwarder {D : Type 0} (q : QueueValue) (found : QueueState) (consumer : DeferringValue D) (kept : Buffer InFlight) (lost : ℕ) : Type 0 where
  pub in_flight : IsInFlight q found consumer kept
  pub syncs : NoSyncIsLost q
  pub lost_are : lost ≡ count_lost q
