-- Senders that have met the engine one after another.
use Rattle.std.specs.Prelude.{◌≡◌, ◌≤◌, ◌<◌, ℕ, List, Some, length, slice_get}
use Rattle.qindex.specs.Indexes.{IsGeometry}
use Rattle.ringcore.specs.declared.world.event.Who.TheVariants.{Consumer, Sender}
use Rattle.ring.specs.Rings.{RingValue}
use Rattle.ring.specs.table.Rule.{IsWithinLimits, WentOn}
use Rattle.ring.specs.sender.Senders.{SenderValue}
use Rattle.engine.specs.Engines.{EngineValue}
use Rattle.renewal.specs.Queues.{HasInIt, unknowing_senders, unknowing_consumer}

-- what is known of a ring that has a sender
pub record IsOfSize (ring : RingValue) : Type 0 where
  pub geometry_is : IsGeometry ring.made_with.geometry
  pub limits : IsWithinLimits ring.made_with

-- The first `many` have met the engine, which knows a run that has their trails. Except for what each knows
-- of the run, nothing has changed.
pub record FirstHaveMet (many : ℕ) (ring : RingValue) (old_senders senders : List SenderValue) (old new : EngineValue) : Type 0 where
  pub senders_are : unknowing_senders senders ≡ unknowing_senders old_senders
  pub unit_is : new.unit ≡ old.unit
  pub consumer_is : unknowing_consumer new.consumer ≡ unknowing_consumer old.consumer
  pub went_on : WentOn Consumer old.consumer.history new.consumer.history
  pub known : (k : ℕ) (s : SenderValue) → k < many → slice_get senders k ≡ Some s → HasInIt (Sender k) s.trail new.consumer.history
  pub size_is : 1 ≤ many → IsOfSize ring

-- All have met the engine.
abbrev pub HaveMet : RingValue → List SenderValue → List SenderValue → EngineValue → EngineValue → Type 0
HaveMet ring old_senders senders old new = FirstHaveMet (length old_senders) ring old_senders senders old new
