-- A queue whose senders have all met its engine, and whose engine then looked.
use Rattle.std.specs.Prelude.{◌≡◌, ℕ, List, [], ◌∷◌, ◌++◌, map, Some, slice_get}
use Rattle.qindex.specs.declared.control.Control.{Control}
use Rattle.qindex.specs.Indexes.{IsGeometry}
use Rattle.ringcore.specs.declared.world.event.Who.{Who}
use Rattle.ringcore.specs.declared.world.event.Who.TheVariants.{Consumer, Sender}
use Rattle.ringcore.specs.declared.world.event.Event.TheVariants.{Look}
use Rattle.ringcore.specs.world.Trails.{Run, Trail, trail_of, looked}
use Rattle.ringcore.specs.world.World.{world, control}
use Rattle.ring.specs.table.Histories.{GrewBy}
use Rattle.ring.specs.Finishing.{AreAll}
use Rattle.ring.specs.sender.Senders.{SenderValue}
use Rattle.ring.specs.consumer.Consumers.{ConsumerValue}
use Rattle.ring.specs.consumer.Taking.{with_trail}
use Rattle.engine.specs.Units.{UnitValue}
use Rattle.engine.specs.declared.answer.Registers.{Registers}
use Rattle.engine.specs.Engines.{EngineValue}
use Rattle.engine.specs.Engines as engine
use Rattle.renewal.specs.declared.queue.Queue.{Queue}

-- It has all senders of its ring, and its engine serves that ring.
pub record IsWhole (queue : Queue) : Type 0 where
  pub senders : AreAll queue.ring queue.senders.items
  pub ring : queue.engine.consumer.ring ≡ queue.ring

-- ---- what stays

-- senders and a consumer without their histories
abbrev pub unknowing_sender : SenderValue → SenderValue
unknowing_sender s = record s { history = [] }

abbrev pub unknowing_senders : List SenderValue → List SenderValue
unknowing_senders senders = map unknowing_sender senders

abbrev pub unknowing_consumer : ConsumerValue UnitValue → ConsumerValue UnitValue
unknowing_consumer d = record d { history = [] }

-- The run went on from one in which this participant has this trail.
pub record HasInIt (who : Who) (trail : Trail) (run : Run) : Type 0 where
  pub newer : Run
  pub older : Run
  pub run_is : run ≡ newer ++ older
  pub trail_is : trail_of who older ≡ trail

-- ---- the look

-- An engine looked once, as `Engine::registers` does.
abbrev pub EngineHasLooked : EngineValue → EngineValue → Type 0
EngineHasLooked old new = (found : Registers) × engine.HasLooked old new found

-- The engine looked once, and found what the run that it knows from then on says. That run went on from the
-- one that it knew before, and has the trails of all senders. Except for this look, and for what each knows
-- of the run, the queue is as it was.
pub record HasLooked (old new : Queue) : Type 0 where
  pub found : Control
  pub found_is : found ≡ control old.ring.made_with.geometry (world new.engine.consumer.history)
  pub ring_is : new.ring ≡ old.ring
  pub senders_are : unknowing_senders new.senders.items ≡ unknowing_senders old.senders.items
  pub unit_is : new.engine.unit ≡ old.engine.unit
  pub consumer_is : unknowing_consumer new.engine.consumer ≡ with_trail (unknowing_consumer old.engine.consumer) (Look found ∷ old.engine.consumer.trail)
  pub grew : GrewBy Consumer (Look found) old.engine.consumer.history new.engine.consumer.history
  pub known : (k : ℕ) (s : SenderValue) → slice_get new.senders.items k ≡ Some s → HasInIt (Sender k) s.trail new.engine.consumer.history

-- PROD and CONS are equal.
abbrev pub AreAtOnePlace : Control → Type 0
AreAtOnePlace c = c.prod.number ≡ c.cons.number

-- By the newest look of a consumer with this trail they differ: a command is reserved that isn't taken.
pub record SawWaiting (trail : Trail) : Type 0 where
  pub found : Control
  pub looked_at : looked trail ≡ Some found
  pub apart : ¬ AreAtOnePlace found

-- The engine knows a run that has the trails of all senders, in which PROD and CONS are equal.
pub record KnowsNoneWaits (queue : Queue) : Type 0 where
  pub sized : IsGeometry queue.ring.made_with.geometry
  pub at_one_place : AreAtOnePlace (control queue.ring.made_with.geometry (world queue.engine.consumer.history))
  pub known : (k : ℕ) (s : SenderValue) → slice_get queue.senders.items k ≡ Some s → HasInIt (Sender k) s.trail queue.engine.consumer.history
