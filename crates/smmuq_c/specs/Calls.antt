-- What a call does to the object that a handle holds.
use Rattle.std.specs.Prelude.{◌≡◌, ℕ, [], Option, None, Some, MatchOption}
use Rattle.ring.specs.sender.Senders.{SenderValue}
use Rattle.ring.specs.consumer.Completing.{taken_of}
use Rattle.engine.specs.Settled.{IsSettled}
use Rattle.engine.specs.Units.{UnitValue, StaysSettled}
use Rattle.engine.specs.declared.queue_unit.QueueUnit.{QueueUnit}
use Rattle.engine.specs.declared.queue_unit.StopRemedy.{StopRemedy}
use Rattle.engine.specs.QueueUnits.{remedy_until_then}
use Rattle.engine.specs.Engines.{EngineValue, IsSettledEngine}
use Rattle.transactions.specs.Tracking.{StaysTracked}
use Rattle.transactions.specs.TrackedQueueUnits.{TrackedQueueValue, tracked_in, with_queue}
use Rattle.transactions.specs.TrackedQueueUnits.{with_its_unit, with_removed, RefusesWalks}
use Rattle.smmuq_c.specs.HeldConsumers.{HeldConsumer}
use Rattle.smmuq_c.specs.HeldForwarders.{HeldForwarder}
use Rattle.smmuq_c.specs.Registers.{HasAcknowledged, HasAcknowledgedQueue, error_words, queue_error_words, count_words}
use Rattle.smmuq_c.specs.Statuses.{number_of}
use Rattle.smmuq_c.specs.declared.handle.Handle.{Handle}
use Rattle.smmuq_c.specs.declared.status.Status.{Status}
use Rattle.smmuq_c.specs.declared.status.Status.TheVariants.{Done, EmptyHandle, WrongHandle, BadField, OpenReservation}
use Rattle.smmuq_c.specs.declared.words.Errors.{Errors}
use Rattle.smmuq_c.specs.declared.words.Tallies.{Tallies}
use Rattle.smmuq_c.specs.declared.object.Object.{Object}
use Rattle.smmuq_c.specs.declared.object.Object.TheVariants.{Unit as UnitOf, Sender as SenderOf, Reservation as ReservationOf, Engine as EngineOf, Consumer as ConsumerOf, Forwarder as ForwarderOf}

-- A status has this number, and this is so of it.
abbrev pub Answers : (Status → Type 0) → ℕ → Type 0
Answers told number = (status : Status) × (number ≡ number_of status) × told status

-- The call did this to the object, and answered its status; or there is none, before and after.
abbrev pub HasCalledOn : (Object → Object → Status → Type 0) → Option Object → Option Object → ℕ → Type 0
HasCalledOn does None new number = (new ≡ None) × (number ≡ number_of EmptyHandle)
HasCalledOn does (Some old) new number = (after : Object) × (new ≡ Some after) × Answers (does old after) number

-- The same of what a handle holds.
abbrev pub HasCalled : (Object → Object → Status → Type 0) → Handle → Handle → ℕ → Type 0
HasCalled does old new number = HasCalledOn does old.object new.object number

-- ---- an object of one kind is changed, and one of another kind refused

abbrev pub OfUnit : (TrackedQueueValue → TrackedQueueValue → Status → Type 0) → Object → Object → Status → Type 0
OfUnit does (UnitOf old) new status = (after : TrackedQueueValue) × (new ≡ UnitOf after) × does old after status
OfUnit does other new status = (new ≡ other) × (status ≡ WrongHandle)

-- A unit's queue is changed, and what it knows of walks and transactions stays.
abbrev pub OfQueue : (QueueUnit → QueueUnit → Status → Type 0) → Object → Object → Status → Type 0
OfQueue does = OfUnit (λ old new status. (new ≡ with_queue new.queue old) × does old.queue new.queue status)

abbrev pub OfSender : (SenderValue → SenderValue → Status → Type 0) → Object → Object → Status → Type 0
OfSender does (SenderOf old) new status = (after : SenderValue) × (new ≡ SenderOf after) × does old after status
OfSender does (ReservationOf r) new status = (new ≡ ReservationOf r) × (status ≡ OpenReservation)
OfSender does other new status = (new ≡ other) × (status ≡ WrongHandle)

abbrev pub OfEngine : (EngineValue → EngineValue → Status → Type 0) → Object → Object → Status → Type 0
OfEngine does (EngineOf old) new status = (after : EngineValue) × (new ≡ EngineOf after) × does old after status
OfEngine does other new status = (new ≡ other) × (status ≡ WrongHandle)

abbrev pub OfConsumer : (HeldConsumer → HeldConsumer → Status → Type 0) → Object → Object → Status → Type 0
OfConsumer does (ConsumerOf old) new status = (after : HeldConsumer) × (new ≡ ConsumerOf after) × does old after status
OfConsumer does other new status = (new ≡ other) × (status ≡ WrongHandle)

abbrev pub OfForwarder : (HeldForwarder → HeldForwarder → Status → Type 0) → Object → Object → Status → Type 0
OfForwarder does (ForwarderOf old) new status = (after : HeldForwarder) × (new ≡ ForwarderOf after) × does old after status
OfForwarder does other new status = (new ≡ other) × (status ≡ WrongHandle)

-- Nothing was taken: entries that were settled stay so, and transactions and walks stay tracked.
pub record TakesNone (old new : TrackedQueueValue) : Type 0 where
  pub settled : StaysSettled old.queue.unit new.queue.unit []
  pub tracked : StaysTracked (tracked_in old) (tracked_in new) []

-- For a unit, or that of an engine, whose consumer stays. Settled entries stay settled.
abbrev pub OfAnyUnit : (UnitValue → UnitValue → Status → Type 0) → Object → Object → Status → Type 0
OfAnyUnit does (UnitOf q) new status =
    (after : UnitValue) × (new ≡ UnitOf (with_its_unit after q)) × TakesNone q (with_its_unit after q)
    × does q.queue.unit after status
OfAnyUnit does (EngineOf e) new status =
    (after : UnitValue) × (new ≡ EngineOf (record e { unit = after })) × IsSettled after.caches.entries (taken_of e.consumer.trail) × does e.unit after status
OfAnyUnit does other new status = (new ≡ other) × (status ≡ WrongHandle)

-- The same where entries are removed without a command: of a unit, walks that began before are refused.
abbrev pub OfAnyEviction : (UnitValue → UnitValue → Status → Type 0) → Object → Object → Status → Type 0
OfAnyEviction does (UnitOf q) new status =
    (after : UnitValue) × (new ≡ UnitOf (with_removed after q)) × TakesNone q (with_removed after q)
    × RefusesWalks q (with_removed after q) × does q.queue.unit after status
OfAnyEviction does other new status = OfAnyUnit does other new status

-- Its stop is acknowledged. Nothing rewrites what was published in an engine's ring, so there Reread is Retry.
abbrev pub OfStop : ℕ → StopRemedy → Object → Object → Status → Type 0
OfStop gerrorn remedy (UnitOf q) new status =
    (after : QueueUnit) × (new ≡ UnitOf (with_queue after q)) × TakesNone q (with_queue after q)
    × HasAcknowledgedQueue gerrorn remedy q.queue after status
OfStop gerrorn remedy other new status = OfAnyUnit (HasAcknowledged gerrorn (remedy_until_then remedy)) other new status

-- Its error registers and counts are told, and nothing changed.
abbrev pub OfState : Errors → Tallies → Object → Object → Status → Type 0
OfState errors tallies (UnitOf q) new status =
    (new ≡ UnitOf q) × (errors ≡ queue_error_words q.queue) × (tallies ≡ count_words q.queue.unit.counts) × (status ≡ Done)
OfState errors tallies (EngineOf e) new status =
    (new ≡ EngineOf e) × IsSettledEngine e × (errors ≡ error_words e.unit.stop) × (tallies ≡ count_words e.unit.counts) × (status ≡ Done)
OfState errors tallies other new status = (new ≡ other) × (status ≡ WrongHandle)

-- It did this with what its words say; if they say nothing, it did nothing.
abbrev pub DoesSaid : {X O : Type 0} → (Option X → Type 0) → (X → O → O → Status → Type 0) → O → O → Status → Type 0
DoesSaid {X} said does old new status =
    (found : Option X) × said found × MatchOption found ((new ≡ old) × (status ≡ BadField)) (λ x. does x old new status)

-- The same of a unit or an engine. An object of another kind is refused, whatever the words say.
abbrev pub BySaid : {X : Type 0} → (Option X → Type 0) → (X → Object → Object → Status → Type 0) → Object → Object → Status → Type 0
BySaid said does (UnitOf h) new status = DoesSaid said does (UnitOf h) new status
BySaid said does (EngineOf e) new status = DoesSaid said does (EngineOf e) new status
BySaid said does other new status = (new ≡ other) × (status ≡ WrongHandle)

abbrev pub OfSaid : {X : Type 0} → (Option X → Type 0) → (X → UnitValue → UnitValue → Status → Type 0) → Object → Object → Status → Type 0
OfSaid said does old new status = BySaid said (λ x. OfAnyUnit (does x)) old new status

abbrev pub EvictsSaid : {X : Type 0} → (Option X → Type 0) → (X → UnitValue → UnitValue → Status → Type 0) → Object → Object → Status → Type 0
EvictsSaid said does old new status = BySaid said (λ x. OfAnyEviction (does x)) old new status
