-- What a call does to a unit, a sender, an engine or a consumer, it does to the object that it is.
use Rattle.std.proofs.Common.{◌≡◌, ℕ, true, false, refl, sym, ap, subst, Option, Some, None, true≢false}
use Rattle.ringcore.specs.world.Trails.{Trail}
use Rattle.ring.specs.consumer.Completing.{taken_of}
use Rattle.ring.specs.sender.Senders.{SenderValue}
use Rattle.engine.specs.declared.remedy.Remedy.{Remedy}
use Rattle.engine.specs.declared.queue_unit.QueueUnit.{QueueUnit}
use Rattle.engine.specs.declared.queue_unit.StopRemedy.{StopRemedy}
use Rattle.engine.specs.QueueUnits.{remedy_until_then}
use Rattle.engine.specs.Settled.{IsSettled}
use Rattle.engine.specs.Units.{UnitValue}
use Rattle.engine.specs.Engines.{EngineValue}
use Rattle.transactions.specs.TrackedQueueUnits.{TrackedQueueValue, with_queue, with_its_unit, with_removed, RefusesWalks}
use Rattle.smmuq_c.specs.HeldConsumers.{HeldConsumer}
use Rattle.smmuq_c.specs.HeldForwarders.{HeldForwarder}
use Rattle.smmuq_c.specs.declared.status.Status.{Status}
use Rattle.smmuq_c.specs.declared.status.Status.TheVariants.{WrongHandle, BadField}
use Rattle.smmuq_c.specs.declared.object.Object.{Object}
use Rattle.smmuq_c.specs.declared.object.Object.TheVariants.{Unit as UnitOf, Sender as SenderOf, Reservation as ReservationOf, Engine as EngineOf, Consumer as ConsumerOf, Guest as GuestOf, Forwarder as ForwarderOf}
use Rattle.smmuq_c.specs.Registers.{HasAcknowledged, HasAcknowledgedQueue, IsRemedyOf}
use Rattle.smmuq_c.specs.Kept.{has_unit, unit_in, IsSettledObject}
use Rattle.smmuq_c.proofs.Unchanged.{takes_none}
use Rattle.smmuq_c.specs.Statuses.{number_of}
use Rattle.smmuq_c.specs.Calls.{HasCalledOn, OfUnit, OfQueue, OfSender, OfEngine, OfConsumer, OfForwarder, OfAnyUnit, OfAnyEviction, OfStop, TakesNone, BySaid, OfSaid}

-- what is done to an object is done to the handle that holds it
pub called : (does : Object → Object → Status → Type 0) {held new : Option Object} {old after : Object} {number : ℕ} {status : Status}
    → held ≡ Some old → new ≡ Some after → number ≡ number_of status → does old after status → HasCalledOn does held new number
called does {new = new} {after = after} {number = number} {status = status} is becomes answered done =
    subst (λ (o : Option Object). HasCalledOn does o new number) (sym is) (after, becomes, (status, answered, done))

same_unit : (a b : UnitValue) → Some a ≡ Some b → a ≡ b
same_unit a b is = cc

pub of_unit : (does : TrackedQueueValue → TrackedQueueValue → Status → Type 0) {object : Object} {old new : TrackedQueueValue} {status : Status}
    → object ≡ UnitOf old → does old new status → OfUnit does object (UnitOf new) status
of_unit does {object} {old} {new} {status} is done = subst (λ (o : Object). OfUnit does o (UnitOf new) status) (sym is) (new, refl, done)

-- if it is only read
pub of_read_unit : (does : TrackedQueueValue → TrackedQueueValue → Status → Type 0) {object : Object} {unit : TrackedQueueValue} {status : Status}
    → object ≡ UnitOf unit → does unit unit status → OfUnit does object object status
of_read_unit does {unit = unit} {status = status} is done = subst (λ (o : Object). OfUnit does o o status) (sym is) (unit, refl, done)

pub of_queue : (does : QueueUnit → QueueUnit → Status → Type 0) {object : Object} {old new : TrackedQueueValue} {status : Status}
    → object ≡ UnitOf old → new ≡ with_queue new.queue old → does old.queue new.queue status → OfQueue does object (UnitOf new) status
of_queue does is rest done = of_unit (λ old new status. (new ≡ with_queue new.queue old) × does old.queue new.queue status) is (rest, done)

pub of_sender : (does : SenderValue → SenderValue → Status → Type 0) {object : Object} {old new : SenderValue} {status : Status}
    → object ≡ SenderOf old → does old new status → OfSender does object (SenderOf new) status
of_sender does {object} {old} {new} {status} is done = subst (λ (o : Object). OfSender does o (SenderOf new) status) (sym is) (new, refl, done)

pub of_engine : (does : EngineValue → EngineValue → Status → Type 0) {object : Object} {old new : EngineValue} {status : Status}
    → object ≡ EngineOf old → does old new status → OfEngine does object (EngineOf new) status
of_engine does {object} {old} {new} {status} is done = subst (λ (o : Object). OfEngine does o (EngineOf new) status) (sym is) (new, refl, done)

pub of_consumer : (does : HeldConsumer → HeldConsumer → Status → Type 0) {object : Object} {old new : HeldConsumer} {status : Status}
    → object ≡ ConsumerOf old → does old new status → OfConsumer does object (ConsumerOf new) status
of_consumer does {object} {old} {new} {status} is done = subst (λ (o : Object). OfConsumer does o (ConsumerOf new) status) (sym is) (new, refl, done)

pub of_forwarder : (does : HeldForwarder → HeldForwarder → Status → Type 0) {object : Object} {old new : HeldForwarder} {status : Status}
    → object ≡ ForwarderOf old → does old new status → OfForwarder does object (ForwarderOf new) status
of_forwarder does {object} {old} {new} {status} is done = subst (λ (o : Object). OfForwarder does o (ForwarderOf new) status) (sym is) (new, refl, done)

pub any_unit : (does : UnitValue → UnitValue → Status → Type 0) {object : Object} {old new : TrackedQueueValue} {status : Status}
    → object ≡ UnitOf old → new ≡ with_its_unit new.queue.unit old → TakesNone old new → does old.queue.unit new.queue.unit status
    → OfAnyUnit does object (UnitOf new) status
any_unit does {object} {old} {new} {status} is same none done =
    subst (λ (o : Object). OfAnyUnit does o (UnitOf new) status) (sym is)
    (new.queue.unit, ap UnitOf same, subst (λ (q : TrackedQueueValue). TakesNone old q) same none, done)

pub any_engine : (does : UnitValue → UnitValue → Status → Type 0) {object : Object} {old new : EngineValue} {status : Status}
    → object ≡ EngineOf old → new ≡ record old { unit = new.unit } → IsSettled new.unit.caches.entries (taken_of new.consumer.trail)
    → does old.unit new.unit status → OfAnyUnit does object (EngineOf new) status
any_engine does {object} {old} {new} {status} is same settled done =
    subst (λ (o : Object). OfAnyUnit does o (EngineOf new) status) (sym is)
    (new.unit, ap EngineOf same, subst (λ (t : Trail). IsSettled new.unit.caches.entries (taken_of t)) (ap (λ (e : EngineValue). e.consumer.trail) same) settled, done)

-- ---- where entries are removed without a command

pub evicts_unit : (does : UnitValue → UnitValue → Status → Type 0) {object : Object} {old new : TrackedQueueValue} {status : Status}
    → object ≡ UnitOf old → new ≡ with_removed new.queue.unit old → TakesNone old new → RefusesWalks old new → does old.queue.unit new.queue.unit status
    → OfAnyEviction does object (UnitOf new) status
evicts_unit does {object} {old} {new} {status} is same none walks done =
    subst (λ (o : Object). OfAnyEviction does o (UnitOf new) status) (sym is)
    (new.queue.unit, ap UnitOf same, subst (λ (q : TrackedQueueValue). TakesNone old q) same none, subst (λ (q : TrackedQueueValue). RefusesWalks old q) same walks, done)

pub evicts_engine : (does : UnitValue → UnitValue → Status → Type 0) {object : Object} {old new : EngineValue} {status : Status}
    → object ≡ EngineOf old → new ≡ record old { unit = new.unit } → IsSettled new.unit.caches.entries (taken_of new.consumer.trail)
    → does old.unit new.unit status → OfAnyEviction does object (EngineOf new) status
evicts_engine does {object} {old} {new} {status} is same settled done =
    subst (λ (o : Object). OfAnyEviction does o (EngineOf new) status) (sym is) (any_engine does refl same settled done)

-- ---- by what its words say

pub said_unit : {X : Type 0} (said : Option X → Type 0) (does : X → UnitValue → UnitValue → Status → Type 0) {object : Object} {old new : TrackedQueueValue} {status : Status} (x : X)
    → said (Some x) → object ≡ UnitOf old → new ≡ with_its_unit new.queue.unit old → TakesNone old new
    → does x old.queue.unit new.queue.unit status → OfSaid said does object (UnitOf new) status
said_unit said does {object} {old} {new} {status} x says is same none done =
    subst (λ (o : Object). OfSaid said does o (UnitOf new) status) (sym is) (Some x, says, any_unit (does x) refl same none done)

pub said_engine : {X : Type 0} (said : Option X → Type 0) (does : X → UnitValue → UnitValue → Status → Type 0) {object : Object} {old new : EngineValue} {status : Status} (x : X)
    → said (Some x) → object ≡ EngineOf old → new ≡ record old { unit = new.unit } → IsSettled new.unit.caches.entries (taken_of new.consumer.trail)
    → does x old.unit new.unit status → OfSaid said does object (EngineOf new) status
said_engine said does {object} {old} {new} {status} x says is same settled done =
    subst (λ (o : Object). OfSaid said does o (EngineOf new) status) (sym is) (Some x, says, any_engine (does x) refl same settled done)

-- if it has no unit
pub said_to_another : {X : Type 0} (said : Option X → Type 0) (does : X → Object → Object → Status → Type 0) (object : Object)
    → has_unit object ≡ false → BySaid said does object object WrongHandle
said_to_another said does (UnitOf h) none = absurd (true≢false none)
said_to_another said does (SenderOf s) none = (refl, refl)
said_to_another said does (ReservationOf r) none = (refl, refl)
said_to_another said does (EngineOf e) none = absurd (true≢false none)
said_to_another said does (ConsumerOf c) none = (refl, refl)
said_to_another said does (GuestOf g) none = (refl, refl)
said_to_another said does (ForwarderOf f) none = (refl, refl)

-- if the words say nothing
pub unsaid : {X : Type 0} (said : Option X → Type 0) (does : X → Object → Object → Status → Type 0) (object : Object)
    → has_unit object ≡ true → said None → BySaid said does object object BadField
unsaid said does (UnitOf h) has none = (None, none, (refl, refl))
unsaid said does (SenderOf s) has none = absurd (true≢false (sym has))
unsaid said does (ReservationOf r) has none = absurd (true≢false (sym has))
unsaid said does (EngineOf e) has none = (None, none, (refl, refl))
unsaid said does (ConsumerOf c) has none = absurd (true≢false (sym has))
unsaid said does (GuestOf g) has none = absurd (true≢false (sym has))
unsaid said does (ForwarderOf f) has none = absurd (true≢false (sym has))

-- ---- a stop that is acknowledged

pub stop_of_unit : {number gerrorn : ℕ} {object : Object} {old new : TrackedQueueValue} {status : Status} (remedy : StopRemedy)
    → IsRemedyOf number (Some remedy) → object ≡ UnitOf old → new ≡ with_queue new.queue old → TakesNone old new
    → HasAcknowledgedQueue gerrorn remedy old.queue new.queue status → BySaid (IsRemedyOf number) (OfStop gerrorn) object (UnitOf new) status
stop_of_unit {number} {gerrorn} {object} {old} {new} {status} remedy says is same none done =
    subst (λ (o : Object). BySaid (IsRemedyOf number) (OfStop gerrorn) o (UnitOf new) status) (sym is)
    (Some remedy, says, (new.queue, ap UnitOf same, subst (λ (q : TrackedQueueValue). TakesNone old q) same none, done))

pub stop_of_engine : {number gerrorn : ℕ} {object : Object} {old new : EngineValue} {status : Status} (remedy : StopRemedy) {told : Remedy}
    → IsRemedyOf number (Some remedy) → told ≡ remedy_until_then remedy → object ≡ EngineOf old → new ≡ record old { unit = new.unit }
    → IsSettled new.unit.caches.entries (taken_of new.consumer.trail) → HasAcknowledged gerrorn told old.unit new.unit status
    → BySaid (IsRemedyOf number) (OfStop gerrorn) object (EngineOf new) status
stop_of_engine {number} {gerrorn} {object} {old} {new} {status} remedy says which is same settled done =
    subst (λ (o : Object). BySaid (IsRemedyOf number) (OfStop gerrorn) o (EngineOf new) status) (sym is) (
      Some remedy,
      says,
      any_engine (HasAcknowledged gerrorn (remedy_until_then remedy)) refl same settled (subst (λ (r : Remedy). HasAcknowledged gerrorn r old.unit new.unit status) which done),
    )

-- ---- if nothing is changed

pub read_unit : (does : UnitValue → UnitValue → Status → Type 0) (object : Object) (unit : UnitValue) {status : Status}
    → unit_in object ≡ Some unit → IsSettledObject object → does unit unit status → OfAnyUnit does object object status
read_unit does (UnitOf q) unit {status} is settled done =
    (q.queue.unit, refl, takes_none q, subst (λ (u : UnitValue). does u u status) (sym (same_unit q.queue.unit unit is)) done)
read_unit does (SenderOf s) unit is settled done = absurd (cc)
read_unit does (ReservationOf r) unit is settled done = absurd (cc)
read_unit does (EngineOf e) unit {status} is settled done = (e.unit, refl, settled, subst (λ (u : UnitValue). does u u status) (sym (same_unit e.unit unit is)) done)
read_unit does (ConsumerOf c) unit is settled done = absurd (cc)
read_unit does (GuestOf g) unit is settled done = absurd (cc)
read_unit does (ForwarderOf f) unit is settled done = absurd (cc)

-- one without a unit is of another kind
pub read_of_another : (does : UnitValue → UnitValue → Status → Type 0) (object : Object) → has_unit object ≡ false → OfAnyUnit does object object WrongHandle
read_of_another does (UnitOf q) none = absurd (true≢false none)
read_of_another does (SenderOf s) none = (refl, refl)
read_of_another does (ReservationOf r) none = (refl, refl)
read_of_another does (EngineOf e) none = absurd (true≢false none)
read_of_another does (ConsumerOf c) none = (refl, refl)
read_of_another does (GuestOf g) none = (refl, refl)
read_of_another does (ForwarderOf f) none = (refl, refl)

pub has_one : (object : Object) (unit : UnitValue) → unit_in object ≡ Some unit → has_unit object ≡ true
has_one (UnitOf q) unit is = refl
has_one (SenderOf s) unit is = absurd (cc)
has_one (ReservationOf r) unit is = absurd (cc)
has_one (EngineOf e) unit is = refl
has_one (ConsumerOf c) unit is = absurd (cc)
has_one (GuestOf g) unit is = absurd (cc)
has_one (ForwarderOf f) unit is = absurd (cc)

-- what is done to a unit or an engine by what words say
pub said_any : {X : Type 0} (said : Option X → Type 0) (does : X → UnitValue → UnitValue → Status → Type 0) (object new : Object) (status : Status) (x : X)
    → has_unit object ≡ true → said (Some x) → OfAnyUnit (does x) object new status → OfSaid said does object new status
said_any said does (UnitOf q) new status x has says done = (Some x, says, done)
said_any said does (SenderOf s) new status x has says done = absurd (true≢false (sym has))
said_any said does (ReservationOf r) new status x has says done = absurd (true≢false (sym has))
said_any said does (EngineOf e) new status x has says done = (Some x, says, done)
said_any said does (ConsumerOf c) new status x has says done = absurd (true≢false (sym has))
said_any said does (GuestOf g) new status x has says done = absurd (true≢false (sym has))
said_any said does (ForwarderOf f) new status x has says done = absurd (true≢false (sym has))

pub said_read : {X : Type 0} (said : Option X → Type 0) (does : X → UnitValue → UnitValue → Status → Type 0) (object : Object) (unit : UnitValue) (status : Status) (x : X)
    → unit_in object ≡ Some unit → IsSettledObject object → said (Some x) → does x unit unit status → OfSaid said does object object status
said_read said does object unit status x is settled says done =
    said_any said does object object status x (has_one object unit is) says (read_unit (does x) object unit is settled done)
