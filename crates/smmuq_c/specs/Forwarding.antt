-- What calls on a forwarder do.
use Rattle.std.specs.Prelude.{◌≡◌, ℕ, ◌<◌, ◌≤◌, ◌⊎◌, List, ◌∷◌, length, map, drop, Option, None, Some}
use Rattle.cmdcodec.specs.declared.raw.Raw.{Raw}
use Rattle.ringcore.specs.declared.world.event.Who.TheVariants.{Consumer as ConsumerOf}
use Rattle.ringcore.specs.world.World.{taken_as}
use Rattle.ring.specs.table.Histories.{Grew}
use Rattle.ring.specs.consumer.Deferring.{settled_raws}
use Rattle.hardware_queue.specs.declared.forwarded.Acknowledgement.{Acknowledgement}
use Rattle.hardware_queue.specs.declared.forwarded.Forwarded.{Forwarded}
use Rattle.hardware_queue.specs.declared.forwarded.Forwarded.TheVariants as answer
use Rattle.hardware_queue.specs.declared.queue_progress.Progress.{Progress}
use Rattle.hardware_queue.specs.declared.queue_progress.Progress.TheVariants as progress
use Rattle.hardware_queue.specs.declared.register_words.RegisterWords.{RegisterWords}
use Rattle.hardware_queue.specs.declared.remedy.Remedy.{Remedy}
use Rattle.hardware_queue.specs.declared.remedy.Remedy.TheVariants.{Retry, Replace}
use Rattle.hardware_queue.specs.declared.remedy.RemedyFault.{RemedyFault}
use Rattle.hardware_queue.specs.declared.remedy.RemedyFault.TheVariants as fault
use Rattle.hardware_queue.specs.declared.state.QueueState.{QueueState}
use Rattle.hardware_queue.specs.declared.state.QueueState.TheVariants as states
use Rattle.hardware_queue.specs.Owners.{IsBroken, state_after}
use Rattle.hardware_queue.specs.Flights.{HasConsumedAll, IsInOrder}
use Rattle.hardware_queue.specs.Steps.{HasForwarded, HasSettledAt}
use Rattle.hardware_queue.specs.Forwarders.{IsRefused}
use Rattle.hardware_queue.specs.Supplying.{HasLooked, HasRemediedWith}
use Rattle.shadow_queue.specs.declared.placement.Placement.{Placement}
use Rattle.shadow_queue.specs.Placing.{IsPlaced}
use Rattle.engine.specs.declared.remedy.AckFault.TheVariants.{NoError}
use Rattle.smmuq_c.specs.declared.forwarder_calls.PlacementWords.{PlacementWords}
use Rattle.smmuq_c.specs.declared.forwarder_calls.AcknowledgementWords.{AcknowledgementWords}
use Rattle.smmuq_c.specs.declared.status.Status.{Status}
use Rattle.smmuq_c.specs.declared.status.Status.TheVariants as status
use Rattle.smmuq_c.specs.HeldForwarders.{HeldForwarder}

-- What always holds of it: all that the hardware was ever shown is a beginning of what it gets for the reserved commands, in
-- their order, and what is settled is consumed.
pub record StandsInOrder (f : HeldForwarder) : Type 0 where
  pub order : IsInOrder f.owner.queue f.consumer.consumer.history
  pub consumed : HasConsumedAll f.owner.queue (map taken_as (settled_raws f.consumer))

-- ---- what is known of the ring

-- The run of the ring that its consumer knows grew by exactly its own steps, and it is of the same ring.
pub record GoesOn (old new : HeldForwarder) : Type 0 where
  pub history : Grew ConsumerOf old.consumer.consumer.trail new.consumer.consumer.trail old.consumer.consumer.history new.consumer.consumer.history
  pub ring : new.consumer.consumer.ring ≡ old.consumer.consumer.ring

-- ---- a queue that was found broken

-- Nothing is forwarded,
abbrev pub ForwardsNone : QueueState → Forwarded → Type 0
ForwardsNone found given = (word : ℕ) → found ≡ states.Broken word → given ≡ answer.Broken word

-- and it is told again that it is broken.
abbrev pub StaysBroken : QueueState → Progress → Type 0
StaysBroken found made = (word : ℕ) → found ≡ states.Broken word → made ≡ progress.Broken word

-- ---- forwarding

abbrev pub forwarded_status : Forwarded → Status
forwarded_status answer.Empty = status.RingEmpty
forwarded_status answer.Drained = status.RingDrained
forwarded_status answer.Unwritten = status.RingUnwritten
forwarded_status answer.Full = status.QueueFull
forwarded_status (answer.Shown count) = status.Done
forwarded_status (answer.Replaced raw) = status.Replaced
forwarded_status (answer.Broken word) = status.QueueBroken

abbrev pub placement_words : Placement → PlacementWords
placement_words p = record { slot = p.slot; count = p.count; prod = p.prod; message = p.message }

-- The buffer begins with the commands that the hardware is shown, and is told where they go.
pub record IsToldPlacement (before after : List Raw) (told : PlacementWords) (old new : HeldForwarder) : Type 0 where
  pub placement : Placement
  pub placed : IsPlaced before after old.owner.queue new.owner.queue placement
  pub told_is : told ≡ placement_words placement

-- What is told: with an illegal command that was taken the buffer begins.
abbrev pub IsToldOf : Forwarded → List Raw → List Raw → PlacementWords → HeldForwarder → HeldForwarder → Type 0
IsToldOf (answer.Shown count) before after told old new = IsToldPlacement before after told old new
IsToldOf (answer.Replaced raw) before after told old new = after ≡ raw ∷ drop 1 before
IsToldOf other before after told old new = after ≡ before

-- what is told of an answer, where the buffer has the commands
abbrev pub TellsAnswer : Forwarded → Placement → List Raw → List Raw → PlacementWords → PlacementWords → Type 0
TellsAnswer (answer.Shown count) p before after old new = (after ≡ before) × (new ≡ placement_words p)
TellsAnswer (answer.Replaced raw) p before after old new = (after ≡ raw ∷ drop 1 before) × (new ≡ old)
TellsAnswer other p before after old new = (after ≡ before) × (new ≡ old)

-- It forwarded as `shadow_queue::forward` does.
pub record HasForwardedOn (before after : List Raw) (told : PlacementWords) (old new : HeldForwarder) (answered : Status) : Type 0 where
  pub room : 64 ≤ length before
  pub answer : Forwarded
  pub forwarded : HasForwarded (λ q. q) old new answer
  pub status_is : answered ≡ forwarded_status answer
  pub told_is : IsToldOf answer before after told old new
  pub broken : ForwardsNone old.owner.state answer
  pub state_is : new.owner.state ≡ old.owner.state
  pub stands : StandsInOrder new
  pub goes_on : GoesOn old new

-- There was no room for a run.
pub record HadNoRoomToForward (before after : List Raw) (old new : HeldForwarder) (answered : Status) : Type 0 where
  pub few : length before < 64
  pub buffer : after ≡ before
  pub same : new ≡ old
  pub status_is : answered ≡ status.ShortBuffer

abbrev pub HasForwardedFor : List Raw → List Raw → PlacementWords → HeldForwarder → HeldForwarder → Status → Type 0
HasForwardedFor before after told old new answered =
    HadNoRoomToForward before after old new answered ⊎ HasForwardedOn before after told old new answered

-- ---- polling

abbrev pub polled_status : Progress → Status
polled_status (progress.Consumed count) = status.Done
polled_status (progress.Stopped count error) = status.QueueStopped
polled_status (progress.Broken word) = status.QueueBroken

-- how many more were consumed, and what was there where that isn't known
abbrev pub consumed_by : Progress → ℕ → ℕ
consumed_by (progress.Consumed count) before = count
consumed_by (progress.Stopped count error) before = count
consumed_by (progress.Broken word) before = before

-- It polled as `Forwarder::poll_words` does.
pub record HasPolledFor (words : RegisterWords) (before told : ℕ) (old new : HeldForwarder) (answered : Status) : Type 0 where
  pub progress : Progress
  pub looked : ¬ IsBroken old.owner.state → HasLooked words old.owner.queue new.owner.queue progress
  pub state : ¬ IsBroken old.owner.state → new.owner.state ≡ state_after progress
  pub broken : IsBroken old.owner.state → new ≡ old
  pub stays : StaysBroken old.owner.state progress
  pub settled : HasSettledAt progress new.owner.queue old.consumer new.consumer
  pub status_is : answered ≡ polled_status progress
  pub told_is : told ≡ consumed_by progress before
  pub stands : StandsInOrder new
  pub goes_on : GoesOn old new

-- ---- acknowledging

-- 0 and 1
abbrev pub remedy_numbered : ℕ → Option Remedy → Type 0
remedy_numbered number (Some Retry) = number ≡ 0
remedy_numbered number (Some Replace) = number ≡ 1
remedy_numbered number None = 1 < number

abbrev pub fault_status : RemedyFault → Status
fault_status fault.NotStopped = status.Acknowledgement NoError
fault_status fault.NotIllegal = status.NotIllegal
fault_status fault.IsSync = status.SyncStays

abbrev pub slot_or_none : Option ℕ → ℕ
slot_or_none None = 0
slot_or_none (Some slot) = slot

abbrev pub acknowledgement_words : Acknowledgement → AcknowledgementWords
acknowledgement_words a = record { command = a.stopped.command; slot = slot_or_none a.slot; gerrorn = a.gerrorn }

-- It was acknowledged as `Forwarder::acknowledge_words` does; or refused, and nothing changed.
abbrev pub HasAcknowledgedFor : ℕ → Remedy → AcknowledgementWords → HeldForwarder → HeldForwarder → Status → Type 0
HasAcknowledgedFor gerrorn remedy told old new status.Done =
    (a : Acknowledgement) × HasRemediedWith remedy gerrorn old.owner.state old.owner.queue new.owner.queue a
    × (told ≡ acknowledgement_words a) × (new.consumer ≡ old.consumer) × (new.owner.state ≡ states.Running)
HasAcknowledgedFor gerrorn remedy told old new answered =
    (refusal : RemedyFault) × IsRefused remedy old.owner.state old.owner.queue refusal × (answered ≡ fault_status refusal) × (new ≡ old)
