-- What contracts see of a forwarder, and what a sender's number tells once it has one.
use Rattle.std.specs.Prelude.{◌≡◌, ℕ, ◌<◌, ◌≤◌, ◌-◌, ◌^◌, List, ◌∷◌, ◌++◌, length, min, Bool, Contains, ◌⊎◌, Option, Some, None, slice_get, true, false}
use Rattle.cmdcodec.specs.declared.raw.Raw.{Raw}
use Rattle.cmdcodec.specs.Opcodes.{is_sync}
use Rattle.ringcore.specs.declared.world.event.Event.TheVariants.{Ask}
use Rattle.ringcore.specs.world.Trails.{Run, Trail}
use Rattle.ring.specs.Rings.{RingValue}
use Rattle.ring.specs.sender.Senders.{SenderValue}
use Rattle.ring.specs.Finishing.{SummaryValue, WasTold, IsDeferredEnd, reserved_ahead}
use Rattle.hardware_queue.specs.declared.command_error.CommandError.{CommandError}
use Rattle.hardware_queue.specs.declared.command_error.CommandError.TheVariants.{Illegal}
use Rattle.hardware_queue.specs.declared.forwarded.Stopped.{Stopped}
use Rattle.hardware_queue.specs.declared.remedy.Remedy.{Remedy}
use Rattle.hardware_queue.specs.declared.remedy.Remedy.TheVariants.{Retry, Replace}
use Rattle.hardware_queue.specs.declared.remedy.RemedyFault.{RemedyFault}
use Rattle.hardware_queue.specs.declared.remedy.RemedyFault.TheVariants.{NotStopped, NotIllegal, IsSync}
use Rattle.hardware_queue.specs.declared.state.QueueState.{QueueState}
use Rattle.hardware_queue.specs.declared.state.QueueState.TheVariants as state
use Rattle.hardware_queue.specs.Queues.{QueueValue, IsSyncAt, MayBeUnanswered}
use Rattle.hardware_queue.specs.Owners.{HasAcknowledged, IsStoppedState}
use Rattle.hardware_queue.specs.Flights.{passed_for, IsInOrder}
use Rattle.hardware_queue.specs.Steps.{ForwarderValue}

-- how many commands were lost at the hardware, 2^64 - 1 if more
abbrev pub count_lost : QueueValue → ℕ
count_lost q = min (length q.lost) (2 ^ 64 - 1)

-- ---- a stop

-- Consumption was found stopped with this error, and this command comes next.
pub record IsStoppedAt (q : QueueValue) (found : QueueState) (stopped : Stopped) : Type 0 where
  pub state_is : found ≡ state.Stopped stopped.error
  pub command : slice_get q.shown q.consumed ≡ Some stopped.command

-- Only an illegal command is replaced, and no CMD_SYNC.
abbrev pub refusal_to_replace : CommandError → Bool → Option RemedyFault
refusal_to_replace Illegal true = Some IsSync
refusal_to_replace Illegal false = None
refusal_to_replace other sync = Some NotIllegal

-- why a remedy is refused at a stop
abbrev pub refusal_at : Remedy → Stopped → Option RemedyFault
refusal_at Retry stopped = None
refusal_at Replace stopped = refusal_to_replace stopped.error (is_sync stopped.command)

-- how many commands are lost by it
abbrev pub lost_by : Remedy → ℕ
lost_by Retry = 0
lost_by Replace = 1

-- The error was acknowledged at this command, which the remedy fits.
pub record HasRemedied (remedy : Remedy) (found : QueueState) (old new : QueueValue) (stopped : Stopped) : Type 0 where
  pub stopped_at : IsStoppedAt old found stopped
  pub fits : refusal_at remedy stopped ≡ None
  pub acknowledged : HasAcknowledged remedy stopped.error old new

-- No stop was found, or the remedy doesn't fit it.
abbrev pub IsRefused : Remedy → QueueState → QueueValue → RemedyFault → Type 0
IsRefused remedy found q fault =
    ((fault ≡ NotStopped) × ¬ IsStoppedState found)
    ⊎ ((stopped : Stopped) × IsStoppedAt q found stopped × (refusal_at remedy stopped ≡ Some fault))

-- ---- what a sender is told

-- The hardware was first of all shown what it gets for these, and has passed a CMD_SYNC right behind that. Each of it has its
-- effect, unless it was written over or may be unanswered.
pub record IsCarriedOut (HasEffect : ℕ → Type 0) (q : QueueValue) (first : List Raw) : Type 0 where
  pub rest : List Raw
  pub shown : q.shown ≡ passed_for first ++ rest
  pub sync : IsSyncAt q (length (passed_for first))
  pub passed : length (passed_for first) < q.consumed
  pub effect : (position : ℕ) → position < length (passed_for first) → ¬ Contains q.lost position → ¬ MayBeUnanswered q position → HasEffect position

-- The sender was told this number. For each of its batches up to that number, all that was reserved before its
-- closing sync is carried out.
pub record WasToldTruly (HasEffect : ℕ → Type 0) (q : QueueValue) (run : Run) (s told : ℕ) (older : Trail) : Type 0 where
  pub was_told : WasTold run s told older
  pub carried_out : (number : ℕ) (some : 1 ≤ number) (most : number ≤ told) → IsCarriedOut HasEffect q (reserved_ahead (was_told.applied number some most))

-- This holds for every number that the sender was told, by its trail.
abbrev pub WasToldAllTruly : (ℕ → Type 0) → QueueValue → Run → ℕ → Trail → Type 0
WasToldAllTruly HasEffect q run s trail =
    (newer older : Trail) (number : ℕ) → trail ≡ newer ++ Ask number ∷ older → WasToldTruly HasEffect q run s number older

-- One run has all steps. What the hardware was shown is a beginning of what is owed to it in that run, and whatever a sender
-- was told in it was true.
pub record IsForwarderEnd {Q : Type 0} (queue : Q → QueueValue) (has_effect : Q → ℕ → Type 0) (ring : RingValue) (senders : List SenderValue) (forwarder : ForwarderValue Q) (end : SummaryValue) : Type 0 where
  pub end_is : IsDeferredEnd ring senders forwarder.consumer end
  pub order : IsInOrder (queue forwarder.owner.queue) end_is.end_is.run
  pub told : (k : ℕ) (s : SenderValue) → slice_get senders k ≡ Some s
      → WasToldAllTruly (has_effect forwarder.owner.queue) (queue forwarder.owner.queue) end_is.end_is.run k s.trail
