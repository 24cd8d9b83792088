-- What the owner of a queue keeps, and what its calls do.
use Rattle.std.specs.Prelude.{◌≡◌, ℕ, ◌+◌, ◌-◌, ◌<◌, ◌≤◌, Bool, false, List, [], ◌∷◌, ◌++◌, length, take, Option, Some, None, min}
use Rattle.cmdcodec.specs.declared.raw.Raw.{Raw}
use Rattle.qindex.specs.Positions.{IndexValue, size}
use Rattle.qindex.specs.Indexes.{IsGeometry, IsQueue}
use Rattle.hardware_queue.specs.declared.command_error.CommandError.{CommandError}
use Rattle.hardware_queue.specs.declared.command_error.CommandError.TheVariants.{Illegal}
use Rattle.hardware_queue.specs.declared.reading.Reading.TheVariants.{Gerror, Gerrorn, Cons}
use Rattle.hardware_queue.specs.declared.state.QueueState.{QueueState}
use Rattle.hardware_queue.specs.declared.state.QueueState.TheVariants as state
use Rattle.hardware_queue.specs.declared.queue_progress.Progress.{Progress}
use Rattle.hardware_queue.specs.declared.queue_progress.Progress.TheVariants.{Consumed, Stopped, Broken}
use Rattle.hardware_queue.specs.declared.remedy.Remedy.{Remedy}
use Rattle.hardware_queue.specs.declared.remedy.Remedy.TheVariants.{Retry, Replace}
use Rattle.hardware_queue.specs.declared.remedy.RemedyFault.{RemedyFault}
use Rattle.hardware_queue.specs.declared.remedy.RemedyFault.TheVariants.{NotStopped, NotIllegal}
use Rattle.hardware_queue.specs.Queues.{QueueValue, IsBelievable, IsErrorActive, newly_consumed, command_queue_error, toggled, with_repeated, HasRestarted}

-- an owner: the hardware's queue, and what its last look found
pub record OwnerValue (Q : Type 0) : Type 0 where
  pub queue : Q
  pub state : QueueState

-- Consumption is stopped at the command that comes next, with this error.
pub record IsStoppedHere (q : QueueValue) (error : CommandError) : Type 0 where
  pub stopped : q.stopped ≡ Some (record { position = q.consumed; error = error })
  pub shown : q.consumed < length q.shown

-- The indexes are those of what was shown and what was consumed, no further apart than the queue has slots, and what was
-- found stopped is.
pub record IsOwner (q : QueueValue) (prod cons : IndexValue) (acknowledged : Bool) (found : QueueState) : Type 0 where
  pub geometry : IsGeometry q.geometry
  pub memory : length q.memory ≡ size q.geometry
  pub queue : IsQueue prod cons q.geometry (length q.shown) q.consumed
  pub acknowledged_is : acknowledged ≡ command_queue_error q.gerrorn
  pub stopped : (error : CommandError) → found ≡ state.Stopped error → IsStoppedHere q error

-- a queue before its first command
pub record IsNew (q : QueueValue) (geometry : ℕ) : Type 0 where
  pub geometry_is : q.geometry ≡ geometry
  pub memory : length q.memory ≡ size q.geometry
  pub none_shown : q.shown ≡ []
  pub none_consumed : q.consumed ≡ 0
  pub unstopped : q.stopped ≡ None
  pub unacknowledged : command_queue_error q.gerrorn ≡ false
  pub none_lost : q.lost ≡ []
  pub none_repeated : q.repeated ≡ []

-- what an owner knows of its queue
pub record IsOwned (q : QueueValue) : Type 0 where
  pub geometry : IsGeometry q.geometry
  pub memory : length q.memory ≡ size q.geometry
  pub order : q.consumed ≤ length q.shown
  pub within : length q.shown ≤ q.consumed + size q.geometry

-- Something that no working queue has was found.
abbrev pub IsBroken : QueueState → Type 0
IsBroken found = (word : ℕ) × (found ≡ state.Broken word)

-- A stop was found.
abbrev pub IsStoppedState : QueueState → Type 0
IsStoppedState found = (error : CommandError) × (found ≡ state.Stopped error)

-- ---- push

-- how many slots hold no command that the hardware may read
abbrev pub room : QueueValue → ℕ
room q = q.consumed + size q.geometry - length q.shown

abbrev pub without_memory : QueueValue → QueueValue
without_memory q = record q { memory = [] }

-- As many as fit were shown, behind all others.
pub record HasPushed (raws : List Raw) (old new : QueueValue) (count : ℕ) : Type 0 where
  pub count_is : count ≡ min (length raws) (room old)
  pub new_is : without_memory new ≡ record (without_memory old) { shown = old.shown ++ take count raws }

-- ---- poll

-- Nothing changed but what was read and whether a stop was seen.
abbrev pub IsSameButSeen : QueueValue → QueueValue → Type 0
IsSameButSeen old new = new ≡ record old { stopped = new.stopped; read = new.read }

-- So many more were consumed, as CONS says.
pub record HasConsumed (word : ℕ) (old new : QueueValue) (count : ℕ) : Type 0 where
  pub believed : IsBelievable word old
  pub count_is : count ≡ newly_consumed word old
  pub new_is : new ≡ record old { consumed = old.consumed + count; stopped = new.stopped; read = new.read }

-- a look at CONS, by its value: how many more were consumed, if it can be believed
abbrev pub IsLookedAt : QueueValue → ℕ → Option ℕ → Type 0
IsLookedAt old word None = ¬ IsBelievable word old
IsLookedAt old word (Some count) = IsBelievable word old × (count ≡ newly_consumed word old)

-- what a look found, by the words that were read
abbrev pub HasFound : ℕ → ℕ → QueueValue → QueueValue → Progress → Type 0
HasFound gerror word old new (Consumed count) = HasConsumed word old new count × ¬ IsErrorActive gerror old
HasFound gerror word old new (Stopped count error) = HasConsumed word old new count × IsErrorActive gerror old × IsStoppedHere new error
HasFound gerror word old new (Broken found) = (found ≡ word) × (¬ IsBelievable word old) × IsSameButSeen old new

-- GERROR was read, and then CONS, once each.
pub record HasPolled (old new : QueueValue) (progress : Progress) : Type 0 where
  pub gerror : ℕ
  pub word : ℕ
  pub read : new.read ≡ Cons word ∷ Gerror gerror ∷ old.read
  pub found : HasFound gerror word old new progress

abbrev pub state_after : Progress → QueueState
state_after (Consumed count) = state.Running
state_after (Stopped count error) = state.Stopped error
state_after (Broken word) = state.Broken word

-- ---- acknowledge

-- why a remedy is refused
abbrev pub refusal : Remedy → QueueState → Option RemedyFault
refusal Retry (state.Stopped error) = None
refusal Replace (state.Stopped Illegal) = None
refusal Replace (state.Stopped other) = Some NotIllegal
refusal remedy other = Some NotStopped

-- with the command lost, if it is replaced
abbrev pub remedied : Remedy → QueueValue → QueueValue
remedied Retry q = q
remedied Replace q = record q { lost = q.consumed ∷ q.lost }

-- It was stopped at the command that comes next, and goes on from there. Of GERRORN as it was read just CMDQ_ERR is the
-- other way round.
pub record HasAcknowledged (remedy : Remedy) (error : CommandError) (old new : QueueValue) : Type 0 where
  pub stopped : IsStoppedHere old error
  pub word : ℕ
  pub same : command_queue_error word ≡ command_queue_error old.gerrorn
  pub gerrorn : new.gerrorn ≡ toggled word
  pub read : new.read ≡ Gerrorn word ∷ old.read
  pub repeated : new.repeated ≡ with_repeated error old.consumed old.repeated
  pub new_is : without_memory new
      ≡ record (remedied remedy (without_memory old)) { stopped = None; gerrorn = new.gerrorn; repeated = new.repeated; read = new.read }

-- It was stopped with some error, which is acknowledged.
abbrev pub IsAcknowledged : Remedy → QueueState → QueueValue → QueueValue → Type 0
IsAcknowledged remedy found old new = (error : CommandError) × (found ≡ state.Stopped error) × HasAcknowledged remedy error old new

-- ---- restart

-- It was restarted, and GERRORN has some word then.
abbrev pub WasRestarted : QueueValue → QueueValue → Type 0
WasRestarted old new = (word : ℕ) × HasRestarted old new word
