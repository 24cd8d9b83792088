-- A queue whose registers somebody else reads.
use Rattle.std.specs.Prelude.{◌≡◌, ℕ, ◌+◌, ◌-◌, ◌/◌, ◌%◌, ◌^◌, ◌<◌, List, ◌++◌, length, All, Option, Some, None}
use Rattle.qindex.specs.Positions.{place}
use Rattle.hardware_queue.specs.declared.forwarded.Acknowledgement.{Acknowledgement}
use Rattle.hardware_queue.specs.declared.restart.Restart.{Restart}
use Rattle.hardware_queue.specs.declared.remedy.Remedy.{Remedy}
use Rattle.hardware_queue.specs.declared.remedy.Remedy.TheVariants.{Retry, Replace}
use Rattle.hardware_queue.specs.declared.state.QueueState.{QueueState}
use Rattle.hardware_queue.specs.declared.queue_progress.Progress.{Progress}
use Rattle.hardware_queue.specs.declared.queue_progress.Progress.TheVariants.{Broken}
use Rattle.hardware_queue.specs.declared.reading.Reading.{Reading}
use Rattle.hardware_queue.specs.declared.reading.Reading.TheVariants.{Gerror, Gerrorn, Cons}
use Rattle.hardware_queue.specs.declared.register_words.RegisterWords.{RegisterWords}
use Rattle.hardware_queue.specs.Queues.{QueueValue, Supplied, Stop, IsBelievable, IsAtStop, IsErrorActive, newly_consumed, tail_index, head_index, HasRestarted}
use Rattle.hardware_queue.specs.Owners.{HasFound}
use Rattle.hardware_queue.specs.Forwarders.{HasRemedied}

-- The registers of a working queue can have these words: RD lies between what was consumed and PROD, and where it was seen
-- stopped if it was; and while an error is active, a command is left at which it stopped.
pub record CanHave (words : RegisterWords) (q : QueueValue) : Type 0 where
  pub believable : IsBelievable words.cons q
  pub at_stop : (stop : Stop) → q.stopped ≡ Some stop → IsAtStop words.cons q stop
  pub within : IsErrorActive words.gerror q → q.consumed + newly_consumed words.cons q < length q.shown
  -- no queue consumes more
  pub few : q.consumed + newly_consumed words.cons q < 2 ^ 64

abbrev pub supplied_with : RegisterWords → QueueValue → QueueValue
supplied_with words q = record q { supplied = record q.supplied { words = words; before = q.read } }

abbrev pub supplied_gerrorn : ℕ → QueueValue → QueueValue
supplied_gerrorn word q = record q { supplied = record q.supplied { gerrorn = word; before = q.read } }

-- It is of the words that it got. Of GERRORN that is all but CMDQ_ERR, bit 0.
abbrev pub IsSupplied : Supplied → Reading → Type 0
IsSupplied supplied (Gerror word) = word ≡ supplied.words.gerror
IsSupplied supplied (Gerrorn word) = word / 2 ≡ supplied.gerrorn / 2
IsSupplied supplied (Cons word) = word ≡ supplied.words.cons

-- All that was read since it got them is.
pub record AreSupplied (q : QueueValue) : Type 0 where
  pub newer : List Reading
  pub read : q.read ≡ newer ++ q.supplied.before
  pub are : All (IsSupplied q.supplied) newer

-- a look by words that somebody else read: what it found, and nothing where no working queue can have them
abbrev pub HasLooked : RegisterWords → QueueValue → QueueValue → Progress → Type 0
HasLooked words old new (Broken word) = (word ≡ words.cons) × (¬ CanHave words old) × (new ≡ old)
HasLooked words old new found = CanHave words old × HasFound words.gerror words.cons (supplied_with words old) new found

-- the slot that is written over, where the hardware stopped at this one
abbrev pub slot_overwritten : Remedy → ℕ → Option ℕ
slot_overwritten Retry slot = None
slot_overwritten Replace slot = Some slot

-- The error was acknowledged as the trait of a queue says, and the caller is told what to write for it: which slot is written
-- over, and GERRORN as he read it with just CMDQ_ERR the other way round.
pub record HasRemediedWith (remedy : Remedy) (gerrorn : ℕ) (found : QueueState) (old new : QueueValue) (told : Acknowledgement) : Type 0 where
  pub remedied : HasRemedied remedy found (supplied_gerrorn gerrorn old) new told.stopped
  pub slot : told.slot ≡ slot_overwritten remedy (place old.geometry old.consumed)
  pub gerrorn_is : told.gerrorn ≡ new.gerrorn
  pub others : told.gerrorn / 2 ≡ gerrorn / 2

-- how many commands the hardware is told to read again, once it is restarted
abbrev pub again_after : QueueValue → ℕ
again_after q = (q.supplied.again + (length q.shown - q.consumed)) % 2 ^ 32

-- It was restarted, GERRORN was read with this word then, and the caller is told PROD and CONS: what isn't known to be consumed
-- lies between them.
pub record HasRestartedWith (gerrorn : ℕ) (old new : QueueValue) (told : Restart) : Type 0 where
  pub restarted : HasRestarted old new gerrorn
  pub again : new.supplied.again ≡ again_after old
  pub prod : told.prod ≡ (tail_index new).number
  pub cons : told.cons ≡ (head_index new).number
