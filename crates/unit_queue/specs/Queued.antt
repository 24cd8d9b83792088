-- A queue whose hardware is a unit.
use Rattle.std.specs.Prelude.{◌≡◌, ◌≢◌, ◌⊎◌, ℕ, ◌+◌, ◌<◌, ◌≤◌, Bool, true, false, not, List, [], length, Option, Some, None, slice_get, Contains}
use Rattle.std.specs.FinMap as finite
use Rattle.cmdcodec.specs.declared.raw.Raw.{Raw}
use Rattle.cmdcodec.specs.declared.command.Command.{Command}
use Rattle.cmdcodec.specs.Spelling.{Spells}
use Rattle.cmdcodec.specs.Legality.{first_ill}
use Rattle.qindex.specs.Positions.{IndexValue, size, place, index_of}
use Rattle.qindex.specs.Indexes.{IsGeometry, IsQueue}
use Rattle.ringcore.specs.declared.world.event.Outcome.TheVariants.{Applied}
use Rattle.ringcore.specs.world.World.{Taken}
use Rattle.caches.specs.declared.tag.Tag.{Tag}
use Rattle.caches.specs.declared.tag.Entry.{Entry}
use Rattle.caches.specs.Covers.{covers}
use Rattle.engine.specs.declared.stop.Mode.TheVariants.{Running}
use Rattle.engine.specs.Settled.{IsSettled}
use Rattle.engine.specs.Counting.{taken}
use Rattle.engine.specs.Units.{UnitValue, IsApplied}
use Rattle.ringcore.specs.Limits.{most_reserved}
use Rattle.hardware_queue.specs.declared.reading.Reading.TheVariants.{Cons}
use Rattle.hardware_queue.specs.declared.command_error.CommandError.TheVariants.{Illegal}
use Rattle.hardware_queue.specs.Queues.{QueueValue, Stop, Supplied, with_reading, command_queue_error, rd_of, error_in}
use Rattle.hardware_queue.specs.Standing.{Stands}

-- the queue, its unit, CMDQ_ERR of SMMU_GERROR, and legal words that it calls illegal, if any
pub record Queued : Type 0 where
  pub queue : QueueValue
  pub unit : UnitValue
  pub error : Bool
  pub unsupported : Option Raw

-- where it was seen stopped
abbrev pub seen_at : Bool → ℕ → Option Stop
seen_at true position = Some (record { position = position; error = Illegal })
seen_at false position = None

-- It reads its registers itself.
abbrev pub none_supplied : Supplied
none_supplied = record { words = record { gerror = 0; cons = 0 }; gerrorn = 0; before = []; again = 0 }

-- No entry is held that is older than the command shown at this position and that the command covers.
abbrev pub HasEffect : Queued → ℕ → Type 0
HasEffect u position =
    (raw : Raw) (command : Command) (tag : Tag) (entry : Entry)
    → slice_get u.queue.shown position ≡ Some raw → Spells raw command → covers command tag ≡ true
    → finite.get u.unit.caches.entries tag ≡ Some entry → position < entry.born

-- What the unit took, and that its entries are settled for it: what was shown, except where it was written over.
pub record HasTakenAll (q : QueueValue) (unit : UnitValue) : Type 0 where
  pub list : List Taken
  pub many : length list ≡ taken unit.counts
  pub settled : IsSettled unit.caches.entries list
  pub are : (p : ℕ) (raw : Raw) → p < length list → slice_get q.shown p ≡ Some raw → ¬ Contains q.lost p → slice_get list p ≡ Some record { raw = raw; outcome = Applied }

-- CMDQ_ERR isn't that of SMMU_GERRORN.
abbrev pub IsStopped : Queued → Type 0
IsStopped u = u.error ≢ command_queue_error u.queue.gerrorn

pub record IsQueued (u : Queued) (prod cons : IndexValue) (seen : Bool) : Type 0 where
  pub geometry : IsGeometry u.queue.geometry
  pub memory : length u.queue.memory ≡ size u.queue.geometry
  pub indexes : IsQueue prod cons u.queue.geometry (length u.queue.shown) u.queue.consumed
  pub consumed : u.queue.consumed ≡ taken u.unit.counts
  pub stands : Stands u.queue
  pub took : HasTakenAll u.queue u.unit
  pub running : u.unit.stop.mode ≡ Running
  pub anything_next : u.unit.stop.next ≡ None
  -- It stops only at a command that was shown, and is seen stopped only while it is.
  pub stopped : IsStopped u → u.queue.consumed < length u.queue.shown
  pub seen_is : seen ≡ true → IsStopped u

-- ---- what it consumes

-- It calls a command illegal: for its words, or since it lacks it.
abbrev pub IsCalledIllegal : Queued → Raw → Type 0
IsCalledIllegal u raw = (first_ill raw ≢ None) ⊎ (u.unsupported ≡ Some raw)

-- It stands in memory at CONS.
abbrev pub StandsNext : Queued → Raw → Type 0
StandsNext u raw = slice_get u.queue.memory (place u.queue.geometry u.queue.consumed) ≡ Some raw

-- It isn't stopped, was shown a command, and its unit takes more.
pub record MayConsume (u : Queued) : Type 0 where
  pub running : ¬ IsStopped u
  pub shown : u.queue.consumed < length u.queue.shown
  pub few : taken u.unit.counts < most_reserved

-- A legal command was consumed, and had its effect in the unit. Nothing else changed.
pub record HasConsumedNext (old new : Queued) : Type 0 where
  pub raw : Raw
  pub stands : StandsNext old raw
  pub legal : ¬ IsCalledIllegal old raw
  pub command : Command
  pub removed : ℕ
  pub applied : IsApplied raw command removed old.unit new.unit
  pub new_is : new ≡ record old { unit = new.unit; queue = record old.queue { consumed = old.queue.consumed + 1 } }

-- It stopped at an illegal one, and nothing else changed.
pub record HasStoppedAtNext (old new : Queued) : Type 0 where
  pub raw : Raw
  pub stands : StandsNext old raw
  pub illegal : IsCalledIllegal old raw
  pub new_is : new ≡ record old { error = not old.error }

-- A look at CONS has it consume the next command where it may.
abbrev pub HasGoneOn : Queued → Queued → Type 0
HasGoneOn old new =
    (¬ MayConsume old × (new ≡ old))
    ⊎ (MayConsume old × (HasConsumedNext old new ⊎ HasStoppedAtNext old new))

-- The word is that of SMMU_CMDQ_CONS: the index of what comes next, and CERROR_ILL while it is stopped.
pub record IsConsOf (word : ℕ) (u : Queued) : Type 0 where
  pub rd : rd_of word ≡ (index_of u.queue.geometry u.queue.consumed).number
  pub err : IsStopped u → error_in word ≡ Illegal

-- CONS was read with this word, once it had gone on.
pub record HasReadGoneOn (old new : Queued) (word : ℕ) : Type 0 where
  pub between : Queued
  pub gone_on : HasGoneOn old between
  pub word_is : IsConsOf word between
  pub new_is : new ≡ record between { queue = with_reading (Cons word) between.queue }

-- It may have consumed more, but not beyond what was shown, and nothing while it was seen stopped.
pub record HasMoved (old new : Queued) : Type 0 where
  pub forward : old.queue.consumed ≤ new.queue.consumed
  pub few : new.queue.consumed ≤ old.queue.consumed + 1
  pub within : new.queue.consumed ≤ length old.queue.shown
  pub new_is : new.queue ≡ record old.queue { consumed = new.queue.consumed }
  pub frozen : (stop : Stop) → old.queue.stopped ≡ Some stop → (new.queue.consumed ≡ stop.position) × IsStopped new × (stop.error ≡ Illegal)
