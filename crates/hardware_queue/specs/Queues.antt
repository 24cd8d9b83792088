-- A command queue of hardware, as its driver knows it, and what the registers and the memory do to it.
use Rattle.std.specs.Prelude.{◌≡◌, ◌≢◌, ℕ, zero, suc, ◌+◌, ◌-◌, ◌*◌, ◌/◌, ◌%◌, ◌^◌, ◌<◌, ◌≤◌, Bool, true, ◌==◌, List, [], ◌∷◌, ◌++◌, length, Option, Some, None, slice_get, slice_index_or, slice_set, Contains, if◌then◌else◌}
use Rattle.cmdcodec.specs.declared.raw.Raw.{Raw}
use Rattle.cmdcodec.specs.Opcodes.{is_sync, opcode_of}
use Rattle.qindex.specs.Positions.{IndexValue, size, place, index_of}
use Rattle.qindex.specs.Indexes.{distance}
use Rattle.hardware_queue.specs.declared.command_error.CommandError.{CommandError}
use Rattle.hardware_queue.specs.declared.command_error.CommandError.TheVariants.{Illegal, Abort, AtcInvSync, Reserved}
use Rattle.hardware_queue.specs.declared.reading.Reading.{Reading}
use Rattle.hardware_queue.specs.declared.reading.Reading.TheVariants.{Gerror, Gerrorn, Cons}
use Rattle.hardware_queue.specs.declared.register_words.RegisterWords.{RegisterWords}

-- the position at which consumption stopped, and the error
pub record Stop : Type 0 where
  pub position : ℕ
  pub error : CommandError

-- what somebody else read for a queue that doesn't read its registers itself, all that had been read of it until then, and
-- what he was told at its restarts
pub record Supplied : Type 0 where
  pub words : RegisterWords
  pub gerrorn : ℕ
  pub before : List Reading
  -- how many commands the hardware was told to read again, by restarts, modulo 2^32
  pub again : ℕ

-- A queue with its registers. Positions count from 0 and never wrap: the command at position p is the one
-- that was shown after p others.
pub record QueueValue : Type 0 where
  pub geometry : ℕ
  -- what stands in memory, slot by slot
  pub memory : List Raw
  -- all commands that the hardware was ever shown, in order
  pub shown : List Raw
  -- how many of them it has consumed, as its driver read last
  pub consumed : ℕ
  -- where it was seen stopped by an error, until that is acknowledged
  pub stopped : Option Stop
  -- SMMU_GERRORN, as it was read or written last
  pub gerrorn : ℕ
  -- the positions whose command was written over with a CMD_SYNC, the newest first
  pub lost : List ℕ
  -- the positions from which it reads again, the newest first: a CMD_SYNC at which it stopped with CERROR_ATC_INV_SYNC, and
  -- where it was restarted
  pub repeated : List ℕ
  -- all that was read of the registers, the newest first
  pub read : List Reading
  -- what it answers with, if somebody else reads the registers; else it stays as it is
  pub supplied : Supplied

-- a CMD_SYNC that asks for no signal
abbrev pub plain_sync : Raw
plain_sync = record { lo = 0x46; hi = 0 }

-- ---- memory

-- The hardware may read this slot: it holds a command that was shown and that isn't known to be consumed.
pub record MayBeRead (q : QueueValue) (slot : ℕ) : Type 0 where
  pub position : ℕ
  pub unconsumed : q.consumed ≤ position
  pub shown : position < length q.shown
  pub there : slot ≡ place q.geometry position

-- It is a slot of the queue, and the hardware may not read it.
pub record IsFree (q : QueueValue) (slot : ℕ) : Type 0 where
  pub in_memory : slot < size q.geometry
  pub unread : ¬ MayBeRead q slot

-- It is the slot of the command at which the hardware is stopped, which it calls illegal.
pub record IsOfIllegal (q : QueueValue) (slot : ℕ) : Type 0 where
  pub stopped : q.stopped ≡ Some (record { position = q.consumed; error = Illegal })
  pub there : slot ≡ place q.geometry q.consumed

abbrev pub written : ℕ → Raw → QueueValue → QueueValue
written slot raw q = record q { memory = slice_set q.memory slot raw }

abbrev pub overwritten : ℕ → QueueValue → QueueValue
overwritten slot q = record q { memory = slice_set q.memory slot plain_sync; lost = q.consumed ∷ q.lost }

-- ---- SMMU_CMDQ_PROD

-- what stands in memory at this many positions from this one on
abbrev pub in_memory : ℕ → List Raw → ℕ → ℕ → List Raw
in_memory geometry memory position zero = []
in_memory geometry memory position (suc count) =
    slice_index_or memory (place geometry position) plain_sync ∷ in_memory geometry memory (suc position) count

abbrev pub tail_index : QueueValue → IndexValue
tail_index q = index_of q.geometry (length q.shown)

-- how many more are shown by this value of PROD
abbrev pub newly_shown : ℕ → QueueValue → ℕ
newly_shown prod q = distance (record { geometry = q.geometry; number = prod }) (tail_index q)

-- PROD may be shown: it is an index, and what it shows has room behind what isn't consumed.
pub record MayShow (prod : ℕ) (q : QueueValue) : Type 0 where
  pub index : prod < 2 * size q.geometry
  pub room : length q.shown + newly_shown prod q ≤ q.consumed + size q.geometry

-- From then on the hardware has been shown what stands in memory up to PROD.
abbrev pub shown_up_to : ℕ → QueueValue → QueueValue
shown_up_to prod q = record q { shown = q.shown ++ in_memory q.geometry q.memory (length q.shown) (newly_shown prod q) }

-- ---- SMMU_CMDQ_CONS

-- RD, bits 19:0, and ERR, bits 30:24
abbrev pub rd_of : ℕ → ℕ
rd_of word = word % 2 ^ 20

abbrev pub err_of : ℕ → ℕ
err_of word = word / 2 ^ 24 % 2 ^ 7

abbrev pub error_numbered : ℕ → CommandError
error_numbered number = if number == 1 then Illegal else if number == 2 then Abort else if number == 3 then AtcInvSync else Reserved number

abbrev pub error_in : ℕ → CommandError
error_in word = error_numbered (err_of word)

-- how far RD is ahead of what was known to be consumed
abbrev pub newly_consumed : ℕ → QueueValue → ℕ
newly_consumed word q = distance (record { geometry = q.geometry; number = rd_of word }) (index_of q.geometry q.consumed)

-- RD is an index, neither behind what was consumed nor ahead of what was shown. Another value says nothing.
pub record IsBelievable (word : ℕ) (q : QueueValue) : Type 0 where
  pub index : rd_of word < 2 * size q.geometry
  pub within : q.consumed + newly_consumed word q ≤ length q.shown

abbrev pub with_reading : Reading → QueueValue → QueueValue
with_reading reading q = record q { read = reading ∷ q.read }

abbrev pub consumed_up_to : ℕ → QueueValue → QueueValue
consumed_up_to word q = record q { consumed = q.consumed + newly_consumed word q }

-- RD is where it is stopped, and ERR says why.
abbrev pub IsAtStop : ℕ → QueueValue → Stop → Type 0
IsAtStop word q stop = (q.consumed + newly_consumed word q ≡ stop.position) × (error_in word ≡ stop.error)

-- What a read of CONS says. Believable values are true, and consumption stays where it is stopped.
pub record HasReadCons (old new : QueueValue) (word : ℕ) : Type 0 where
  pub moved : IsBelievable word old → new ≡ with_reading (Cons word) (consumed_up_to word old)
  pub kept : ¬ IsBelievable word old → new ≡ with_reading (Cons word) old
  pub frozen : (stop : Stop) → old.stopped ≡ Some stop → IsBelievable word old → IsAtStop word old stop

-- ---- SMMU_GERROR and SMMU_GERRORN

-- CMDQ_ERR, bit 0
abbrev pub command_queue_error : ℕ → Bool
command_queue_error word = word % 2 == 1

-- the word with CMDQ_ERR the other way round, and all other bits as they are
abbrev pub toggled : ℕ → ℕ
toggled word = if command_queue_error word then word - 1 else word + 1

-- An error is active, with commands in flight: CMDQ_ERR of GERROR isn't that of GERRORN.
pub record IsErrorActive (gerror : ℕ) (q : QueueValue) : Type 0 where
  pub differ : command_queue_error gerror ≢ command_queue_error q.gerrorn
  pub in_flight : q.consumed < length q.shown

-- It is stopped at one of the commands that were shown and aren't known to be consumed.
pub record IsStoppedWithin (q : QueueValue) : Type 0 where
  pub stop : Stop
  pub stopped : q.stopped ≡ Some stop
  pub unconsumed : q.consumed ≤ stop.position
  pub shown : stop.position < length q.shown

-- What a read of GERROR says. While an error is active, consumption is stopped at a command that was shown, until the
-- error is acknowledged.
pub record HasReadErrors (old new : QueueValue) (word : ℕ) : Type 0 where
  pub kept : new ≡ with_reading (Gerror word) (record old { stopped = new.stopped })
  pub stays : (stop : Stop) → old.stopped ≡ Some stop → new.stopped ≡ Some stop
  pub active : IsErrorActive word old → IsStoppedWithin new

-- What a read of GERRORN says. Nobody else writes CMDQ_ERR.
pub record HasReadAcknowledged (old new : QueueValue) (word : ℕ) : Type 0 where
  pub new_is : new ≡ with_reading (Gerrorn word) (record old { gerrorn = word })
  pub same : command_queue_error word ≡ command_queue_error old.gerrorn

-- GERRORN may be written: consumption is stopped, and the word acknowledges that and nothing else.
pub record MayAcknowledge (word : ℕ) (q : QueueValue) : Type 0 where
  pub stop : Stop
  pub stopped : q.stopped ≡ Some stop
  pub toggles : word ≡ toggled q.gerrorn

-- with the position at which it stopped, where it repeats what stands there
abbrev pub with_repeated : CommandError → ℕ → List ℕ → List ℕ
with_repeated AtcInvSync position repeated = position ∷ repeated
with_repeated other position repeated = repeated

abbrev pub repeated_after : Option Stop → List ℕ → List ℕ
repeated_after None repeated = repeated
repeated_after (Some stop) repeated = with_repeated stop.error stop.position repeated

abbrev pub acknowledged_by : ℕ → QueueValue → QueueValue
acknowledged_by word q = record q { stopped = None; gerrorn = word; repeated = repeated_after q.stopped q.repeated }

-- ---- a restart

abbrev pub head_index : QueueValue → IndexValue
head_index q = index_of q.geometry q.consumed

-- What isn't known to be consumed lies between these values of PROD and CONS.
pub record MayRestart (prod cons : ℕ) (q : QueueValue) : Type 0 where
  pub prod_is : prod ≡ (tail_index q).number
  pub cons_is : cons ≡ (head_index q).number

-- The queue was disabled, and is enabled again with no error active, and with this word in GERRORN. The hardware reads again
-- what isn't known to be consumed.
pub record HasRestarted (old new : QueueValue) (word : ℕ) : Type 0 where
  pub new_is : new ≡ record (with_reading (Gerrorn word) old) {
    stopped = None;
    gerrorn = word;
    repeated = old.consumed ∷ old.repeated;
    supplied = new.supplied;
  }

-- ---- effects

-- A CMD_SYNC was shown here, and nobody wrote over it.
pub record IsSyncAt (q : QueueValue) (position : ℕ) : Type 0 where
  pub raw : Raw
  pub shown : slice_get q.shown position ≡ Some raw
  pub sync : is_sync raw ≡ true
  pub stands : ¬ Contains q.lost position

-- A CMD_ATC_INV whose endpoint may not have answered: the hardware stopped with CERROR_ATC_INV_SYNC at the first CMD_SYNC
-- behind it, or was restarted ahead of that. It stays so.
pub record MayBeUnanswered (q : QueueValue) (position : ℕ) : Type 0 where
  pub raw : Raw
  pub shown : slice_get q.shown position ≡ Some raw
  pub invalidation : opcode_of raw ≡ 0x40
  pub again : ℕ
  pub behind : position < again
  pub repeated : Contains q.repeated again
  pub first : (between : ℕ) → position < between → between < again → ¬ IsSyncAt q between

-- Each command that was consumed with a CMD_SYNC behind it has its effect, unless it was written over or is an
-- invalidation that may be unanswered.
abbrev pub SyncsComplete : (ℕ → Type 0) → QueueValue → Type 0
SyncsComplete HasEffect q =
    (position sync : ℕ) → position < sync → sync < q.consumed → IsSyncAt q sync
    → ¬ Contains q.lost position → ¬ MayBeUnanswered q position → HasEffect position
