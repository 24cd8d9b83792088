-- What the hardware gets for the commands of a ring, and when a command of the ring may be completed.
use Rattle.std.specs.Prelude.{◌≡◌, ℕ, ◌≤◌, List, [], ◌∷◌, ◌++◌, length, map, take, Option, Some, None, is_none, slice_get, Contains, false, if◌then◌else◌}
use Rattle.cmdcodec.specs.declared.raw.Raw.{Raw}
use Rattle.cmdcodec.specs.Opcodes.{is_sync}
use Rattle.cmdcodec.specs.Legality.{first_ill}
use Rattle.ringcore.specs.declared.world.event.Outcome.{Outcome}
use Rattle.ringcore.specs.declared.world.event.Outcome.TheVariants.{Applied, Replaced}
use Rattle.ringcore.specs.world.World.{Taken, taken_as, outcome_of}
use Rattle.ringcore.specs.world.Trails.{Run}
use Rattle.ringcore.specs.world.Delivery.{batches, joined, Begins}
use Rattle.ring.specs.consumer.Completing.{HasOutcome}
use Rattle.ring.specs.consumer.PendingConsumers.{IsFirst}
use Rattle.hardware_queue.specs.Queues.{QueueValue, plain_sync}

-- A CMD_SYNC asks for no signal: the cell that it writes to is the ring's own. All others stay as they are.
abbrev pub hardware_form : Raw → Raw
hardware_form raw = if is_sync raw then plain_sync else raw

-- An illegal command isn't passed on.
abbrev pub passed : Raw → Option Raw
passed raw = if is_none (first_ill raw) then Some (hardware_form raw) else None

-- what the hardware gets for a command that was taken
abbrev pub passed_as : Outcome → Raw → List Raw
passed_as Applied raw = hardware_form raw ∷ []
passed_as Replaced raw = []

abbrev pub passed_on : List Taken → List Raw
passed_on [] = []
passed_on (t ∷ ts) = passed_as t.outcome t.raw ++ passed_on ts

-- how many commands that is
abbrev pub count_passed : Outcome → ℕ
count_passed Applied = 1
count_passed Replaced = 0

-- The hardware has consumed what it gets for these, in this order, and before everything else that it was shown.
pub record HasConsumedAll (q : QueueValue) (taken : List Taken) : Type 0 where
  pub rest : List Raw
  pub shown : q.shown ≡ passed_on taken ++ rest
  pub consumed : length (passed_on taken) ≤ q.consumed

-- ---- a run of the ring

-- These are what the hardware gets for the commands of a run up to the first illegal one.
pub record IsPassing (raws out : List Raw) : Type 0 where
  pub few : length out ≤ length raws
  pub legal : HasOutcome Applied (take (length out) raws)
  pub forms : out ≡ map hardware_form (take (length out) raws)
  pub longest : (raw : Raw) → slice_get raws (length out) ≡ Some raw → Replaced ≡ outcome_of raw

-- ---- what is in flight

-- what the hardware gets for commands of the ring: for the legal ones, in this order
abbrev pub passed_for : List Raw → List Raw
passed_for raws = passed_on (map taken_as raws)

-- Each of these is settled that the hardware has consumed, and no other.
abbrev pub IsConsumed : QueueValue → List Raw → Type 0
IsConsumed q settled = q.consumed ≡ length (passed_for settled)

-- The first of these, if any, is for the hardware.
abbrev pub BeginsLegal : List Raw → Type 0
BeginsLegal raws = (raw : Raw) → IsFirst raw raws → first_ill raw ≡ None

-- ---- the order

-- what the hardware gets for all that was reserved in a run, in the order of its reservation
abbrev pub owed : Run → List Raw
owed run = passed_for (joined (batches run))

-- All that the hardware was ever shown is a beginning of that.
abbrev pub IsInOrder : QueueValue → Run → Type 0
IsInOrder q run = Begins q.shown (owed run)

-- ---- what may be written over

-- A command that isn't a CMD_SYNC was shown here.
pub record IsOtherAt (q : QueueValue) (position : ℕ) : Type 0 where
  pub raw : Raw
  pub shown : slice_get q.shown position ≡ Some raw
  pub other : is_sync raw ≡ false

-- No CMD_SYNC was written over.
abbrev pub NoSyncIsLost : QueueValue → Type 0
NoSyncIsLost q = (position : ℕ) → Contains q.lost position → IsOtherAt q position
