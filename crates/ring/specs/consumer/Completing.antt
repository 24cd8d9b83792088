-- The events that a completion added, and what is taken after it.
use Rattle.std.specs.Prelude.{◌≡◌, ◌<◌, ◌≤◌, ℕ, suc, ◌-◌, ◌/◌, ◌^◌, true, cond, List, [], ◌∷◌, map, take, Some, slice_get}
use Rattle.ring.specs.Runs.{Raw, Outcome, Advance, Acknowledge, Trail, raws_by, acknowledged_by, syncs_taken, Taken, taken_as, outcome_of}
use Rattle.cmdcodec.specs.Opcodes.{is_sync}
use Rattle.cmdcodec.specs.ClosingSync.{cell_address}
use Rattle.ringcore.specs.Limits.{most_senders}
use Rattle.ring.specs.consumer.Consumers.{ConsumerValue}
use Rattle.ring.specs.consumer.Pendings.{PendingValue}

-- the sender of a closing sync, by the cell that it writes to, and its number
abbrev pub sync_sender : Raw → ℕ
sync_sender raw = (raw.hi - cell_address 0) / 4

abbrev pub sync_number : Raw → ℕ
sync_number raw = raw.lo / 2 ^ 32

-- with the command acknowledged if it is a CMD_SYNC
abbrev pub acknowledged : Raw → Trail → Trail
acknowledged raw t = cond (is_sync raw) (Acknowledge (sync_sender raw) (sync_number raw) ∷ t) t

-- with each CMD_SYNC among these commands acknowledged, in order
abbrev pub all_acknowledged : List Raw → Trail → Trail
all_acknowledged [] t = t
all_acknowledged (raw ∷ raws) t = all_acknowledged raws (acknowledged raw t)

-- one advance past these commands, and then the acknowledgements
abbrev pub completed_trail : List Raw → Trail → Trail
completed_trail raws t = all_acknowledged raws (Advance raws ∷ t)

-- a pending run without its consumer's history
abbrev pub unknowing : {D : Type 0} → PendingValue D → PendingValue D
unknowing p = record p { consumer = record p.consumer { history = [] } }

-- The first `count` are taken while this device is lent.
abbrev pub completed : {D : Type 0} → ℕ → D → PendingValue D → ConsumerValue D
completed count device p = record p.consumer { trail = completed_trail (take count p.raws) p.consumer.trail; lent = Some device }

-- ---- in between

-- It is the closing sync of some sender.
pub record IsClosingSync (raw : Raw) : Type 0 where
  pub sender : ℕ
  pub few : sender < most_senders
  pub address : raw.hi ≡ cell_address sender

-- A closing sync is due: it is the next of its sender, which the trail took.
pub record IsDue (senders : ℕ) (trail : Trail) (raw : Raw) : Type 0 where
  pub closing : IsClosingSync raw
  pub known : sync_sender raw < senders
  pub next : sync_number raw ≡ suc (acknowledged_by (sync_sender raw) trail)
  pub taken : sync_number raw ≤ syncs_taken (sync_sender raw) trail

-- Each CMD_SYNC among these is the closing sync of some sender.
abbrev pub AreClosingSyncs : List Raw → Type 0
AreClosingSyncs raws =
    (i : ℕ) (raw : Raw) → slice_get raws i ≡ Some raw → is_sync raw ≡ true → IsClosingSync raw

abbrev pub without_newest : Trail → Trail
without_newest [] = []
without_newest (e ∷ es) = es

-- It has just advanced past these, and before that had acknowledged each closing sync that it took.
pub record HasAdvanced (t : Trail) (raws : List Raw) : Type 0 where
  pub trail_is : t ≡ Advance raws ∷ without_newest t
  pub current : (s : ℕ) → acknowledged_by s (without_newest t) ≡ syncs_taken s (without_newest t)

-- ---- the taken list

-- the commands taken and their outcomes, by the consumer's trail
abbrev pub taken_of : Trail → List Taken
taken_of t = map taken_as (raws_by t)

abbrev pub with_outcome : Outcome → Raw → Taken
with_outcome outcome raw = record { raw = raw; outcome = outcome }

-- The outcome is Applied for legal commands and Replaced for illegal ones.
abbrev pub HasOutcome : Outcome → List Raw → Type 0
HasOutcome outcome raws = (i : ℕ) (raw : Raw) → slice_get raws i ≡ Some raw → outcome ≡ outcome_of raw
