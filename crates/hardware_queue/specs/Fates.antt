-- What became of the commands that were settled.
use Rattle.std.specs.Prelude.{◌≡◌, ◌<◌, ◌≤◌, ◌+◌, ◌⊎◌, ℕ, Bool, true, false, not, List, [], ◌∷◌, ◌++◌, length, Some, None, slice_get, Contains, if◌then◌else◌}
use Rattle.cmdcodec.specs.declared.raw.Raw.{Raw}
use Rattle.cmdcodec.specs.Legality.{first_ill}
use Rattle.cmdcodec.specs.Opcodes.{is_sync}
use Rattle.ringcore.specs.declared.world.event.Outcome.{Outcome}
use Rattle.ringcore.specs.declared.world.event.Outcome.TheVariants.{Applied, Replaced}
use Rattle.ringcore.specs.world.World.{sync_raw}
use Rattle.ring.specs.consumer.Completing.{sync_sender, sync_number}
use Rattle.batch_outcomes.specs.declared.settled.Settled.{Settled}
use Rattle.batch_outcomes.specs.declared.settled.Settled.TheVariants.{Command, Sync}
use Rattle.batch_outcomes.specs.declared.batch_outcome.BatchOutcome.{BatchOutcome}
use Rattle.batch_outcomes.specs.Outcomes.{IsOutcome}
use Rattle.hardware_queue.specs.declared.flight.InFlight.{InFlight}
use Rattle.hardware_queue.specs.declared.remedy.Remedy.{Remedy}
use Rattle.hardware_queue.specs.declared.remedy.Remedy.TheVariants.{Retry, Replace}
use Rattle.hardware_queue.specs.Flights.{passed_for}

-- ---- of each command

-- A command that the hardware was shown at this position was carried out if it is legal and wasn't written over there. A
-- closing CMD_SYNC has its sender and number.
abbrev pub IsFate : List ℕ → ℕ → Raw → Settled → Type 0
IsFate lost position raw (Command true) = (is_sync raw ≡ false) × (first_ill raw ≡ None) × ¬ Contains lost position
IsFate lost position raw (Command false) = (is_sync raw ≡ false) × (first_ill raw ≡ None → Contains lost position)
IsFate lost position raw (Sync sender number) = raw ≡ sync_raw sender number

-- This is what became of these commands, the newest first, with those at the positions in `lost` written over.
abbrev pub AreFates : List ℕ → List Raw → List Settled → Type 0
AreFates lost raws [] = raws ≡ []
AreFates lost raws (fate ∷ older) =
    (ahead : List Raw) × (raw : Raw) × (raws ≡ ahead ++ raw ∷ [])
    × IsFate lost (length (passed_for ahead)) raw fate × AreFates lost ahead older

-- ---- of a batch

-- What became of the batch of a sender with this number, by what became of all that is settled.
abbrev pub IsOutcomeOf : List ℕ → List Raw → ℕ → ℕ → BatchOutcome → Type 0
IsOutcomeOf lost settled sender number outcome =
    (fates : List Settled) × AreFates lost settled fates × IsOutcome fates sender number outcome

-- Nothing was settled, or a CMD_SYNC last.
abbrev pub EndsWithSync : List Raw → Type 0
EndsWithSync raws = (raws ≡ []) ⊎ ((ahead : List Raw) × (raw : Raw) × (raws ≡ ahead ++ raw ∷ []) × (is_sync raw ≡ true))

-- Between this CMD_SYNC and the one ahead of it each command is legal, and none was written over.
pub record IsWhole (lost : List ℕ) (settled : List Raw) (sender number : ℕ) : Type 0 where
  pub ahead : List Raw
  pub body : List Raw
  pub rest : List Raw
  pub settled_is : settled ≡ ahead ++ (body ++ sync_raw sender number ∷ rest)
  pub ends : EndsWithSync ahead
  pub no_sync : (i : ℕ) (raw : Raw) → slice_get body i ≡ Some raw → is_sync raw ≡ false
  pub legal : (i : ℕ) (raw : Raw) → slice_get body i ≡ Some raw → first_ill raw ≡ None
  pub kept : (i : ℕ) → i < length body → ¬ Contains lost (length (passed_for ahead) + i)

-- ---- what is kept of them

-- what became of what is settled, of how many senders, and whether the next that was shown was written over
pub record FatesValue : Type 0 where
  pub settled : List Settled
  pub senders : ℕ
  pub over : Bool

-- whether a command is carried out
abbrev pub is_carried_out : Bool → Outcome → Bool
is_carried_out over Applied = not over
is_carried_out over Replaced = false

-- whether the next one was written over, behind this one
abbrev pub over_behind : Bool → Outcome → Bool
over_behind over Applied = false
over_behind over Replaced = over

abbrev pub fate : Bool → InFlight → Settled
fate over c =
    if is_sync c.raw then Sync (sync_sender c.raw) (sync_number c.raw) else Command (is_carried_out over c.outcome)

-- one more is settled
abbrev pub settled_with : FatesValue → InFlight → FatesValue
settled_with f c = record { settled = fate f.over c ∷ f.settled; senders = f.senders; over = over_behind f.over c.outcome }

-- an error was acknowledged: by a replacement the next one is written over
abbrev pub remedied : Remedy → FatesValue → FatesValue
remedied Retry f = f
remedied Replace f = record f { over = true }

-- From this position on nothing was written over but the command there, if it was.
pub record IsOver (lost : List ℕ) (position : ℕ) (over : Bool) : Type 0 where
  pub here : over ≡ true → Contains lost position
  pub none_else : (p : ℕ) → position ≤ p → Contains lost p → (p ≡ position) × (over ≡ true)

pub record IsKnown (lost : List ℕ) (settled : List Raw) (senders : ℕ) (f : FatesValue) : Type 0 where
  pub fates : AreFates lost settled f.settled
  pub senders_are : f.senders ≡ senders
  pub over : IsOver lost (length (passed_for settled)) f.over
