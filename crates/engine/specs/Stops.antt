-- The stop at an illegal command (command queue errors): its state and what changes it.
use Rattle.std.specs.Prelude.{◌≡◌, ◌≢◌, ◌↔◌, ℕ, ◌%◌, Bool, false, cond, not, ◌==◌, List, Option, Some, None, Result, Err, ⊤, codes}
use Rattle.cmdcodec.specs.declared.raw.Raw.{Raw}
use Rattle.cmdcodec.specs.declared.ill.Ill.{Ill}
use Rattle.cmdcodec.specs.Legality.{first_ill}
use Rattle.engine.specs.declared.remedy.AckFault.{AckFault}
use Rattle.engine.specs.declared.remedy.AckFault.TheVariants.{NoError, OtherBit}
use Rattle.engine.specs.declared.remedy.Remedy.{Remedy}
use Rattle.engine.specs.declared.remedy.Remedy.TheVariants.{Retry, Replace}
use Rattle.engine.specs.declared.stop.Mode.{Mode}
use Rattle.engine.specs.declared.stop.Mode.TheVariants.{Running, Stopped, Replacing}

-- The state of consumption; the words at which it stopped, until they are taken; CMDQ_ERR of GERROR and of
-- GERRORN.
pub record StopValue : Type 0 where
  pub mode : Mode
  pub next : Option Raw
  pub error : Bool
  pub acknowledged : Bool

-- the state before the first command
abbrev pub unstopped : StopValue
unstopped = record { mode = Running; next = None; error = false; acknowledged = false }

abbrev pub IsStopped : Mode → Type 0
IsStopped Running = ⊥
IsStopped (Stopped ill) = Unit {0}
IsStopped Replacing = ⊥

-- After a stop the words at which it stopped come next.
abbrev pub MayComeNext : Raw → StopValue → Type 0
MayComeNext raw s = (awaited : Raw) → s.next ≡ Some awaited → raw ≡ awaited

-- ---- what changes it

-- An illegal command was found and left at the head: CMDQ_ERR of GERROR toggles.
abbrev pub stopped_at : Raw → Ill → StopValue → StopValue
stopped_at raw ill s = record s { mode = Stopped ill; next = Some raw; error = not s.error }

-- A command was taken.
abbrev pub gone_on : StopValue → StopValue
gone_on s = record s { mode = Running; next = None }

abbrev pub mode_after : Remedy → Mode
mode_after Retry = Running
mode_after Replace = Replacing

-- The error is acknowledged: CMDQ_ERR of GERRORN becomes that of GERROR.
abbrev pub acknowledged_by : Remedy → StopValue → StopValue
acknowledged_by remedy s = record s { mode = mode_after remedy; acknowledged = s.error }

-- ---- registers

-- SMMU_CMDQ_CONS.ERR: CERROR_ILL while it is stopped, else CERROR_NONE
abbrev pub err_of : Mode → ℕ
err_of Running = 0
err_of (Stopped ill) = 1
err_of Replacing = 0

-- a word in which only CMDQ_ERR, bit 0, may be set
abbrev pub word_of : Bool → ℕ
word_of bit = cond bit 1 0

-- CMDQ_ERR of any word
abbrev pub command_queue_bit : ℕ → Bool
command_queue_bit word = word % 2 == 1

-- ---- the answer to an acknowledgement

-- G1 exactly if no error is active; G2 exactly if one is and CMDQ_ERR of the word isn't that of GERROR.
pub record IsAcknowledgementAnswer (stop : StopValue) (gerrorn : ℕ) (answer : Result ⊤ AckFault) : Type 0 where
  pub none : (answer ≡ Err NoError) ↔ ¬ IsStopped stop.mode
  pub other : (answer ≡ Err OtherBit) ↔ (IsStopped stop.mode × (command_queue_bit gerrorn ≢ stop.error))

-- ---- what always holds

-- Kept words are illegal, and there are some while it is stopped or told to replace.
abbrev pub IsKept : Mode → Option Raw → Type 0
IsKept Running next = (raw : Raw) → next ≡ Some raw → (ill : Ill) × (first_ill raw ≡ Some ill)
IsKept (Stopped ill) next = (raw : Raw) × (next ≡ Some raw) × (first_ill raw ≡ Some ill)
IsKept Replacing next = (raw : Raw) × (next ≡ Some raw) × (ill : Ill) × (first_ill raw ≡ Some ill)

-- The error is active, that is, GERROR and GERRORN differ in CMDQ_ERR, exactly while it is stopped.
abbrev pub IsActive : Mode → Bool → Bool → Type 0
IsActive Running error acknowledged = error ≡ acknowledged
IsActive (Stopped ill) error acknowledged = error ≡ not acknowledged
IsActive Replacing error acknowledged = error ≡ acknowledged

pub record IsStop (s : StopValue) : Type 0 where
  pub kept : IsKept s.mode s.next
  pub active : IsActive s.mode s.error s.acknowledged

-- the label of each fault
abbrev pub label_of : AckFault → List ℕ
label_of NoError = codes "G1"
label_of OtherBit = codes "G2"
