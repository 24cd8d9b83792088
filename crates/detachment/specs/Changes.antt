-- A change of stage 2 beneath a nested stage 1: its commands go first, and the one for stage 1 only behind their CMD_SYNC. An
-- SMMU may carry the commands ahead of a CMD_SYNC out in any order, and make a translation of stage 1 again by the old stage 2.
use Rattle.std.specs.Prelude.{◌≡◌, ◌≤◌, ℕ, min, Bool, true, false, List, [], ◌∷◌, map, All, Option, Some, None, option_map, if◌then◌else◌}
use Rattle.cmdcodec.specs.declared.raw.Raw.{Raw}
use Rattle.cmdcodec.specs.declared.command.Command.{Command}
use Rattle.cmdcodec.specs.Words.{encoding}
use Rattle.smmu_features.specs.declared.smmu.Smmu.{Smmu}
use Rattle.smmu_features.specs.Commands.{IsLegalFor}
use Rattle.invalidations.specs.declared.space.Space.{Space}
use Rattle.invalidations.specs.declared.space.Space.TheVariants.{Stage2}
use Rattle.invalidations.specs.declared.request.Target.{Target}
use Rattle.invalidations.specs.declared.invalidation.Invalidation.{Invalidation}
use Rattle.invalidations.specs.declared.policy.Policy.{Policy}
use Rattle.invalidations.specs.declared.fault.InvalidationFault.{InvalidationFault}
use Rattle.invalidations.specs.declared.fault.InvalidationFault.TheVariants as invalidations
use Rattle.invalidations.specs.Spaces.{whole_command}
use Rattle.invalidations.specs.Hints.{ttl_in, words_with}
use Rattle.invalidations.specs.Plans.{commands_of, plan_of, refusal_of, target_of, stage_1_behind}
use Rattle.ring.specs.Runs.{Run}
use Rattle.ring.specs.sender.Senders.{SenderValue, ReceiptValue}
use Rattle.ring.specs.sender.Sending.{IsSent}
use Rattle.detachment.specs.declared.change_fault.ChangeFault.{ChangeFault}
use Rattle.detachment.specs.declared.change_fault.ChangeFault.TheVariants.{OtherStage, Unsupported, PastEnd, NoByte}
use Rattle.detachment.specs.Order.{HasReserved, HasApplied}
use Rattle.detachment.specs.Values.{IsOwn}

-- what changed, what the SMMU has, and how the commands are made
pub record Change : Type 0 where
  pub invalidation : Invalidation
  pub smmu : Smmu
  pub policy : Policy

-- with no more commands than a batch has room for
abbrev pub change_of : Invalidation → Smmu → Policy → Change
change_of invalidation smmu policy =
    record { invalidation = invalidation; smmu = smmu; policy = record policy { most_commands = min policy.most_commands 63 } }

-- ---- The commands.

abbrev pub change_commands : Change → List Command
change_commands change = commands_of (plan_of change.invalidation change.smmu change.policy)

abbrev pub words_of : Target → List Command → List Raw
words_of target commands = map (λ command. words_with (ttl_in target command) command) commands

-- their words, with their level hints
abbrev pub change_words : Change → List Raw
change_words change = words_of (target_of change.invalidation change.smmu) (change_commands change)

-- the words of the command for all of stage 1 behind that, if the SMMU has stage 1
abbrev pub words_behind : Change → Option (List Raw)
words_behind change = option_map (λ space. encoding (whole_command space) ∷ []) (stage_1_behind change.invalidation.space change.smmu)

-- ---- What is refused.

abbrev pub is_stage_2 : Space → Bool
is_stage_2 (Stage2 vmid) = true
is_stage_2 other = false

-- by why its commands are refused, if so, and else by the commands
abbrev pub unmade : Option InvalidationFault → List Command → Option ChangeFault
unmade (Some invalidations.Unsupported) commands = Some Unsupported
unmade (Some invalidations.PastEnd) commands = Some PastEnd
unmade None [] = Some NoByte
unmade None (command ∷ commands) = None

abbrev pub change_refusal : Change → Option ChangeFault
change_refusal change =
    if is_stage_2 change.invalidation.space then unmade (refusal_of change.invalidation change.smmu) (change_commands change)
    else Some OtherStage

-- It isn't refused, and its commands are few enough for a batch.
pub record IsChange (change : Change) : Type 0 where
  pub made : change_refusal change ≡ None
  pub few : change.policy.most_commands ≤ 63

-- ---- The steps.

-- the change, the CMD_SYNC behind its commands, and their sender as it was when it had sent them, or when it was told
-- that they are complete
pub record ChangeValue : Type 0 where
  pub change : Change
  pub sync : ReceiptValue
  pub sender : SenderValue

abbrev pub change_value : Change → ReceiptValue → SenderValue → ChangeValue
change_value change sync sender = record { change = change; sync = sync; sender = sender }

-- Within so many tries the sender sent the commands, with the CMD_SYNC that is kept, and is kept as it goes on.
pub record HasSentChange (change : Change) (tries : ℕ) (old new : SenderValue) (c : ChangeValue) : Type 0 where
  pub sent : IsSent (change_words change) tries old new c.sync
  pub change_is : c.change ≡ change
  pub sender_is : c.sender ≡ new

-- The commands, which are legal for the SMMU, are reserved in the run that the sender knew.
pub record IsChanging (c : ChangeValue) : Type 0 where
  pub own : IsOwn c.sync c.sender
  pub legal : All (IsLegalFor c.change.smmu) (change_words c.change)
  pub earlier : Run
  pub reserved : HasReserved c.sender.number (change_words c.change) c.sync.number earlier c.sender.history

-- They are applied there.
pub record IsChanged (c : ChangeValue) : Type 0 where
  pub own : IsOwn c.sync c.sender
  pub applied : HasApplied c.sender.number (change_words c.change) c.sync.number c.sender.history
