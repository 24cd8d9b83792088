-- What the commands of an invalidation reach.
use Rattle.std.specs.Prelude.{◌≡◌, ◌<◌, ◌≤◌, ◌⊎◌, ℕ, ◌+◌, ◌/◌, ◌^◌, ◌&&◌, Bool, true, false, List, length, All, None, if◌then◌else◌, Option, Some}
use Rattle.cmdcodec.specs.declared.command.Command.{Command}
use Rattle.cmdcodec.specs.declared.command.Command.TheVariants.{TlbiNhAll, TlbiNhAsid, TlbiNhVa, TlbiNhVaa, TlbiEl2All, TlbiEl2Asid, TlbiEl2Va, TlbiEl2Vaa, TlbiS12Vmall, TlbiS2Ipa, AtcInv}
use Rattle.cmdcodec.specs.declared.reach.Reach.{Reach}
use Rattle.cmdcodec.specs.declared.reach.Reach.TheVariants as reach
use Rattle.cmdcodec.specs.PageRuns.{IsIn}
use Rattle.caches.specs.declared.tag.Tag.{Tag}
use Rattle.cmdcodec.specs.declared.raw.Raw.{Raw}
use Rattle.cmdcodec.specs.Spelling.{Spells}
use Rattle.smmu_features.specs.declared.smmu.Smmu.{Smmu}
use Rattle.smmu_features.specs.Commands.{has_accesses, IsLegalFor}
use Rattle.invalidations.specs.declared.request.Target.{Target}
use Rattle.invalidations.specs.declared.invalidation.Bytes.{Bytes}
use Rattle.invalidations.specs.declared.invalidation.Bytes.TheVariants.{Everything, Range}
use Rattle.invalidations.specs.declared.invalidation.ByteRange.{ByteRange}
use Rattle.invalidations.specs.declared.invalidation.Invalidation.{Invalidation}
use Rattle.invalidations.specs.declared.policy.Policy.{Policy}
use Rattle.invalidations.specs.Spaces.{translates, is_one, is_of_one}
use Rattle.invalidations.specs.Targets.{leaf_granules, leaf_pages, leaf_bytes}
use Rattle.invalidations.specs.Laws.{pages_from, excess, IsOfWholeLeaves, IsCoveredBy, IsWithin}
use Rattle.invalidations.specs.Gathering.{Gathered, holds_byte, IsTaken}
use Rattle.invalidations.specs.Plans.{has_granule, granules_of, request_of, are_few, commands_of, plan_of, refusal_of, target_of}

-- ---- Bytes.

abbrev pub IsByteOf : ℕ → Bytes → Type 0
IsByteOf byte Everything = Unit {0}
IsByteOf byte (Range bytes) = (bytes.first ≤ byte) × (byte < bytes.first + bytes.length)

-- The page is in a leaf that holds one of the bytes.
abbrev pub IsInLeafOf : Target → ByteRange → ℕ → Type 0
IsInLeafOf target bytes page = (byte : ℕ) × IsByteOf byte (Range bytes) × (byte / leaf_bytes target ≡ page / leaf_pages target)

-- Each translation of one of the bytes that passes this test is covered.
abbrev pub BytesAreCovered : Target → Bytes → (Tag → Type 0) → List Command → Type 0
BytesAreCovered target bytes Passes commands =
    (byte : ℕ) → IsByteOf byte bytes → (tag : Tag) → Passes tag → translates target.space (byte / 4096) tag ≡ true → IsCoveredBy commands tag

-- ---- Commands that an SMMU has.

abbrev pub has_reach : Smmu → Reach → Bool
has_reach smmu reach.Page = true
has_reach smmu (reach.Range tg num scale) = smmu.range_invalidation && has_granule smmu tg

-- It is a TLB invalidation of a stage that the SMMU has, and a range only where it has ranges of that granule; or one for an
-- endpoint, where it has ATS and the accesses.
abbrev pub is_served : Smmu → Command → Bool
is_served smmu (TlbiNhAll vmid) = smmu.stage_1
is_served smmu (TlbiNhAsid vmid asid) = smmu.stage_1
is_served smmu (TlbiNhVa vmid asid leaf page reach) = smmu.stage_1 && has_reach smmu reach
is_served smmu (TlbiNhVaa vmid leaf page reach) = smmu.stage_1 && has_reach smmu reach
is_served smmu TlbiEl2All = smmu.hypervisor
is_served smmu (TlbiEl2Asid asid) = smmu.hypervisor
is_served smmu (TlbiEl2Va asid leaf page reach) = smmu.hypervisor && has_reach smmu reach
is_served smmu (TlbiEl2Vaa leaf page reach) = smmu.hypervisor && has_reach smmu reach
is_served smmu (TlbiS12Vmall vmid) = smmu.stage_2
is_served smmu (TlbiS2Ipa vmid leaf page reach) = smmu.stage_2 && has_reach smmu reach
is_served smmu (AtcInv sid ssv ssid global size page) = smmu.ats && has_accesses smmu ssv ssid global
is_served smmu other = false

-- If there is a command, the SMMU has it.
abbrev pub IsServedIfAny : Smmu → Option Command → Type 0
IsServedIfAny smmu None = Unit {0}
IsServedIfAny smmu (Some command) = is_served smmu command ≡ true

-- The words of each such command are legal for the SMMU.
abbrev pub ServedWordsAreLegal : Type 0
ServedWordsAreLegal = (smmu : Smmu) (command : Command) (raw : Raw) → is_served smmu command ≡ true → Spells raw command → IsLegalFor smmu raw

-- ---- The law.

-- without ranges a command reaches the leaf at its page, and what comes from it
abbrev pub IsServed : Target → Tag → Type 0
IsServed target tag = (target.ranged ≡ true) ⊎ IsOfWholeLeaves target tag

-- the most commands for so many granules
abbrev pub most_for : Target → ℕ → ℕ
most_for target count = if target.ranged then 8 + count / 2 ^ 36 else count / leaf_granules target

-- The commands by address: they reach the leaves that hold the bytes and the granule in excess, and nothing else.
pub record IsByAddress (target : Target) (policy : Policy) (bytes : ByteRange) (commands : List Command) : Type 0 where
  pub covered : BytesAreCovered target (Range bytes) (IsServed target) commands
  pub within : (let granules = granules_of target bytes in All (IsWithin target (pages_from target.granule granules.first (granules.count + excess target granules.count))) commands)
  pub rounded : (let granules = granules_of target bytes in (page : ℕ) → IsIn page (pages_from target.granule granules.first granules.count) → IsInLeafOf target bytes page)
  pub few : length commands ≤ policy.most_commands
  pub fewer : length commands ≤ most_for target (granules_of target bytes).count

-- The tag isn't one that the command for the whole space spares: a global one of one address space, where the policy says that
-- no page is global.
abbrev pub IsUnspared : Target → Policy → Tag → Type 0
IsUnspared target policy tag = policy.global_pages ≡ false → is_one target.space ≡ true → is_of_one tag ≡ true

-- The command for the whole space.
pub record IsWhole (target : Target) (policy : Policy) (bytes : Bytes) (commands : List Command) : Type 0 where
  pub one : length commands ≡ 1
  pub covered : BytesAreCovered target bytes (IsUnspared target policy) commands

-- By address, where few commands are enough, and wholly where not.
abbrev pub AreByAddressOrWhole : Target → Policy → Bytes → List Command → Type 0
AreByAddressOrWhole target policy Everything commands = IsWhole target policy Everything commands
AreByAddressOrWhole target policy (Range bytes) commands =
    (are_few (request_of target bytes) policy.most_commands ≡ true → IsByAddress target policy bytes commands)
    × (are_few (request_of target bytes) policy.most_commands ≡ false → IsWhole target policy (Range bytes) commands)

-- By ranges or from such a leaf, and not one that is spared.
abbrev pub IsMeant : Target → Policy → Tag → Type 0
IsMeant target policy tag = IsServed target tag × IsUnspared target policy tag

pub record Reaches (target : Target) (smmu : Smmu) (policy : Policy) (bytes : Bytes) (commands : List Command) : Type 0 where
  -- either way
  pub covered : BytesAreCovered target bytes (IsMeant target policy) commands
  pub reached : AreByAddressOrWhole target policy bytes commands
  pub served : All (λ command. is_served smmu command ≡ true) commands

-- The commands of each invalidation that isn't refused.
abbrev pub InvalidationsReachTheirBytes : Type 0
InvalidationsReachTheirBytes =
    (invalidation : Invalidation) (smmu : Smmu) (policy : Policy) → refusal_of invalidation smmu ≡ None
    → Reaches (target_of invalidation smmu) smmu policy invalidation.bytes (commands_of (plan_of invalidation smmu policy))

-- A byte that was gathered is among those of the invalidation that is taken out, whose commands cover what translates
-- it, or it is still gathered.
abbrev pub GatheredBytesAreCovered : Type 0
GatheredBytesAreCovered =
    (old new : Gathered) (invalidation : Invalidation) (smmu : Smmu) (policy : Policy) → IsTaken old invalidation new → refusal_of invalidation smmu ≡ None
    → (byte : ℕ) → byte < 2 ^ 64 → holds_byte old byte ≡ true
    → (holds_byte new byte ≡ true) ⊎ ((tag : Tag) → IsMeant (target_of invalidation smmu) policy tag → translates old.space (byte / 4096) tag ≡ true
    → IsCoveredBy (commands_of (plan_of invalidation smmu policy)) tag)
