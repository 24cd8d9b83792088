-- What a driver changed, as C says it, and the commands that it gets for that.
use Rattle.std.specs.Prelude.{◌≡◌, ◌<◌, ◌≤◌, ◌^◌, ◌==◌, ℕ, ◌++◌, List, [], ◌∷◌, length, drop, Option, None, Some, MatchOption, Result, Ok, Err}
use Rattle.cmdcodec.specs.declared.command.Command.{Command}
use Rattle.cmdcodec.specs.declared.raw.Raw.{Raw}
use Rattle.cmdcodec.specs.Spelling.{granule_number}
use Rattle.cmdcodec.specs.Words.{encoding}
use Rattle.smmu_features.specs.declared.smmu.Smmu.{Smmu}
use Rattle.invalidations.specs.declared.endpoint.Endpoint.{Endpoint}
use Rattle.invalidations.specs.declared.endpoint.Substreams.{Substreams}
use Rattle.invalidations.specs.declared.endpoint.Substreams.TheVariants.{All, One, Each}
use Rattle.invalidations.specs.declared.entries.Entries.{Entries}
use Rattle.invalidations.specs.declared.entries.Entries.TheVariants.{Any, Leaves}
use Rattle.invalidations.specs.declared.fault.InvalidationFault.{InvalidationFault}
use Rattle.invalidations.specs.declared.fault.InvalidationFault.TheVariants as fault
use Rattle.invalidations.specs.declared.invalidation.Bytes.{Bytes}
use Rattle.invalidations.specs.declared.invalidation.Bytes.TheVariants.{Everything, Range}
use Rattle.invalidations.specs.declared.invalidation.Invalidation.{Invalidation}
use Rattle.invalidations.specs.declared.policy.Policy.{Policy}
use Rattle.invalidations.specs.declared.space.Space.{Space}
use Rattle.invalidations.specs.declared.space.Space.TheVariants.{Stage1, Hypervisor, Stage2}
use Rattle.invalidations.specs.Endpoints.{endpoint_refusal, IsForBytes}
use Rattle.invalidations.specs.Filling.{AreWordsOfAll}
use Rattle.invalidations.specs.Plans.{Plan, commands_of, planned, stage_1_behind}
use Rattle.invalidations.specs.Spaces.{whole_command}
use Rattle.invalidations.specs.Targets.{number_of}
use Rattle.batch.specs.declared.fault.BatchFault.TheVariants as batch
use Rattle.smmuq_c.specs.Batches.{IsGiven}
use Rattle.smmuq_c.specs.declared.asked.Asked.{Asked}
use Rattle.smmuq_c.specs.declared.asked.Asked.TheVariants.{Translations, Accesses}
use Rattle.smmuq_c.specs.declared.change.Change.{Change}
use Rattle.smmuq_c.specs.declared.status.Status.{Status}
use Rattle.smmuq_c.specs.declared.status.Status.TheVariants.{Done, Batch, BadField, ShortBuffer, Unsupported}

-- It is what is said, or nothing is.
abbrev pub IsSaidBy : {X : Type 0} → (X → Type 0) → Option X → Type 0
IsSaidBy {X} Says said = MatchOption said ((x : X) → ¬ Says x) Says

-- ---- what the fields say, in range

-- the number, if it has no more than these bits
abbrev pub IsWithin : ℕ → ℕ → ℕ → Type 0
IsWithin bits field number = (field ≡ number) × (number < 2 ^ bits)

abbrev pub SaysBytes : Change → Bytes → Type 0
SaysBytes c Everything = c.everything ≡ 1
SaysBytes c (Range bytes) = (c.everything ≡ 0) × (bytes ≡ record { first = c.first; length = c.length })

-- 1 says that of its pages some may be global.
abbrev pub SaysAsid : Change → Option ℕ → Type 0
SaysAsid c None = c.asids ≡ 0
SaysAsid c (Some asid) = (0 < c.asids) × (c.asids ≤ 2) × IsWithin 16 c.asid asid

abbrev pub SaysSpace : Change → Space → Type 0
SaysSpace c (Stage1 vmid asid) = (c.kind ≡ 3) × IsWithin 16 c.vmid vmid × SaysAsid c asid
SaysSpace c (Stage2 vmid) = (c.kind ≡ 4) × IsWithin 16 c.vmid vmid
SaysSpace c (Hypervisor asid) = (c.kind ≡ 5) × SaysAsid c asid

-- Where tables changed, no level is told.
abbrev pub SaysEntries : Change → Entries → Type 0
SaysEntries c Any = (c.leaf ≡ 0) × (c.ttl ≡ 0)
SaysEntries c (Leaves None) = (c.leaf ≡ 1) × (c.ttl ≡ 0)
SaysEntries c (Leaves (Some level)) = (c.leaf ≡ 1) × (c.ttl ≡ number_of level)

abbrev pub SaysInvalidation : Change → Invalidation → Type 0
SaysInvalidation c invalidation =
    SaysSpace c invalidation.space × SaysBytes c invalidation.bytes
    × (c.tg ≡ granule_number invalidation.granule) × SaysEntries c invalidation.entries

abbrev pub SaysPolicy : Change → Policy → Type 0
SaysPolicy c policy =
    (c.most_commands ≡ policy.most_commands) × (policy.global_pages ≡ (c.asids == 1))

abbrev pub SaysSubstreams : Change → Substreams → Type 0
SaysSubstreams c All = c.substreams ≡ 0
SaysSubstreams c Each = c.substreams ≡ 1
SaysSubstreams c (One ssid) = (c.substreams ≡ 2) × IsWithin 20 c.ssid ssid

-- Fields that it doesn't have are ignored.
abbrev pub SaysChange : Change → Asked → Type 0
SaysChange c (Translations invalidation policy) = SaysInvalidation c invalidation × SaysPolicy c policy
SaysChange c (Accesses endpoint bytes) =
    (c.kind ≡ 8) × (c.sid ≡ endpoint.sid) × SaysSubstreams c endpoint.substreams × SaysBytes c bytes

-- The most commands that it asks for are a number of 32 bits.
abbrev pub IsCountable : Asked → Type 0
IsCountable (Translations invalidation policy) = policy.most_commands < 2 ^ 32
IsCountable (Accesses endpoint bytes) = Unit {0}

-- ---- what is answered

abbrev pub fault_status : InvalidationFault → Status
fault_status fault.Unsupported = Unsupported
fault_status fault.PastEnd = Batch batch.PastEnd

-- The words of these commands, with their TTL, come first in the buffer, and what is after them stays; or it is too
-- short, and stays. Their number is told.
abbrev pub AreGiven : Plan → List Raw → List Raw → ℕ → Status → Type 0
AreGiven plan old new told Done =
    (raws : List Raw) × AreWordsOfAll plan.request.target (commands_of plan) raws
    × (told ≡ length (commands_of plan)) × (new ≡ raws ++ drop (length raws) old)
AreGiven plan old new told ShortBuffer =
    (told ≡ length (commands_of plan)) × (length old < length (commands_of plan)) × (new ≡ old)
AreGiven plan old new told other = ⊥

abbrev pub HasPlanned : Result Plan InvalidationFault → List Raw → List Raw → ℕ → Status → Type 0
HasPlanned (Ok plan) old new told status = AreGiven plan old new told status
HasPlanned (Err fault) old new told status = status ≡ fault_status fault

abbrev pub words_of_one : Option Command → List Raw
words_of_one None = []
words_of_one (Some command) = encoding command ∷ []

-- The command for these bytes of an endpoint is given, if there is one; or it is refused.
abbrev pub HasEndpoint : Option InvalidationFault → Endpoint → Bytes → List Raw → List Raw → ℕ → Status → Type 0
HasEndpoint None endpoint bytes old new told status =
    (command : Option Command) × IsForBytes endpoint bytes command
    × IsGiven (words_of_one command) old new told status
HasEndpoint (Some fault) endpoint bytes old new told status = status ≡ fault_status fault

abbrev pub HasAsked : Smmu → Asked → List Raw → List Raw → ℕ → Status → Type 0
HasAsked smmu (Translations invalidation policy) = HasPlanned (planned invalidation smmu policy)
HasAsked smmu (Accesses endpoint bytes) = HasEndpoint (endpoint_refusal endpoint bytes smmu) endpoint bytes

-- The commands for what the fields say are given; or they say nothing.
abbrev pub HasInvalidation : Smmu → Change → List Raw → List Raw → ℕ → Status → Type 0
HasInvalidation smmu change old new told status =
    (asked : Option Asked) × IsSaidBy (SaysChange change) asked
    × MatchOption asked (status ≡ BadField) (λ a. HasAsked smmu a old new told status)

-- ---- behind a change of stage 2

abbrev pub whole_of : Option Space → Option Command
whole_of None = None
whole_of (Some space) = Some (whole_command space)

-- The command for all of the stage 1 that goes through it is given, if the SMMU has one; or the VMID is too wide.
abbrev pub HasNestedInvalidation : Smmu → ℕ → List Raw → List Raw → ℕ → Status → Type 0
HasNestedInvalidation smmu vmid old new told BadField = (¬ (vmid < 2 ^ 16)) × (new ≡ old)
HasNestedInvalidation smmu vmid old new told status =
    (vmid < 2 ^ 16)
    × IsGiven (words_of_one (whole_of (stage_1_behind (Stage2 vmid) smmu))) old new told status
