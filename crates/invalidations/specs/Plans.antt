-- What is sent for an invalidation.
use Rattle.std.specs.Prelude.{ℕ, ◌+◌, ◌-◌, ◌*◌, ◌/◌, ◌==◌, ◌&&◌, not, nat_lt, nat_le, Bool, false, List, [], ◌∷◌, ◌++◌, length, Option, Some, None, Result, Ok, Err, if◌then◌else◌}
use Rattle.cmdcodec.specs.declared.command.Command.{Command}
use Rattle.cmdcodec.specs.declared.reach.Granule.{Granule}
use Rattle.cmdcodec.specs.declared.reach.Granule.TheVariants.{Kib4, Kib16, Kib64}
use Rattle.smmu_features.specs.declared.smmu.Smmu.{Smmu}
use Rattle.invalidations.specs.declared.entries.Level.TheVariants.{One, Two, Three}
use Rattle.invalidations.specs.declared.entries.Entries.{Entries}
use Rattle.invalidations.specs.declared.entries.Entries.TheVariants.{Any, Leaves}
use Rattle.invalidations.specs.declared.space.Space.{Space}
use Rattle.invalidations.specs.declared.space.Space.TheVariants.{Stage1, Hypervisor, Stage2}
use Rattle.invalidations.specs.declared.request.Request.{Request}
use Rattle.invalidations.specs.declared.request.Target.{Target}
use Rattle.invalidations.specs.declared.request.GranuleRange.{GranuleRange}
use Rattle.invalidations.specs.declared.invalidation.Bytes.{Bytes}
use Rattle.invalidations.specs.declared.invalidation.Bytes.TheVariants.{Everything, Range}
use Rattle.invalidations.specs.declared.invalidation.ByteRange.{ByteRange}
use Rattle.invalidations.specs.declared.invalidation.Invalidation.{Invalidation}
use Rattle.invalidations.specs.declared.policy.Policy.{Policy}
use Rattle.invalidations.specs.declared.fault.InvalidationFault.{InvalidationFault}
use Rattle.invalidations.specs.declared.fault.InvalidationFault.TheVariants.{Unsupported, PastEnd}
use Rattle.invalidations.specs.Spaces.{size_of, whole_command, with_global_pages}
use Rattle.invalidations.specs.Targets.{leaf_granules, leaf_bytes}
use Rattle.invalidations.specs.ByAddress.{commands_by_address}

-- ---- What the SMMU has.

abbrev pub has_granule : Smmu → Granule → Bool
has_granule smmu Kib4 = smmu.granules.kib4
has_granule smmu Kib16 = smmu.granules.kib16
has_granule smmu Kib64 = smmu.granules.kib64

abbrev pub has_stage : Smmu → Space → Bool
has_stage smmu (Stage1 vmid asid) = smmu.stage_1
has_stage smmu (Hypervisor asid) = smmu.hypervisor
has_stage smmu (Stage2 vmid) = smmu.stage_2

abbrev pub is_supported : Invalidation → Smmu → Bool
is_supported invalidation smmu = has_stage smmu invalidation.space && has_granule smmu invalidation.granule

-- ---- Bytes, and the granules that hold them.

-- Level 1 of 16 KiB granules has no leaves, and a TTL that names it is reserved.
abbrev pub known_entries : Granule → Entries → Entries
known_entries granule Any = Any
known_entries granule (Leaves None) = Leaves None
known_entries granule (Leaves (Some Three)) = Leaves (Some Three)
known_entries granule (Leaves (Some Two)) = Leaves (Some Two)
known_entries Kib4 (Leaves (Some One)) = Leaves (Some One)
known_entries Kib16 (Leaves (Some One)) = Leaves None
known_entries Kib64 (Leaves (Some One)) = Leaves (Some One)

abbrev pub target_of : Invalidation → Smmu → Target
target_of invalidation smmu = record {
  space = invalidation.space;
  granule = invalidation.granule;
  entries = known_entries invalidation.granule invalidation.entries;
  ranged = smmu.range_invalidation;
}

-- the number of the first leaf with one of these bytes, and of the first behind them
abbrev pub first_leaf : Target → ByteRange → ℕ
first_leaf target bytes = bytes.first / leaf_bytes target

abbrev pub end_leaf : Target → ByteRange → ℕ
end_leaf target bytes = (bytes.first + bytes.length - 1) / leaf_bytes target + 1

abbrev pub granules_of : Target → ByteRange → GranuleRange
granules_of target bytes =
    if bytes.length == 0 then record { first = 0; count = 0 }
    else record { first = first_leaf target bytes * leaf_granules target; count = (end_leaf target bytes - first_leaf target bytes) * leaf_granules target }

abbrev pub request_of : Target → ByteRange → Request
request_of target bytes = record { target = target; range = granules_of target bytes }

abbrev pub none_of : Target → Request
none_of target = record { target = target; range = record { first = 0; count = 0 } }

-- ---- What is sent.

-- commands by address, or in their place one for a whole space
pub record Plan : Type 0 where
  pub request : Request
  pub whole : Option Space

abbrev pub commands_for_whole : Option Space → List Command
commands_for_whole None = []
commands_for_whole (Some space) = whole_command space ∷ []

unfoldable pub commands_of : Plan → List Command
commands_of plan = commands_by_address plan.request ++ commands_for_whole plan.whole

-- what is invalidated in place of many pages
abbrev pub fallback_of : Space → Policy → Space
fallback_of space policy = if policy.global_pages then with_global_pages space else space

abbrev pub wholly : Target → Policy → Plan
wholly target policy = record { request = none_of target; whole = Some (fallback_of target.space policy) }

-- There are few enough commands by address.
abbrev pub are_few : Request → ℕ → Bool
are_few request most = nat_le (length (commands_by_address request)) most

-- these commands by address, if they are few enough
abbrev pub few_or_wholly : Request → Policy → Plan
few_or_wholly request policy =
    if are_few request policy.most_commands then record { request = request; whole = None }
    else wholly request.target policy

abbrev pub plan_for : Target → Policy → Bytes → Plan
plan_for target policy Everything = wholly target policy
plan_for target policy (Range bytes) = few_or_wholly (request_of target bytes) policy

abbrev pub plan_of : Invalidation → Smmu → Policy → Plan
plan_of invalidation smmu policy = plan_for (target_of invalidation smmu) policy invalidation.bytes

-- What is still to be invalidated behind a change of stage 2: stage 1 of the virtual machine, whose translations go through it.
abbrev pub stage_1_behind : Space → Smmu → Option Space
stage_1_behind (Stage1 vmid asid) smmu = None
stage_1_behind (Hypervisor asid) smmu = None
stage_1_behind (Stage2 vmid) smmu = if smmu.stage_1 then Some (Stage1 vmid None) else None

-- ---- What is refused.

-- A byte of them is past the last byte of the space.
abbrev pub goes_past : Space → Bytes → Bool
goes_past space Everything = false
goes_past space (Range bytes) = not (bytes.length == 0) && nat_lt (size_of space * 4096) (bytes.first + bytes.length)

abbrev pub refusal_of : Invalidation → Smmu → Option InvalidationFault
refusal_of invalidation smmu =
    if not (is_supported invalidation smmu) then Some Unsupported
    else if goes_past invalidation.space invalidation.bytes then Some PastEnd
    else None

-- the fault, or this answer if there is none
abbrev pub unless : {A : Type 0} → Option InvalidationFault → A → Result A InvalidationFault
unless (Some fault) answer = Err fault
unless None answer = Ok answer

-- the commands, or the first fault
abbrev pub planned : Invalidation → Smmu → Policy → Result Plan InvalidationFault
planned invalidation smmu policy = unless (refusal_of invalidation smmu) (plan_of invalidation smmu policy)
