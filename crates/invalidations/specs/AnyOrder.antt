-- What an SMMU may do with the commands ahead of a CMD_SYNC: it carries them out in any order, and translates meanwhile.
use Rattle.std.specs.Prelude.{◌≡◌, ◌⊎◌, ℕ, ◌/◌, ◌==◌, ◌||◌, not, Bool, true, false, List, [], ◌∷◌, All, Any, Contains, Option, Some, None}
use Rattle.cmdcodec.specs.declared.command.Command.{Command}
use Rattle.caches.specs.declared.tag.Tag.{Tag}
use Rattle.caches.specs.declared.tag.Tag.TheVariants.{Ste, Cd, S1, S2, El2, Atc}
use Rattle.caches.specs.Covers.{covers, stage1, endpoints}
use Rattle.smmu_features.specs.declared.smmu.Smmu.{Smmu}
use Rattle.invalidations.specs.declared.space.Space.{Space}
use Rattle.invalidations.specs.declared.space.Space.TheVariants.{Stage1, Hypervisor, Stage2}
use Rattle.invalidations.specs.declared.invalidation.Invalidation.{Invalidation}
use Rattle.invalidations.specs.declared.policy.Policy.{Policy}
use Rattle.invalidations.specs.Spaces.{translates, whole_command}
use Rattle.invalidations.specs.Laws.{IsCoveredBy}
use Rattle.invalidations.specs.Plans.{stage_1_behind, commands_of, plan_of, refusal_of, target_of}
use Rattle.invalidations.specs.Reaching.{IsByteOf, IsMeant}

-- ---- What is stale.

-- The tags of the entries that are stale: made, directly or through another entry, from what stood in memory before the
-- driver's change. An entry counts from when what it is made from was read, so none is made from memory any more.
abbrev pub Moment : Type 0
Moment = List Tag

abbrev pub is_stream_table_entry : Tag → Bool
is_stream_table_entry (Ste sid) = true
is_stream_table_entry other = false

abbrev pub is_of_endpoint : Tag → Bool
is_of_endpoint = endpoints (λ sid ssid pages. true)

abbrev pub is_stage_1_of : ℕ → Tag → Bool
is_stage_1_of vmid = stage1 (λ v scope pages. v == vmid)

-- An entry with the second tag can be made from one with the first: a context descriptor and any translation from a stream
-- table entry or a context descriptor, one of stage 1 from one of stage 2 of its virtual machine, an endpoint's from any.
-- That a context descriptor is read through stage 2 isn't meant: who moves one sends its CMD_CFGI_CD.
abbrev pub makes : Tag → Tag → Bool
makes (Ste sid) made = not (is_stream_table_entry made)
makes (Cd sid ssid) made = not (is_stream_table_entry made)
makes (S1 vmid scope page span) made = is_of_endpoint made
makes (S2 vmid page span) made = is_stage_1_of vmid made || is_of_endpoint made
makes (El2 scope page span) made = is_of_endpoint made
makes (Atc sid ssid page span) made = false

-- ---- What may happen up to a CMD_SYNC.

-- A command acts: what it covers goes. More may go, and nothing appears.
pub record Acts (command : Command) (before after : Moment) : Type 0 where
  pub gone : (tag : Tag) → Contains after tag → covers command tag ≡ false
  pub none_new : (tag : Tag) → Contains after tag → Contains before tag

-- It can be made from a stale entry that is held.
abbrev pub CanBeMade : Moment → Tag → Type 0
CanBeMade held tag = (source : Tag) × Contains held source × (makes source tag ≡ true)

-- Something else happens: any entries go, or are made.
abbrev pub Happens : Moment → Moment → Type 0
Happens before after = (tag : Tag) → Contains after tag → Contains before tag ⊎ CanBeMade before tag

-- a command that acts, if one does, and what is stale behind that
pub record Step : Type 0 where
  pub acting : Option Command
  pub after : Moment

abbrev pub IsStep : Moment → Option Command → Moment → Type 0
IsStep before (Some command) after = Acts command before after
IsStep before None after = Happens before after

abbrev pub IsRun : Moment → List Step → Type 0
IsRun start [] = Unit {0}
IsRun start (step ∷ steps) = IsStep start step.acting step.after × IsRun step.after steps

-- what is stale at the end
abbrev pub end_of : Moment → List Step → Moment
end_of start [] = start
end_of start (step ∷ steps) = end_of step.after steps

abbrev pub HasActed : List Step → Command → Type 0
HasActed steps command = Any (λ step. step.acting ≡ Some command) steps

-- A batch with a CMD_SYNC: each command acts before that completes, in any order.
pub record IsBatch (commands : List Command) (start : Moment) (steps : List Step) : Type 0 where
  pub run : IsRun start steps
  pub each : All (HasActed steps) commands

-- Behind any batch of these commands nothing that is asked for is stale.
abbrev pub Clean : List Command → Moment → (Tag → Bool) → Type 0
Clean commands start asked = (steps : List Step) → IsBatch commands start steps → All (λ tag. asked tag ≡ false) (end_of start steps)

-- ---- Which commands need no order.

-- Whatever can be made from these entries is one of them, and isn't asked for.
abbrev pub MakeNone : (Tag → Bool) → (Tag → Bool) → Type 0
MakeNone held asked = (source made : Tag) → held source ≡ true → makes source made ≡ true → (held made ≡ true) × (asked made ≡ false)

-- What is asked for is covered and can't be made again: then no order of the commands leaves any.
abbrev pub CoveredBatchesAreClean : Type 0
CoveredBatchesAreClean =
    (commands : List Command) (start : Moment) (held asked : Tag → Bool) → All (λ tag. held tag ≡ true) start → MakeNone held asked
    → All (λ tag. asked tag ≡ true → IsCoveredBy commands tag) start → Clean commands start asked

-- what can be made from the translations of a space
abbrev pub is_behind : Space → Tag → Bool
is_behind (Stage1 vmid asid) tag = is_of_endpoint tag
is_behind (Hypervisor asid) tag = is_of_endpoint tag
is_behind (Stage2 vmid) tag = is_stage_1_of vmid tag || is_of_endpoint tag

-- The tag is of a translation of one of the bytes that changed, which the commands reach.
abbrev pub IsChanged : Invalidation → Smmu → Policy → Tag → Type 0
IsChanged invalidation smmu policy tag =
    (byte : ℕ) × IsByteOf byte invalidation.bytes × IsMeant (target_of invalidation smmu) policy tag × (translates invalidation.space (byte / 4096) tag ≡ true)

-- what may be stale behind the change: those, and what was made from them
abbrev pub MayBeStale : Invalidation → Smmu → Policy → Tag → Type 0
MayBeStale invalidation smmu policy tag = IsChanged invalidation smmu policy tag ⊎ (is_behind invalidation.space tag ≡ true)

-- Each batch of the invalidation's commands leaves nothing but what can be made from those: endpoints' entries, and behind
-- stage 2 those of stage 1.
abbrev pub ChangesAreClean : Type 0
ChangesAreClean =
    (invalidation : Invalidation) (smmu : Smmu) (policy : Policy) (start : Moment) → refusal_of invalidation smmu ≡ None
    → All (MayBeStale invalidation smmu policy) start
    → Clean (commands_of (plan_of invalidation smmu policy)) start (λ tag. not (is_behind invalidation.space tag))

-- With the CMD_SYNC of those complete, a batch of the command for all of stage 1 behind stage 2 leaves endpoints' entries alone.
abbrev pub Stage1BehindIsClean : Type 0
Stage1BehindIsClean =
    (invalidation : Invalidation) (smmu : Smmu) (policy : Policy) (start : Moment) (space : Space) (steps : List Step) → refusal_of invalidation smmu ≡ None
    → stage_1_behind invalidation.space smmu ≡ Some space → All (MayBeStale invalidation smmu policy) start
    → IsBatch (commands_of (plan_of invalidation smmu policy)) start steps
    → Clean (whole_command space ∷ []) (end_of start steps) (λ tag. not (is_of_endpoint tag))

-- With the CMD_SYNC of those complete, nothing is stale behind CMD_ATC_INVs that cover the endpoints' entries.
abbrev pub EndpointsAreClean : Type 0
EndpointsAreClean =
    (commands : List Command) (start : Moment) → All (λ tag. is_of_endpoint tag ≡ true) start → All (IsCoveredBy commands) start → Clean commands start (λ tag. true)
