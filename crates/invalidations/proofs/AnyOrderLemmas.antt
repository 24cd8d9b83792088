-- What is stale behind a batch whose commands act in any order.
use Rattle.std.proofs.Common.{◌≡◌, ℕ, zero, suc, ◌/◌, ◌<◌, ◌==◌, ◌||◌, not, Bool, true, false, inl, inr, List, [], ◌∷◌, length, All, Contains, Option, Some, None, refl, ap, sym, subst, ◌∙◌, arith}
use Rattle.std.proofs.lemmas.Bool.{cases_Bool, eqb-true, and_parts, or_cases}
use Rattle.std.specs.Prelude.{slice_index_or}
use Rattle.std.proofs.lemmas.List.Elements.{All-contains, Contains-get_or}
use Rattle.cmdcodec.specs.declared.command.Command.{Command}
use Rattle.caches.specs.declared.tag.Tag.{Tag}
use Rattle.caches.specs.declared.tag.Tag.TheVariants.{S1, S2, El2, Atc}
use Rattle.caches.specs.Blocks.{block, holds}
use Rattle.caches.specs.Covers.{covers, stage1, stage2, el2}
use Rattle.smmu_features.specs.declared.smmu.Smmu.{Smmu}
use Rattle.invalidations.specs.declared.space.Space.{Space}
use Rattle.invalidations.specs.declared.space.Space.TheVariants.{Stage1, Hypervisor, Stage2}
use Rattle.invalidations.specs.declared.invalidation.Invalidation.{Invalidation}
use Rattle.invalidations.specs.declared.policy.Policy.{Policy}
use Rattle.invalidations.specs.Spaces.{translates, whole_command}
use Rattle.invalidations.specs.Laws.{IsCoveredBy}
use Rattle.invalidations.specs.Plans.{stage_1_behind, commands_of, plan_of, refusal_of}
use Rattle.invalidations.specs.AnyOrder.{Moment, is_of_endpoint, is_stage_1_of, makes, Acts, Step, IsStep, IsRun, end_of, HasActed, IsBatch, Clean, MakeNone, CoveredBatchesAreClean, is_behind, MayBeStale, ChangesAreClean, Stage1BehindIsClean, EndpointsAreClean}
use Rattle.invalidations.proofs.ReachLemmas.{reached}

-- ---- What is asked for is never made again.

IsHeld : (Tag → Bool) → Moment → Type 0
IsHeld held moment = (tag : Tag) → Contains moment tag → held tag ≡ true

still_held : (held asked : Tag → Bool) → MakeNone held asked → (before : Moment) (acting : Option Command) (after : Moment) → IsStep before acting after
    → IsHeld held before → IsHeld held after
unfolding IsHeld
still_held held asked none before (Some command) after step all tag there = all tag (step.none_new tag there)
still_held held asked none before None after step all tag there =
    elim (step tag there) [
      | inl old ↦ all tag old
      | inr made ↦ (none made.0 tag (all made.0 made.1) made.2).0
    ]

was_there : (held asked : Tag → Bool) → MakeNone held asked → (before : Moment) (acting : Option Command) (after : Moment) → IsStep before acting after
    → IsHeld held before → (tag : Tag) → asked tag ≡ true → Contains after tag → Contains before tag
unfolding IsHeld
was_there held asked none before (Some command) after step all tag is there = step.none_new tag there
was_there held asked none before None after step all tag is there =
    elim (step tag there) [
      | inl old ↦ old
      | inr made ↦ absurd (let isnt = (none made.0 tag (all made.0 made.1) made.2).1 in let wrong : true ≡ false = sym is ∙ isnt in cc)
    ]

-- It was there from the start, and no command that acted covers it.
record Stood (start : Moment) (steps : List Step) (tag : Tag) : Type 0 where
  from : Contains start tag
  spared : (command : Command) → HasActed steps command → covers command tag ≡ false

spared_by_first : (before : Moment) (acting : Option Command) (after : Moment) (command : Command) (tag : Tag) → IsStep before acting after → acting ≡ Some command
    → Contains after tag → covers command tag ≡ false
spared_by_first before acting after command tag step is there =
    let acts : Acts command before after = subst (λ a. IsStep before a after) is step in acts.gone tag there

spared_by : (start : Moment) (step : Step) (steps : List Step) (tag : Tag) → IsStep start step.acting step.after → Contains step.after tag
    → ((command : Command) → HasActed steps command → covers command tag ≡ false) → (command : Command) → HasActed (step ∷ steps) command → covers command tag ≡ false
spared_by start step steps tag is there rest command (zero, found, below, first, acting) =
    spared_by_first start step.acting step.after command tag is (ap (λ (s : Step). s.acting) first ∙ acting) there
spared_by start step steps tag is there rest command (suc k, found, below, first, acting) =
    rest command (k, found, (let small : k < length steps = omega (arith, below) in small), first, acting)

stood : (held asked : Tag → Bool) → MakeNone held asked → (steps : List Step) (start : Moment) → IsRun start steps → IsHeld held start
    → (tag : Tag) → asked tag ≡ true → Contains (end_of start steps) tag → Stood start steps tag
stood held asked none [] start run all tag is there = record { from = there; spared = λ command acted. absurd (let below = acted.2 in omega (arith, below)) }
stood held asked none (step ∷ steps) start run all tag is there =
    let rest = stood held asked none steps step.after run.1 (still_held held asked none start step.acting step.after run.0 all) tag is there in
    record {
      from = was_there held asked none start step.acting step.after run.0 all tag is rest.from;
      spared = spared_by start step steps tag run.0 rest.from rest.spared;
    }

not_covered : (commands : List Command) (start : Moment) (steps : List Step) (tag : Tag) → Stood start steps tag → All (HasActed steps) commands → IsCoveredBy commands tag → ⊥
not_covered commands start steps tag left each (k, command, below, is, covered) =
    let acted : HasActed steps command = subst (HasActed steps) is (each k command below) in
    let spared = left.spared command acted in
    let wrong : true ≡ false = sym covered ∙ spared in cc

gone : (commands : List Command) (start : Moment) (held asked : Tag → Bool) → All (λ tag. held tag ≡ true) start → MakeNone held asked
    → All (λ tag. asked tag ≡ true → IsCoveredBy commands tag) start → (steps : List Step) → IsBatch commands start steps
    → (tag : Tag) → Contains (end_of start steps) tag → asked tag ≡ false
unfolding IsHeld
gone commands start held asked all none covered steps batch tag there =
    elim (cases_Bool (asked tag)) [
      | inl is ↦ absurd (
          let left = stood held asked none steps start batch.run (λ t at. All-contains (λ s. held s ≡ true) start t all at) tag is there in
          not_covered commands start steps tag left batch.each (All-contains (λ t. asked t ≡ true → IsCoveredBy commands t) start tag covered left.from is))
      | inr isnt ↦ isnt
    ]

pub covered_clean : CoveredBatchesAreClean
covered_clean commands start held asked all none covered steps batch = λ k d below.
    gone commands start held asked all none covered steps batch (slice_index_or (end_of start steps) k d) (Contains-get_or (end_of start steps) k d below)

-- ---- Translations of a space, and what can be made from them.

-- the translations themselves
kind : Space → Tag → Bool
kind (Stage1 vmid asid) tag = stage1 (λ v scope pages. true) tag
kind (Hypervisor asid) tag = el2 (λ scope pages. true) tag
kind (Stage2 vmid) tag = stage2 (λ v pages. v == vmid) tag

of_kind : (space : Space) (page : ℕ) (tag : Tag) → translates space page tag ≡ true → kind space tag ≡ true
unfolding kind
of_kind (Stage1 vmid (Some asid)) page (S1 v scope at span) is = refl
of_kind (Stage1 vmid None) page (S1 v scope at span) is = refl
of_kind (Hypervisor (Some asid)) page (El2 scope at span) is = refl
of_kind (Hypervisor None) page (El2 scope at span) is = refl
of_kind (Stage2 vmid) page (S2 v at span) is = (and_parts (v == vmid) (holds (block at span) page) is).0
of_kind (Stage1 vmid (Some asid)) page other is = absurd cc
of_kind (Stage1 vmid None) page other is = absurd cc
of_kind (Hypervisor (Some asid)) page other is = absurd cc
of_kind (Hypervisor None) page other is = absurd cc
of_kind (Stage2 vmid) page other is = absurd cc

or_true : (a : Bool) → (a || true) ≡ true
or_true true = refl
or_true false = refl

behind_endpoint : (space : Space) (tag : Tag) → is_of_endpoint tag ≡ true → is_behind space tag ≡ true
behind_endpoint (Stage1 vmid asid) tag is = is
behind_endpoint (Hypervisor asid) tag is = is
behind_endpoint (Stage2 vmid) tag is = rw is (or_true (is_stage_1_of vmid tag))

-- What is made from a translation, or from what is behind it, is behind it.
made_behind : (space : Space) (source made : Tag) → (kind space source || is_behind space source) ≡ true → makes source made ≡ true → is_behind space made ≡ true
unfolding kind
made_behind (Stage1 vmid asid) (S1 v scope at span) made is makes = makes
made_behind (Stage1 vmid asid) (Atc sid ssid at span) made is makes = absurd cc
made_behind (Stage1 vmid asid) other made is makes = absurd cc
made_behind (Hypervisor asid) (El2 scope at span) made is makes = makes
made_behind (Hypervisor asid) (Atc sid ssid at span) made is makes = absurd cc
made_behind (Hypervisor asid) other made is makes = absurd cc
made_behind (Stage2 vmid) (S1 v scope at span) made is makes = behind_endpoint (Stage2 vmid) made makes
made_behind (Stage2 vmid) (S2 v at span) made is makes =
    let same : v ≡ vmid = elim (or_cases (v == vmid) false is) [ inl e ↦ eqb-true v vmid e | inr wrong ↦ absurd cc ] in
    subst (λ n. (is_stage_1_of n made || is_of_endpoint made) ≡ true) same makes
made_behind (Stage2 vmid) (Atc sid ssid at span) made is makes = absurd cc
made_behind (Stage2 vmid) other made is makes = absurd cc

make_none : (space : Space) → MakeNone (λ tag. kind space tag || is_behind space tag) (λ tag. not (is_behind space tag))
make_none space source made is makes =
    let behind = made_behind space source made is makes in
    (rw behind (or_true (kind space made)), ap not behind)

may_be_held : (invalidation : Invalidation) (smmu : Smmu) (policy : Policy) (tag : Tag) → MayBeStale invalidation smmu policy tag
    → (kind invalidation.space tag || is_behind invalidation.space tag) ≡ true
may_be_held invalidation smmu policy tag (inl changed) = rw (of_kind invalidation.space (changed.0 / 4096) tag changed.3) refl
may_be_held invalidation smmu policy tag (inr behind) = rw behind (or_true (kind invalidation.space tag))

is_reached : (invalidation : Invalidation) (smmu : Smmu) (policy : Policy) (tag : Tag) → refusal_of invalidation smmu ≡ None → MayBeStale invalidation smmu policy tag
    → not (is_behind invalidation.space tag) ≡ true → IsCoveredBy (commands_of (plan_of invalidation smmu policy)) tag
is_reached invalidation smmu policy tag accepted (inl changed) isnt =
    (reached invalidation smmu policy accepted).covered changed.0 changed.1 tag changed.2 changed.3
is_reached invalidation smmu policy tag accepted (inr behind) isnt = absurd (let wrong : false ≡ true = sym (ap not behind) ∙ isnt in cc)

pub changes_clean : ChangesAreClean
changes_clean invalidation smmu policy start accepted stale =
    covered_clean (commands_of (plan_of invalidation smmu policy)) start (λ tag. kind invalidation.space tag || is_behind invalidation.space tag)
    (λ tag. not (is_behind invalidation.space tag))
    (λ k d below. may_be_held invalidation smmu policy _ (stale k d below)) (make_none invalidation.space)
    (λ k d below asked. is_reached invalidation smmu policy _ accepted (stale k d below) asked)

-- ---- Stage 1 behind stage 2, and endpoints.

made_by_endpoint : (source made : Tag) → is_of_endpoint source ≡ true → makes source made ≡ true → ⊥
made_by_endpoint (Atc sid ssid at span) made is makes = cc
made_by_endpoint other made is makes = cc

not_false : (a : Bool) → not a ≡ false → a ≡ true
not_false true is = refl
not_false false is = absurd cc

-- what is behind stage 2, alone
behind_alone : (vmid : ℕ) (source made : Tag) → is_behind (Stage2 vmid) source ≡ true → makes source made ≡ true → is_of_endpoint made ≡ true
behind_alone vmid (S1 v scope at span) made is makes = makes
behind_alone vmid (Atc sid ssid at span) made is makes = absurd cc
behind_alone vmid other made is makes = absurd cc

stage_1_covered : (vmid : ℕ) (tag : Tag) → is_behind (Stage2 vmid) tag ≡ true → not (is_of_endpoint tag) ≡ true → IsCoveredBy (whole_command (Stage1 vmid None) ∷ []) tag
stage_1_covered vmid tag is isnt =
    elim (or_cases (is_stage_1_of vmid tag) (is_of_endpoint tag) is) [
      | inl stage_1 ↦ (0, whole_command (Stage1 vmid None), omega arith, refl, stage_1)
      | inr endpoint ↦ absurd (let wrong : false ≡ true = sym (ap not endpoint) ∙ isnt in cc)
    ]

behind_clean : (vmid : ℕ) (start : Moment) → All (λ tag. is_behind (Stage2 vmid) tag ≡ true) start → Clean (whole_command (Stage1 vmid None) ∷ []) start (λ tag. not (is_of_endpoint tag))
behind_clean vmid start all =
    covered_clean (whole_command (Stage1 vmid None) ∷ []) start (is_behind (Stage2 vmid)) (λ tag. not (is_of_endpoint tag)) all
    (λ source made is makes. let endpoint = behind_alone vmid source made is makes in (behind_endpoint (Stage2 vmid) made endpoint, ap not endpoint))
    (λ k d below. stage_1_covered vmid _ (all k d below))

of_stage_2 : (space : Space) (smmu : Smmu) (behind : Space) → stage_1_behind space smmu ≡ Some behind → (vmid : ℕ) × (space ≡ Stage2 vmid) × (behind ≡ Stage1 vmid None)
of_stage_2 (Stage1 vmid asid) smmu behind is = absurd cc
of_stage_2 (Hypervisor asid) smmu behind is = absurd cc
of_stage_2 (Stage2 vmid) smmu behind is =
    elim (cases_Bool smmu.stage_1) [
      | inl has ↦ (vmid, refl, (let both : Some (Stage1 vmid None) ≡ Some behind = rw has at is in cc))
      | inr hasnt ↦ absurd (let wrong : None ≡ Some behind = rw hasnt at is in cc)
    ]

pub stage_1_clean : Stage1BehindIsClean
stage_1_clean invalidation smmu policy start space steps accepted is stale batch =
    let parts = of_stage_2 invalidation.space smmu space is in
    let clean = changes_clean invalidation smmu policy start accepted stale steps batch in
    let left : All (λ tag. is_behind (Stage2 parts.0) tag ≡ true) (end_of start steps) =
    λ k d below.
    let tag = slice_index_or (end_of start steps) k d in
    subst (λ s. is_behind s tag ≡ true) parts.1 (not_false (is_behind invalidation.space tag) (clean k d below)) in
    subst (λ s. Clean (whole_command s ∷ []) (end_of start steps) (λ tag. not (is_of_endpoint tag))) (sym parts.2) (behind_clean parts.0 (end_of start steps) left)

pub endpoints_clean : EndpointsAreClean
endpoints_clean commands start all covered =
    covered_clean commands start is_of_endpoint (λ tag. true) all (λ source made is makes. absurd (made_by_endpoint source made is makes)) (λ k d below asked. covered k d below)
