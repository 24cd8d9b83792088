-- What the definitions say of commands that act in any order.
use Rattle.std.proofs.Common.{◌≡◌, ◌⊎◌, ℕ, zero, suc, ◌<◌, not, Bool, true, false, inl, inr, List, [], ◌∷◌, length, Contains, Option, Some, None, refl, ap, sym, subst, ◌∙◌, arith}
use Rattle.std.proofs.lemmas.Bool.{cases_Bool}
use Rattle.std.proofs.lemmas.List.Elements.{Contains-get_or}
use Rattle.std.specs.Prelude.{slice_index_or}
use Rattle.cmdcodec.specs.declared.command.Command.{Command}
use Rattle.cmdcodec.specs.declared.command.Command.TheVariants.{TlbiNhAll, TlbiS2Ipa}
use Rattle.cmdcodec.specs.declared.reach.Reach.TheVariants as reach
use Rattle.caches.specs.declared.tag.Scope.TheVariants.{Global}
use Rattle.caches.specs.declared.tag.Tag.{Tag}
use Rattle.caches.specs.declared.tag.Tag.TheVariants.{Ste, Cd, S1, S2, El2, Atc}
use Rattle.caches.specs.Covers.{covers}
use Rattle.invalidations.specs.declared.space.Space.TheVariants.{Stage1, Stage2}
use Rattle.invalidations.specs.AnyOrder.{Moment, is_of_endpoint, is_stage_1_of, makes, Acts, Happens, Step, IsStep, IsRun, end_of, HasActed, IsBatch, Clean, is_behind}

-- stage 2 of virtual machine 1 changed at page 8, and stage 1 goes through that
abbrev pub stage_2 : Tag
stage_2 = S2 1 8 0

abbrev pub stage_1 : Tag
stage_1 = S1 1 Global 5 0

abbrev pub s2_ipa : Command
s2_ipa = TlbiS2Ipa 1 true 8 reach.Page

abbrev pub nh_all : Command
nh_all = TlbiNhAll 1

-- the TLB's
abbrev pub asked : Tag → Bool
asked tag = not (is_of_endpoint tag)

-- ---- Both commands in one batch: stage 1's acts first, its entry is made again by the old stage 2, and outlives the CMD_SYNC.

abbrev pub steps : List Step
steps = record { acting = Some nh_all; after = stage_2 ∷ [] } ∷ record { acting = None; after = stage_2 ∷ stage_1 ∷ [] } ∷ record { acting = Some s2_ipa; after = stage_1 ∷ [] } ∷ []

only : (one tag : Tag) → Contains (one ∷ []) tag → one ≡ tag
only one tag (zero, below, is) = is
only one tag (suc k, below, is) = absurd (omega (arith, below))

nh_all_acts : Acts nh_all (stage_2 ∷ []) (stage_2 ∷ [])
nh_all_acts = record { gone = λ tag there. subst (λ t. covers nh_all t ≡ false) (only stage_2 tag there) refl; none_new = λ tag there. there }

made_again : Happens (stage_2 ∷ []) (stage_2 ∷ stage_1 ∷ [])
made_again tag (zero, below, is) = inl (0, omega arith, is)
made_again tag (suc zero, below, is) = inr (stage_2, (0, omega arith, refl), subst (λ t. makes stage_2 t ≡ true) is refl)
made_again tag (suc (suc k), below, is) = absurd (omega (arith, below))

s2_ipa_acts : Acts s2_ipa (stage_2 ∷ stage_1 ∷ []) (stage_1 ∷ [])
s2_ipa_acts = record {
  gone = λ tag there. subst (λ t. covers s2_ipa t ≡ false) (only stage_1 tag there) refl;
  none_new = λ tag there. (1, omega arith, only stage_1 tag there);
}

each_acts : (k : ℕ) (d : Command) → k < 2 → HasActed steps (slice_index_or (s2_ipa ∷ nh_all ∷ []) k d)
each_acts zero d below = (2, record { acting = Some s2_ipa; after = stage_1 ∷ [] }, omega arith, refl, refl)
each_acts (suc zero) d below = (0, record { acting = Some nh_all; after = stage_2 ∷ [] }, omega arith, refl, refl)
each_acts (suc (suc k)) d below = absurd (omega (arith, below))

pub one_batch_is_not_clean : ¬ Clean (s2_ipa ∷ nh_all ∷ []) (stage_2 ∷ []) asked
one_batch_is_not_clean clean =
    let run : IsRun (stage_2 ∷ []) steps = (nh_all_acts, (made_again, (s2_ipa_acts, tt))) in
    let left = clean steps (record { run = run; each = each_acts }) 0 stage_1 (omega arith) in
    let wrong : true ≡ false = left in cc

-- ---- Stage 1's in a batch of its own, once no entry of stage 2 is stale.

-- The tags are of stage 1 of the machine, or endpoints'.
IsLate : Tag → Type 0
IsLate tag = (is_stage_1_of 1 tag ≡ true) ⊎ (is_of_endpoint tag ≡ true)

makes_endpoints : (source made : Tag) → IsLate source → makes source made ≡ true → is_of_endpoint made ≡ true
unfolding IsLate
makes_endpoints (S1 vmid scope page span) made late is = is
makes_endpoints (Atc sid ssid page span) made late is = absurd cc
makes_endpoints (Ste sid) made (inl wrong) is = absurd cc
makes_endpoints (Ste sid) made (inr wrong) is = absurd cc
makes_endpoints (Cd sid ssid) made (inl wrong) is = absurd cc
makes_endpoints (Cd sid ssid) made (inr wrong) is = absurd cc
makes_endpoints (S2 vmid page span) made (inl wrong) is = absurd cc
makes_endpoints (S2 vmid page span) made (inr wrong) is = absurd cc
makes_endpoints (El2 scope page span) made (inl wrong) is = absurd cc
makes_endpoints (El2 scope page span) made (inr wrong) is = absurd cc

AreLate : Moment → Type 0
AreLate moment = (tag : Tag) → Contains moment tag → IsLate tag

late_after : (before : Moment) (acting : Option Command) (after : Moment) → IsStep before acting after → AreLate before → AreLate after
unfolding AreLate IsLate
late_after before (Some command) after step late tag there = late tag (step.none_new tag there)
late_after before None after step late tag there =
    elim (step tag there) [
      | inl old ↦ late tag old
      | inr made ↦ inr (makes_endpoints made.0 tag (late made.0 made.1) made.2)
    ]

there_before : (before : Moment) (acting : Option Command) (after : Moment) → IsStep before acting after → AreLate before → (tag : Tag) → asked tag ≡ true
    → Contains after tag → Contains before tag
unfolding AreLate
there_before before (Some command) after step late tag is there = step.none_new tag there
there_before before None after step late tag is there =
    elim (step tag there) [
      | inl old ↦ old
      | inr made ↦ absurd (
          let endpoint = makes_endpoints made.0 tag (late made.0 made.1) made.2 in
          let wrong : false ≡ true = sym (ap not endpoint) ∙ is in cc)
    ]

there_at_the_start : (later : List Step) (start : Moment) → IsRun start later → AreLate start → (tag : Tag) → asked tag ≡ true → Contains (end_of start later) tag → Contains start tag
there_at_the_start [] start run late tag is there = there
there_at_the_start (step ∷ later) start run late tag is there =
    there_before start step.acting step.after run.0 late tag is
    (there_at_the_start later step.after run.1 (late_after start step.acting step.after run.0 late) tag is there)

spared : (later : List Step) (start : Moment) → IsRun start later → AreLate start → (tag : Tag) → asked tag ≡ true → Contains (end_of start later) tag → HasActed later nh_all
    → covers nh_all tag ≡ false
spared [] start run late tag is there (k, found, below, at, acting) = absurd (omega (arith, below))
spared (step ∷ later) start run late tag is there (zero, found, below, at, acting) =
    let next = late_after start step.acting step.after run.0 late in
    let held = there_at_the_start later step.after run.1 next tag is there in
    let acts : Acts nh_all start step.after = subst (λ a. IsStep start a step.after) (ap (λ (s : Step). s.acting) at ∙ acting) run.0 in
    acts.gone tag held
spared (step ∷ later) start run late tag is there (suc k, found, below, at, acting) =
    spared later step.after run.1 (late_after start step.acting step.after run.0 late) tag is there (k, found, (let small : k < length later = omega (arith, below) in small), at, acting)

start_is_late : AreLate (stage_1 ∷ [])
unfolding AreLate IsLate
start_is_late tag there = subst IsLate (only stage_1 tag there) (inl refl)

none_left : (later : List Step) → IsBatch (nh_all ∷ []) (stage_1 ∷ []) later → (tag : Tag) → Contains (end_of (stage_1 ∷ []) later) tag → asked tag ≡ true → ⊥
none_left later batch tag there is =
    let spares = spared later (stage_1 ∷ []) batch.run start_is_late tag is there (batch.each 0 nh_all (omega arith)) in
    let held = only stage_1 tag (there_at_the_start later (stage_1 ∷ []) batch.run start_is_late tag is there) in
    let wrong : true ≡ false = subst (λ t. covers nh_all t ≡ false) (sym held) spares in cc

tlb_empty : (later : List Step) → IsBatch (nh_all ∷ []) (stage_1 ∷ []) later → (tag : Tag) → Contains (end_of (stage_1 ∷ []) later) tag → asked tag ≡ false
tlb_empty later batch tag there =
    elim (cases_Bool (asked tag)) [
      | inl is ↦ absurd (none_left later batch tag there is)
      | inr isnt ↦ isnt
    ]

pub a_second_batch_is_clean : Clean (nh_all ∷ []) (stage_1 ∷ []) asked
a_second_batch_is_clean later batch = λ k d below.
    tlb_empty later batch (slice_index_or (end_of (stage_1 ∷ []) later) k d) (Contains-get_or (end_of (stage_1 ∷ []) later) k d below)

-- ---- What the commands of a change are to leave none of.

pub stage_2_is_not_behind_itself : is_behind (Stage2 1) stage_2 ≡ false
stage_2_is_not_behind_itself = refl

pub stage_1_is_not_behind_itself : is_behind (Stage1 1 None) stage_1 ≡ false
stage_1_is_not_behind_itself = refl

pub another_machine_is_not_behind : is_behind (Stage2 2) stage_1 ≡ false
another_machine_is_not_behind = refl

-- ---- What a step can't do.

pub a_command_brings_nothing : ¬ Acts nh_all [] (stage_2 ∷ [])
a_command_brings_nothing acts = let (k, below, is) = acts.none_new stage_2 (0, omega arith, refl) in absurd (omega (arith, below))

pub stage_2_is_not_made_from_stage_1 : makes stage_1 stage_2 ≡ false
stage_2_is_not_made_from_stage_1 = refl

pub stage_1_is_not_made_from_stage_1 : makes stage_1 stage_1 ≡ false
stage_1_is_not_made_from_stage_1 = refl

pub another_machine_is_not_made : makes (S2 2 8 0) stage_1 ≡ false
another_machine_is_not_made = refl

not_stage_2 : stage_1 ≡ stage_2 → ⊥
not_stage_2 same = cc

pub nothing_else_is_made : ¬ Happens (stage_1 ∷ []) (stage_1 ∷ stage_2 ∷ [])
nothing_else_is_made happens =
    elim (happens stage_2 (1, omega arith, refl)) [
      | inl old ↦ not_stage_2 (only stage_1 stage_2 old)
      | inr made ↦
          let makes_it : makes stage_1 stage_2 ≡ true = subst (λ s. makes s stage_2 ≡ true) (sym (only stage_1 made.0 made.1)) made.2 in
          let wrong : false ≡ true = makes_it in absurd cc
    ]
