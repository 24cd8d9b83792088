-- What the commands of an invalidation reach.
use Rattle.std.proofs.Common.{◌≡◌, ℕ, zero, suc, ◌+◌, ◌-◌, ◌*◌, ◌/◌, ◌<◌, ◌≤◌, ◌==◌, ◌&&◌, not, nat_lt, nat_le, Bool, true, false, inl, inr, List, [], ◌∷◌, ◌++◌, length, All, Some, None, refl, ap, sym, subst, ◌∙◌, arith, append-nil}
use Rattle.std.proofs.lemmas.Bool.{cases_Bool, cases_lt, eqb-false, ne_eqb, leb-true, ltb-true, ltb-false, and_from, and_parts, or_cases}
use Rattle.std.proofs.lemmas.List.Elements.{All-cons}
use Rattle.std.proofs.Math.Nat.{add-mul, mul_assoc, mul_comm, mul-div_cancel, mul-le-mul_right, div-mul-le_self, div-div-eq-div-mul, div-lt_iff_lt-mul, le-div_iff_mul-le}
use Rattle.cmdcodec.specs.declared.command.Command.{Command}
use Rattle.cmdcodec.specs.declared.reach.Granule.{Granule}
use Rattle.cmdcodec.specs.declared.reach.Granule.TheVariants.{Kib4, Kib16, Kib64}
use Rattle.cmdcodec.specs.declared.reach.Reach.{Reach}
use Rattle.cmdcodec.specs.PageRuns.{granule_pages, IsIn}
use Rattle.caches.specs.declared.tag.Tag.{Tag}
use Rattle.caches.specs.declared.tag.Tag.TheVariants.{S1, El2}
use Rattle.caches.specs.Blocks.{block, holds}
use Rattle.caches.specs.Covers.{covers, reaches}
use Rattle.smmu_features.specs.declared.smmu.Smmu.{Smmu}
use Rattle.invalidations.specs.declared.space.Space.{Space}
use Rattle.invalidations.specs.declared.space.Space.TheVariants.{Stage1, Hypervisor, Stage2}
use Rattle.invalidations.specs.declared.request.Request.{Request}
use Rattle.invalidations.specs.declared.request.Target.{Target}
use Rattle.invalidations.specs.declared.invalidation.Bytes.{Bytes}
use Rattle.invalidations.specs.declared.invalidation.Bytes.TheVariants.{Everything, Range}
use Rattle.invalidations.specs.declared.invalidation.ByteRange.{ByteRange}
use Rattle.invalidations.specs.declared.policy.Policy.{Policy}
use Rattle.invalidations.specs.Spaces.{size_of, command_for, translates, whole_command, with_global_pages, is_one, is_of_one}
use Rattle.invalidations.specs.Targets.{is_leaf, leaf_granules, leaf_pages, leaf_bytes, Fits}
use Rattle.invalidations.specs.ByAddress.{single, ranged_reach, reach_of, step_of, command_of, commands_up_to, commands_by_address}
use Rattle.invalidations.specs.Pieces.{reached_of}
use Rattle.invalidations.proofs.Holding.{second_too}
use Rattle.invalidations.specs.Laws.{pages_from, IsCoveredBy, Invalidates}
use Rattle.invalidations.specs.Plans.{has_stage, has_granule, is_supported, target_of, first_leaf, end_leaf, granules_of, request_of, none_of, are_few, fallback_of, wholly, commands_of, plan_for, goes_past}
use Rattle.invalidations.specs.Reaching.{has_reach, is_served, IsByteOf, IsInLeafOf, BytesAreCovered, IsServed, most_for, IsByAddress, IsWhole, AreByAddressOrWhole, IsMeant, Reaches, InvalidationsReachTheirBytes, GatheredBytesAreCovered}
use Rattle.invalidations.specs.Gathering.{holds_byte, is_byte}
use Rattle.invalidations.proofs.ByAddressLemmas.{none_left}
use Rattle.invalidations.proofs.LawLemmas.{covered}
use Rattle.invalidations.proofs.LeafLemmas.{pages_some}
use Rattle.invalidations.proofs.RoundingLemmas.{bytes_some, in_order, rounded_fits, none_fits}
use Rattle.invalidations.proofs.WholeLemmas.{whole_covered}

-- ---- Bytes in leaves.

-- the leaf of a byte is the leaf of its page
leaf_of_page : (target : Target) (byte : ℕ) → byte / leaf_bytes target ≡ byte / 4096 / leaf_pages target
leaf_of_page target byte = ap (λ n. byte / n) (mul_comm (leaf_pages target) 4096) ∙ sym (div-div-eq-div-mul byte 4096 (leaf_pages target))

-- A page whose leaf is one of these is in their run.
in_run : (unit page first end : ℕ) → 0 < unit → first ≤ page / unit → page / unit < end → (first * unit ≤ page) × (page < end * unit)
in_run unit page first end some from to =
    let least : first * unit ≤ page / unit * unit = mul-le-mul_right unit from in
    let below = div-mul-le_self page unit in
    (omega (arith, least, below), (div-lt_iff_lt-mul some).0 to)

-- and the other way round
of_run : (unit page first end : ℕ) → 0 < unit → first * unit ≤ page → page < end * unit → (first ≤ page / unit) × (page / unit < end)
of_run unit page first end some from to = ((le-div_iff_mul-le some).1 from, (div-lt_iff_lt-mul some).1 to)

-- The granules of some bytes are the pages of their leaves.
begins_at : (target : Target) (n : ℕ) → n * leaf_granules target * granule_pages target.granule ≡ n * leaf_pages target
begins_at target n = mul_assoc n (leaf_granules target) (granule_pages target.granule)

ends_at : (target : Target) (n m : ℕ) → n ≤ m → (n * leaf_granules target + (m - n) * leaf_granules target) * granule_pages target.granule ≡ m * leaf_pages target
ends_at target n m order =
    ap (λ k. k * granule_pages target.granule) (sym (add-mul n (m - n) (leaf_granules target)))
    ∙ ap (λ k. k * leaf_granules target * granule_pages target.granule) (let same : n + (m - n) ≡ m = omega (arith, order) in same)
    ∙ begins_at target m

leaves_in_order : (target : Target) (bytes : ByteRange) → 0 < bytes.length → first_leaf target bytes ≤ end_leaf target bytes
leaves_in_order target bytes some = let order = in_order target bytes.first (bytes.first + bytes.length - 1) (omega (arith, some)) in omega (arith, order)

IsOfLeaves : Target → ByteRange → ℕ → Type 0
IsOfLeaves target bytes page = (first_leaf target bytes * leaf_pages target ≤ page) × (page < end_leaf target bytes * leaf_pages target)

to_granules : (target : Target) (bytes : ByteRange) (page : ℕ) → 0 < bytes.length → IsOfLeaves target bytes page
    → IsIn page (pages_from target.granule (granules_of target bytes).first (granules_of target bytes).count)
unfolding IsOfLeaves
to_granules target bytes page some inside =
    let isnt : (bytes.length == 0) ≡ false = ne_eqb bytes.length 0 (λ none. omega (arith, some, none)) in
    let begin = begins_at target (first_leaf target bytes) in
    let end = ends_at target (first_leaf target bytes) (end_leaf target bytes) (leaves_in_order target bytes some) in
    rw isnt ((omega (arith, begin, inside.0)), (omega (arith, end, inside.1)))

of_granules : (target : Target) (bytes : ByteRange) (page : ℕ) → 0 < bytes.length
    → IsIn page (pages_from target.granule (granules_of target bytes).first (granules_of target bytes).count) → IsOfLeaves target bytes page
unfolding IsOfLeaves
of_granules target bytes page some inside =
    let isnt : (bytes.length == 0) ≡ false = ne_eqb bytes.length 0 (λ none. omega (arith, some, none)) in
    let begin = begins_at target (first_leaf target bytes) in
    let end = ends_at target (first_leaf target bytes) (end_leaf target bytes) (leaves_in_order target bytes some) in
    let same : IsIn page (pages_from target.granule (first_leaf target bytes * leaf_granules target) ((end_leaf target bytes - first_leaf target bytes) * leaf_granules target)) = rw isnt at inside in
    (omega (arith, begin, same.0), omega (arith, end, same.1))

byte_in_leaves : (target : Target) (bytes : ByteRange) (byte : ℕ) → IsByteOf byte (Range bytes) → IsOfLeaves target bytes (byte / 4096)
unfolding IsOfLeaves
byte_in_leaves target bytes byte inside =
    let some : 0 < bytes.length = omega (arith, inside.0, inside.1) in
    let last = bytes.first + bytes.length - 1 in
    let lower = in_order target bytes.first byte inside.0 in
    let upper = in_order target byte last (omega (arith, inside.1)) in
    let same = leaf_of_page target byte in
    in_run (leaf_pages target) (byte / 4096) (first_leaf target bytes) (end_leaf target bytes) (pages_some target) (omega (arith, lower, same)) (omega (arith, upper, same))

page_in_leaf : (target : Target) (bytes : ByteRange) (page : ℕ) → 0 < bytes.length → IsOfLeaves target bytes page → IsInLeafOf target bytes page
unfolding IsOfLeaves
page_in_leaf target bytes page some inside =
    let k = page / leaf_pages target in
    let unit = leaf_bytes target in
    let last = bytes.first + bytes.length - 1 in
    let range = of_run (leaf_pages target) page (first_leaf target bytes) (end_leaf target bytes) (pages_some target) inside.0 inside.1 in
    let least = div-mul-le_self last unit in
    let most : k * unit ≤ last / unit * unit = mul-le-mul_right unit (omega (arith, range.1)) in
    elim (cases_lt (bytes.first / unit) k) as (λ _. IsInLeafOf target bytes page) [
      | inl past ↦ (
        k * unit,
        ((let over : bytes.first < k * unit = (div-lt_iff_lt-mul (bytes_some target)).0 past in omega (arith, over)), omega (arith, most, least, some)),
        mul-div_cancel k (bytes_some target),
      )
      | inr first ↦ (bytes.first, (omega arith, omega (arith, some)), omega (arith, first, range.0))
    ]

-- ---- By address.

no_pages : (granule : Granule) (page : ℕ) → page < (0 + 0) * granule_pages granule → ⊥
no_pages granule page inside = omega (arith, inside)

page_of_bytes : (target : Target) (bytes : ByteRange) (page : ℕ) → IsIn page (pages_from target.granule (granules_of target bytes).first (granules_of target bytes).count) → IsInLeafOf target bytes page
page_of_bytes target bytes page inside =
    elim (cases_Bool (bytes.length == 0)) [
      | inl none ↦ absurd (let empty : IsIn page (pages_from target.granule 0 0) = rw none at inside in no_pages target.granule page empty.1)
      | inr some ↦ page_in_leaf target bytes page (let other = eqb-false bytes.length 0 some in omega (arith, other)) (of_granules target bytes page (let other = eqb-false bytes.length 0 some in omega (arith, other)) inside)
    ]

fits_of : (target : Target) (bytes : ByteRange) → goes_past target.space (Range bytes) ≡ false → Fits (request_of target bytes)
fits_of target bytes inside =
    elim (cases_Bool (bytes.length == 0)) [
      | inl none ↦ rw none (none_fits target)
      | inr some ↦
          let other = eqb-false bytes.length 0 some in
          let within : nat_lt (size_of target.space * 4096) (bytes.first + bytes.length) ≡ false = rw some at inside in
          rounded_fits target bytes.first bytes.length (omega (arith, other)) (ltb-false (size_of target.space * 4096) (bytes.first + bytes.length) within)
    ]

fewer_of : (target : Target) (commands : List Command) (first count : ℕ) → Invalidates target first count commands → length commands ≤ most_for target count
fewer_of target commands first count does =
    elim (cases_Bool target.ranged) [
      | inl is ↦ rw is (does.few is)
      | inr isnt ↦ rw isnt (let each = does.one_each isnt in omega (arith, each))
    ]

covered_by : (target : Target) (first count page : ℕ) (tag : Tag) (commands : List Command) → Invalidates target first count commands
    → IsIn page (pages_from target.granule first count) → IsServed target tag → translates target.space page tag ≡ true → IsCoveredBy commands tag
covered_by target first count page tag commands does inside (inl ranged) is = does.by_ranges ranged page inside tag tt is
covered_by target first count page tag commands does inside (inr whole) is = does.by_leaves page inside tag whole is

-- With no whole space there are those by address alone.
alone : (request : Request) → commands_of (record { request = request; whole = None }) ≡ commands_by_address request
unfolding commands_of
alone request = append-nil (commands_by_address request)

by_address : (target : Target) (policy : Policy) (bytes : ByteRange) → goes_past target.space (Range bytes) ≡ false
    → are_few (request_of target bytes) policy.most_commands ≡ true → IsByAddress target policy bytes (commands_by_address (request_of target bytes))
by_address target policy bytes inside few =
    let request = request_of target bytes in
    let granules = granules_of target bytes in
    let commands = commands_by_address request in
    let does : Invalidates target granules.first granules.count commands = covered request (fits_of target bytes inside) in
    record {
      covered = λ byte in_bytes tag served is.
          covered_by target granules.first granules.count (byte / 4096) tag commands does
          (to_granules target bytes (byte / 4096) (omega (arith, in_bytes.0, in_bytes.1)) (byte_in_leaves target bytes byte in_bytes)) served is;
      within = does.within;
      rounded = λ page in_pages. page_of_bytes target bytes page in_pages;
      few = leb-true (length commands) policy.most_commands few;
      fewer = fewer_of target commands granules.first granules.count does;
    }

-- ---- Wholly.

wider : (space : Space) (page : ℕ) (tag : Tag) → translates space page tag ≡ true → translates (with_global_pages space) page tag ≡ true
wider (Stage1 vmid (Some asid)) page (S1 v scope first span) is = second_too _ _ _ (λ inner. (and_parts (reaches asid scope) (holds (block first span) page) inner).1) is
wider (Stage1 vmid None) page tag is = is
wider (Hypervisor (Some asid)) page (El2 scope first span) is = (and_parts (reaches asid scope) (holds (block first span) page) is).1
wider (Hypervisor None) page tag is = is
wider (Stage2 vmid) page tag is = is
wider (Stage1 vmid (Some asid)) page other is = absurd cc
wider (Hypervisor (Some asid)) page other is = absurd cc

not_one : (space : Space) → is_one (with_global_pages space) ≡ false
not_one (Stage1 vmid asid) = refl
not_one (Hypervisor asid) = refl
not_one (Stage2 vmid) = refl

whole_command_covers : (space : Space) (policy : Policy) (page : ℕ) (tag : Tag) → (policy.global_pages ≡ false → is_one space ≡ true → is_of_one tag ≡ true) → translates space page tag ≡ true
    → covers (whole_command (fallback_of space policy)) tag ≡ true
whole_command_covers space policy page tag own is =
    elim (cases_Bool policy.global_pages) [
      | inl may ↦ rw may (whole_covered (with_global_pages space) page tag (wider space page tag is) (λ one. absurd (let none = not_one space in cc)))
      | inr own_only ↦ rw own_only (whole_covered space page tag is (λ one. own own_only one))
    ]

whole_commands : (target : Target) (policy : Policy) → commands_of (wholly target policy) ≡ whole_command (fallback_of target.space policy) ∷ []
unfolding commands_of
whole_commands target policy = ap (λ commands. commands ++ (whole_command (fallback_of target.space policy) ∷ [])) (none_left (none_of target) refl)

by_whole : (target : Target) (policy : Policy) (bytes : Bytes) → IsWhole target policy bytes (commands_of (wholly target policy))
by_whole target policy bytes =
    subst (IsWhole target policy bytes) (sym (whole_commands target policy)) (record {
      one = refl;
      covered = λ byte inside tag own is.
          (0, whole_command (fallback_of target.space policy), omega arith, refl, whole_command_covers target.space policy (byte / 4096) tag own is);
    })

-- ---- The SMMU has them.

single_had : (smmu : Smmu) (granule : Granule) → smmu.range_invalidation ≡ true → has_granule smmu granule ≡ true → has_reach smmu (single granule) ≡ true
single_had smmu Kib4 ranges has = refl
single_had smmu Kib16 ranges has = and_from smmu.range_invalidation smmu.granules.kib16 ranges has
single_had smmu Kib64 ranges has = and_from smmu.range_invalidation smmu.granules.kib64 ranges has

ranged_had : (smmu : Smmu) (granule : Granule) (hinted : Bool) (left : ℕ) → smmu.range_invalidation ≡ true → has_granule smmu granule ≡ true
    → has_reach smmu (ranged_reach granule hinted left) ≡ true
unfolding ranged_reach
ranged_had smmu granule hinted left ranges has =
    elim (cases_Bool (reached_of left == 1 && not hinted)) [
      | inl is ↦ rw is (single_had smmu granule ranges has)
      | inr isnt ↦ rw isnt (and_from smmu.range_invalidation (has_granule smmu granule) ranges has)
    ]

reach_had : (smmu : Smmu) (target : Target) (left : ℕ) → target.ranged ≡ smmu.range_invalidation → has_granule smmu target.granule ≡ true
    → has_reach smmu (reach_of target left) ≡ true
unfolding reach_of
reach_had smmu target left ranges has =
    elim (cases_Bool target.ranged) [
      | inl is ↦ rw is (ranged_had smmu target.granule _ left (sym ranges ∙ is) has)
      | inr isnt ↦ rw isnt refl
    ]

address_served : (smmu : Smmu) (space : Space) (leaf : Bool) (page : ℕ) (reach : Reach) → has_stage smmu space ≡ true → has_reach smmu reach ≡ true
    → is_served smmu (command_for space leaf page reach) ≡ true
address_served smmu (Stage1 vmid (Some asid)) leaf page reach stage has = and_from smmu.stage_1 (has_reach smmu reach) stage has
address_served smmu (Stage1 vmid None) leaf page reach stage has = and_from smmu.stage_1 (has_reach smmu reach) stage has
address_served smmu (Hypervisor (Some asid)) leaf page reach stage has = and_from smmu.hypervisor (has_reach smmu reach) stage has
address_served smmu (Hypervisor None) leaf page reach stage has = and_from smmu.hypervisor (has_reach smmu reach) stage has
address_served smmu (Stage2 vmid) leaf page reach stage has = and_from smmu.stage_2 (has_reach smmu reach) stage has

served_up_to : (most : ℕ) (smmu : Smmu) (target : Target) (first left : ℕ) → has_stage smmu target.space ≡ true → target.ranged ≡ smmu.range_invalidation
    → has_granule smmu target.granule ≡ true → All (λ command. is_served smmu command ≡ true) (commands_up_to most target first left)
unfolding commands_up_to command_of
served_up_to zero smmu target first left stage ranges has = λ k d below. absurd (omega (arith, below))
served_up_to (suc most) smmu target first left stage ranges has =
    elim (cases_Bool (left == 0)) [
      | inl is ↦ rw is (λ k d below. absurd (omega (arith, below)))
      | inr isnt ↦
          let step = step_of target left in
          let rest = commands_up_to most target (first + step) (left - step) in
          rw isnt (All-cons (λ command. is_served smmu command ≡ true) (command_of target first left) rest
          (address_served smmu target.space (is_leaf target.entries) (first * granule_pages target.granule) (reach_of target left) stage (reach_had smmu target left ranges has))
          (served_up_to most smmu target (first + step) (left - step) stage ranges has))
    ]

whole_served : (smmu : Smmu) (space : Space) → has_stage smmu space ≡ true → is_served smmu (whole_command space) ≡ true
whole_served smmu (Stage1 vmid (Some asid)) stage = stage
whole_served smmu (Stage1 vmid None) stage = stage
whole_served smmu (Hypervisor (Some asid)) stage = stage
whole_served smmu (Hypervisor None) stage = stage
whole_served smmu (Stage2 vmid) stage = stage

wider_stage : (smmu : Smmu) (space : Space) → has_stage smmu space ≡ true → has_stage smmu (with_global_pages space) ≡ true
wider_stage smmu (Stage1 vmid asid) stage = stage
wider_stage smmu (Hypervisor asid) stage = stage
wider_stage smmu (Stage2 vmid) stage = stage

fallback_stage : (smmu : Smmu) (space : Space) (policy : Policy) → has_stage smmu space ≡ true → has_stage smmu (fallback_of space policy) ≡ true
fallback_stage smmu space policy stage =
    elim (cases_Bool policy.global_pages) [
      | inl may ↦ rw may (wider_stage smmu space stage)
      | inr own_only ↦ rw own_only stage
    ]

only : (smmu : Smmu) (command : Command) → is_served smmu command ≡ true → All (λ command. is_served smmu command ≡ true) (command ∷ [])
only smmu command is = All-cons (λ command. is_served smmu command ≡ true) command [] is (λ k d below. absurd (omega (arith, below)))

-- ---- Together.

IsHad : Smmu → Target → Type 0
IsHad smmu target = (has_stage smmu target.space ≡ true) × (has_granule smmu target.granule ≡ true) × (target.ranged ≡ smmu.range_invalidation)

whole_reaches : (target : Target) (smmu : Smmu) (policy : Policy) → IsHad smmu target → All (λ command. is_served smmu command ≡ true) (commands_of (wholly target policy))
unfolding IsHad
whole_reaches target smmu policy had =
    subst (All (λ command. is_served smmu command ≡ true)) (sym (whole_commands target policy))
    (only smmu (whole_command (fallback_of target.space policy)) (whole_served smmu (fallback_of target.space policy) (fallback_stage smmu target.space policy had.0)))

by_address_served : (target : Target) (smmu : Smmu) (request : Request) → request.target ≡ target → IsHad smmu target
    → All (λ command. is_served smmu command ≡ true) (commands_by_address request)
unfolding IsHad commands_by_address
by_address_served target smmu request same had =
    served_up_to request.range.count smmu request.target request.range.first request.range.count
    (subst (λ t. has_stage smmu t.space ≡ true) (sym same) had.0) (subst (λ (t : Target). t.ranged ≡ smmu.range_invalidation) (sym same) had.2)
    (subst (λ (t : Target). has_granule smmu t.granule ≡ true) (sym same) had.1)

covered_either_way : (target : Target) (policy : Policy) (bytes : Bytes) (commands : List Command) → AreByAddressOrWhole target policy bytes commands
    → BytesAreCovered target bytes (IsMeant target policy) commands
covered_either_way target policy Everything commands reached = λ byte inside tag meant is. reached.covered byte inside tag meant.1 is
covered_either_way target policy (Range bytes) commands reached = λ byte inside tag meant is.
    elim (cases_Bool (are_few (request_of target bytes) policy.most_commands)) [
      | inl few ↦ (reached.0 few).covered byte inside tag meant.0 is
      | inr many ↦ (reached.1 many).covered byte inside tag meant.1 is
    ]

all_of : (target : Target) (smmu : Smmu) (policy : Policy) (bytes : Bytes) (commands : List Command)
    → AreByAddressOrWhole target policy bytes commands → All (λ command. is_served smmu command ≡ true) commands → Reaches target smmu policy bytes commands
all_of target smmu policy bytes commands reached served =
    record { covered = covered_either_way target policy bytes commands reached; reached = reached; served = served }

few_reach : (target : Target) (smmu : Smmu) (policy : Policy) (bytes : ByteRange) → IsHad smmu target → goes_past target.space (Range bytes) ≡ false
    → are_few (request_of target bytes) policy.most_commands ≡ true → Reaches target smmu policy (Range bytes) (commands_by_address (request_of target bytes))
few_reach target smmu policy bytes had inside few =
    all_of target smmu policy (Range bytes) (commands_by_address (request_of target bytes))
    ((λ few_too. by_address target policy bytes inside few), (λ many. absurd (let wrong : true ≡ false = sym few ∙ many in cc)))
    (by_address_served target smmu (request_of target bytes) refl had)

reaches_for : (target : Target) (smmu : Smmu) (policy : Policy) (bytes : Bytes) → IsHad smmu target → goes_past target.space bytes ≡ false
    → Reaches target smmu policy bytes (commands_of (plan_for target policy bytes))
reaches_for target smmu policy Everything had inside =
    all_of target smmu policy Everything (commands_of (wholly target policy)) (by_whole target policy Everything) (whole_reaches target smmu policy had)
reaches_for target smmu policy (Range bytes) had inside =
    elim (cases_Bool (are_few (request_of target bytes) policy.most_commands)) [
      | inl few ↦ rw few (subst (Reaches target smmu policy (Range bytes)) (sym (alone (request_of target bytes))) (few_reach target smmu policy bytes had inside few))
      | inr many ↦ rw many (all_of target smmu policy (Range bytes) (commands_of (wholly target policy))
          ((λ few_too. absurd (let wrong : true ≡ false = sym few_too ∙ many in cc)), (λ none_few. by_whole target policy (Range bytes)))
          (whole_reaches target smmu policy had))
    ]

pub reached : InvalidationsReachTheirBytes
unfolding IsHad
reached invalidation smmu policy accepted =
    elim (cases_Bool (is_supported invalidation smmu)) [
      | inl has ↦ elim (cases_Bool (goes_past invalidation.space invalidation.bytes)) [
        | inl past ↦ absurd (let wrong = rw (has, past) at accepted in cc)
        | inr inside ↦
            let parts = and_parts (has_stage smmu invalidation.space) (has_granule smmu invalidation.granule) has in
            reaches_for (target_of invalidation smmu) smmu policy invalidation.bytes (parts.0, parts.1, refl) inside
      ]
      | inr hasnt ↦ absurd (let wrong = rw hasnt at accepted in cc)
    ]

-- ---- What was gathered.

byte_of : (byte : ℕ) (bytes : Bytes) → is_byte byte bytes ≡ true → IsByteOf byte bytes
byte_of byte Everything is = tt
byte_of byte (Range bytes) is =
    let both = and_parts (nat_le bytes.first byte) (nat_lt byte (bytes.first + bytes.length)) is in
    (leb-true bytes.first byte both.0, ltb-true byte (bytes.first + bytes.length) both.1)

pub gathered : GatheredBytesAreCovered
gathered old new invalidation smmu policy taken accepted byte small held =
    elim (or_cases (is_byte byte invalidation.bytes) (holds_byte new byte) (taken.same byte small ∙ held)) [
      | inl now ↦ inr (λ tag meant is.
          (reached invalidation smmu policy accepted).covered byte (byte_of byte invalidation.bytes now) tag meant
          (subst (λ space. translates space (byte / 4096) tag ≡ true) (sym taken.space) is))
      | inr later ↦ inl later
    ]
