-- The law of the commands of an invalidation.
use Rattle.std.proofs.Common.{◌≡◌, ℕ, zero, suc, ◌+◌, ◌-◌, ◌*◌, ◌/◌, ◌%◌, ◌^◌, ◌<◌, ◌≤◌, ◌==◌, ◌&&◌, ◌⊎◌, not, nat_lt, Bool, true, false, inl, inr, List, ◌∷◌, length, All, Any, Some, None, refl, ap, sym, subst, ◌∙◌, arith}
use Rattle.std.proofs.lemmas.Bool.{cases_Bool, cases_lt, eqb-true, eqb-false, eq-eqb, ltb-true, ltb-false, lt-ltb, le-ltb, and_from, and_parts, ne_eqb}
use Rattle.std.proofs.lemmas.Nat.{div-add-mod'}
use Rattle.std.proofs.lemmas.List.Elements.{All-cons}
use Rattle.std.proofs.Math.Nat.{add-mul, mul_assoc, mul-mod_left, mul-le-mul_right, mul-lt-mul_of_pos_right, lt_of_mul-lt-mul_right}
use Rattle.cmdcodec.specs.declared.command.Command.{Command}
use Rattle.cmdcodec.specs.declared.reach.Granule.{Granule}
use Rattle.cmdcodec.specs.declared.reach.Granule.TheVariants.{Kib4, Kib16, Kib64}
use Rattle.cmdcodec.specs.declared.reach.Reach.{Reach}
use Rattle.cmdcodec.specs.declared.reach.Reach.TheVariants.{Page, Range}
use Rattle.cmdcodec.specs.PageRuns.{granule_pages, least, run_from, IsIn}
use Rattle.caches.specs.declared.tag.Tag.{Tag}
use Rattle.caches.specs.declared.tag.Tag.TheVariants.{S1, S2, El2}
use Rattle.caches.specs.Blocks.{block, holds}
use Rattle.caches.specs.Covers.{covers}
use Rattle.invalidations.specs.declared.space.Space.{Space}
use Rattle.invalidations.specs.declared.space.Space.TheVariants.{Stage1, Hypervisor, Stage2}
use Rattle.invalidations.specs.declared.request.Request.{Request}
use Rattle.invalidations.specs.declared.request.Target.{Target}
use Rattle.invalidations.specs.Spaces.{size_of, command_for, translates}
use Rattle.invalidations.specs.Targets.{is_leaf, is_hinted, leaf_granules, leaf_pages, Fits}
use Rattle.invalidations.specs.Pieces.{scale_of, count_of, reached_of}
use Rattle.invalidations.specs.ByAddress.{single, ranged_reach, reach_of, step_of, command_of, commands_up_to, commands_by_address}
use Rattle.invalidations.specs.Laws.{pages_from, IsOfWholeLeaves, IsCoveredBy, has_single, excess, IsWithin, InvalidationsCoverTheirRanges}
use Rattle.invalidations.proofs.Holding.{not_below, held_is_met, second_too}
use Rattle.invalidations.proofs.PieceLemmas.{count_some, reached_is, reached_within, no_single, after_multiple, reached_most}
use Rattle.invalidations.proofs.LeafLemmas.{leaf_some, pages_some, in_leaves, next_begins, next_whole}
use Rattle.invalidations.proofs.ByAddressLemmas.{step_some, step_within, ends_inside}

-- ---- A command covers a translation whose block holds a page of its run.

pub covering : (space : Space) (leaf : Bool) (at : ℕ) (reach : Reach) (page : ℕ) (tag : Tag) → IsIn page (run_from at reach (size_of space))
    → translates space page tag ≡ true → covers (command_for space leaf at reach) tag ≡ true
covering (Stage1 vmid (Some asid)) leaf at reach page (S1 v scope first span) inside is =
    second_too _ _ _ (second_too _ _ _ (λ held. held_is_met page first span (run_from at reach (2 ^ 52)) held inside)) is
covering (Stage1 vmid None) leaf at reach page (S1 v scope first span) inside is =
    second_too _ _ _ (λ held. held_is_met page first span (run_from at reach (2 ^ 52)) held inside) is
covering (Hypervisor (Some asid)) leaf at reach page (El2 scope first span) inside is =
    second_too _ _ _ (λ held. held_is_met page first span (run_from at reach (2 ^ 52)) held inside) is
covering (Hypervisor None) leaf at reach page (El2 scope first span) inside is =
    held_is_met page first span (run_from at reach (2 ^ 52)) is inside
covering (Stage2 vmid) leaf at reach page (S2 v first span) inside is =
    second_too _ _ _ (λ held. held_is_met page first span (run_from at reach (2 ^ 40)) held inside) is
covering (Stage1 vmid (Some asid)) leaf at reach page other inside is = absurd cc
covering (Stage1 vmid None) leaf at reach page other inside is = absurd cc
covering (Hypervisor (Some asid)) leaf at reach page other inside is = absurd cc
covering (Hypervisor None) leaf at reach page other inside is = absurd cc
covering (Stage2 vmid) leaf at reach page other inside is = absurd cc

-- ---- The run of a command at a granule.

cut : (end space : ℕ) → least end space ≤ end
cut end space =
    elim (cases_Bool (nat_lt end space)) [
      | inl is ↦ rw is (omega arith)
      | inr isnt ↦ rw isnt (let past = ltb-false end space isnt in past)
    ]

below_least : (k m n : ℕ) → k < m → k < n → k < least m n
below_least k m n first second =
    elim (cases_Bool (nat_lt m n)) [
      | inl less ↦ rw less first
      | inr not ↦ rw not second
    ]

-- It reaches the granules that it counts, cut at the end of the space,
run_in : (granule : Granule) (first num scale space page : ℕ) → first * granule_pages granule ≤ page
    → page < (first + (num + 1) * 2 ^ scale) * granule_pages granule → page < space
    → IsIn page (run_from (first * granule_pages granule) (Range granule num scale) space)
run_in Kib4 first num scale space page from to inside =
    let count = (num + 1) * 2 ^ scale in
    (omega (arith, from), below_least page (first * 1 / 1 * 1 + count * 1) space (omega (arith, to)) inside)
run_in Kib16 first num scale space page from to inside =
    let count = (num + 1) * 2 ^ scale in
    (omega (arith, from), below_least page (first * 4 / 4 * 4 + count * 4) space (omega (arith, to)) inside)
run_in Kib64 first num scale space page from to inside =
    let count = (num + 1) * 2 ^ scale in
    (omega (arith, from), below_least page (first * 16 / 16 * 16 + count * 16) space (omega (arith, to)) inside)

-- begins with the first of them,
run_begins : (granule : Granule) (first num scale space : ℕ) → first * granule_pages granule ≤ (run_from (first * granule_pages granule) (Range granule num scale) space).first
run_begins Kib4 first num scale space = omega arith
run_begins Kib16 first num scale space = omega arith
run_begins Kib64 first num scale space = omega arith

-- and ends with the last of them, or before.
run_ends : (granule : Granule) (first num scale space end : ℕ) → first + (num + 1) * 2 ^ scale ≤ end
    → (run_from (first * granule_pages granule) (Range granule num scale) space).end ≤ end * granule_pages granule
run_ends Kib4 first num scale space end fits =
    let count = (num + 1) * 2 ^ scale in let past = cut (first * 1 / 1 * 1 + count * 1) space in omega (arith, past, fits)
run_ends Kib16 first num scale space end fits =
    let count = (num + 1) * 2 ^ scale in let past = cut (first * 4 / 4 * 4 + count * 4) space in omega (arith, past, fits)
run_ends Kib64 first num scale space end fits =
    let count = (num + 1) * 2 ^ scale in let past = cut (first * 16 / 16 * 16 + count * 16) space in omega (arith, past, fits)

-- ---- The reach of the next command by ranges.

counted_again : (left : ℕ) → (count_of left - 1 + 1) * 2 ^ scale_of left ≡ reached_of left
counted_again left =
    let some = count_some left in
    let again : count_of left - 1 + 1 ≡ count_of left = omega (arith, some) in
    ap (λ n. n * 2 ^ scale_of left) again ∙ sym (reached_is left)

single_in : (granule : Granule) (first space page : ℕ) → first * granule_pages granule ≤ page → page < (first + 1) * granule_pages granule → page < space
    → IsIn page (run_from (first * granule_pages granule) (single granule) space)
single_in Kib4 first space page from to inside = (omega (arith, from), omega (arith, to))
single_in Kib16 first space page from to inside = run_in Kib16 first 0 1 space page from (omega (arith, to)) inside
single_in Kib64 first space page from to inside = run_in Kib64 first 0 1 space page from (omega (arith, to)) inside

ranged_in : (granule : Granule) (hinted : Bool) (first left space page : ℕ) → first * granule_pages granule ≤ page
    → page < (first + reached_of left) * granule_pages granule → page < space
    → IsIn page (run_from (first * granule_pages granule) (ranged_reach granule hinted left) space)
unfolding ranged_reach
ranged_in granule hinted first left space page from to inside =
    elim (cases_Bool (reached_of left == 1 && not hinted)) [
      | inl is ↦
          let one = eqb-true (reached_of left) 1 (and_parts (reached_of left == 1) (not hinted) is).0 in
          rw is (single_in granule first space page from (subst (λ n. page < (first + n) * granule_pages granule) one to) inside)
      | inr isnt ↦ rw isnt (run_in granule first (count_of left - 1) (scale_of left) space page from
          (subst (λ n. page < (first + n) * granule_pages granule) (sym (counted_again left)) to) inside)
    ]

-- ---- The next command covers the translations of its granules.

IsServed : Target → Tag → Type 0
IsServed target tag = (target.ranged ≡ true) ⊎ IsOfWholeLeaves target tag

whole_block : (unit k page at size : ℕ) → 0 < unit → k * unit ≤ page → page < (k + 1) * unit → at % unit ≡ 0 → size % unit ≡ 0
    → at ≤ page → page < at + size → (at ≤ k * unit) × (k * unit < at + size)
whole_block unit k page at size some from to begins whole above below =
    let a = at / unit in
    let s = size / unit in
    let at_is : a * unit + at % unit ≡ at = div-add-mod' at unit in
    let size_is : s * unit + size % unit ≡ size = div-add-mod' size unit in
    let sum : (a + s) * unit ≡ a * unit + s * unit = add-mul a s unit in
    let first : a < k + 1 = lt_of_mul-lt-mul_right unit (omega (arith, at_is, begins, above, to)) in
    let last : k < a + s = lt_of_mul-lt-mul_right unit (omega (arith, sum, at_is, size_is, begins, whole, below, from)) in
    let least : a * unit ≤ k * unit = mul-le-mul_right unit (omega (arith, first)) in
    let most : k * unit < (a + s) * unit = mul-lt-mul_of_pos_right last some in
    (omega (arith, least, at_is, begins), omega (arith, most, sum, at_is, size_is, begins, whole))

-- A block of whole leaves that holds a page of a leaf holds its first page.
held_first : (unit k page at span : ℕ) → 0 < unit → k * unit ≤ page → page < (k + 1) * unit → at % unit ≡ 0 → 2 ^ span % unit ≡ 0
    → holds (block at span) page ≡ true → holds (block at span) (k * unit) ≡ true
held_first unit k page at span some from to begins whole held =
    let both : (not (nat_lt page at) ≡ true) × (nat_lt page (at + 2 ^ span) ≡ true) = and_parts (not (nat_lt page at)) (nat_lt page (at + 2 ^ span)) held in
    let inside = whole_block unit k page at (2 ^ span) some from to begins whole (not_below page at both.0) (ltb-true page (at + 2 ^ span) both.1) in
    and_from (not (nat_lt (k * unit) at)) (nat_lt (k * unit) (at + 2 ^ span))
    (ap not (le-ltb (k * unit) at inside.0)) (lt-ltb (k * unit) (at + 2 ^ span) inside.1)

translates_first : (space : Space) (target : Target) (k page : ℕ) (tag : Tag) → 0 < leaf_pages target → k * leaf_pages target ≤ page → page < (k + 1) * leaf_pages target
    → IsOfWholeLeaves target tag → translates space page tag ≡ true → translates space (k * leaf_pages target) tag ≡ true
translates_first (Stage1 vmid (Some asid)) target k page (S1 v scope at span) some from to whole is =
    second_too _ _ _ (second_too _ _ _ (held_first (leaf_pages target) k page at span some from to whole.0 whole.1)) is
translates_first (Stage1 vmid None) target k page (S1 v scope at span) some from to whole is = second_too _ _ _ (held_first (leaf_pages target) k page at span some from to whole.0 whole.1) is
translates_first (Hypervisor (Some asid)) target k page (El2 scope at span) some from to whole is = second_too _ _ _ (held_first (leaf_pages target) k page at span some from to whole.0 whole.1) is
translates_first (Hypervisor None) target k page (El2 scope at span) some from to whole is = held_first (leaf_pages target) k page at span some from to whole.0 whole.1 is
translates_first (Stage2 vmid) target k page (S2 v at span) some from to whole is = second_too _ _ _ (held_first (leaf_pages target) k page at span some from to whole.0 whole.1) is
translates_first (Stage1 vmid (Some asid)) target k page other some from to whole is = absurd cc
translates_first (Stage1 vmid None) target k page other some from to whole is = absurd cc
translates_first (Hypervisor (Some asid)) target k page other some from to whole is = absurd cc
translates_first (Hypervisor None) target k page other some from to whole is = absurd cc
translates_first (Stage2 vmid) target k page other some from to whole is = absurd cc

-- the first page of a leaf, by its number
leaf_at : (target : Target) (first : ℕ) → first % leaf_granules target ≡ 0
    → first * granule_pages target.granule ≡ first / leaf_granules target * leaf_pages target
leaf_at target first begins =
    let k = first / leaf_granules target in
    ap (λ n. n * granule_pages target.granule) (in_leaves target first begins) ∙ mul_assoc k (leaf_granules target) (granule_pages target.granule)

leaf_after : (target : Target) (first : ℕ) → first % leaf_granules target ≡ 0
    → (first + leaf_granules target) * granule_pages target.granule ≡ (first / leaf_granules target + 1) * leaf_pages target
leaf_after target first begins =
    add-mul first (leaf_granules target) (granule_pages target.granule)
    ∙ (let at = leaf_at target first begins in let sum = add-mul (first / leaf_granules target) 1 (leaf_pages target) in omega (arith, at, sum))

-- A command at a leaf reaches what translates any of its pages.
leaf_reached : (target : Target) (first page : ℕ) (tag : Tag) → first % leaf_granules target ≡ 0 → first * granule_pages target.granule ≤ page
    → page < (first + leaf_granules target) * granule_pages target.granule → IsOfWholeLeaves target tag
    → translates target.space page tag ≡ true → translates target.space (first * granule_pages target.granule) tag ≡ true
leaf_reached target first page tag begins from to whole is =
    let at = leaf_at target first begins in
    let after = leaf_after target first begins in
    subst (λ n. translates target.space n tag ≡ true) (sym at)
    (translates_first target.space target (first / leaf_granules target) page tag (pages_some target) (omega (arith, at, from)) (omega (arith, after, to)) whole is)

next_covers : (target : Target) (first left page : ℕ) (tag : Tag) → first % leaf_granules target ≡ 0 → first * granule_pages target.granule ≤ page
    → page < (first + step_of target left) * granule_pages target.granule → page < size_of target.space
    → IsServed target tag → translates target.space page tag ≡ true → covers (command_of target first left) tag ≡ true
unfolding command_of reach_of step_of IsServed
next_covers target first left page tag begins from to inside served is =
    let at = first * granule_pages target.granule in
    elim (cases_Bool target.ranged) [
      | inl ranged ↦
          let within : page < (first + reached_of left) * granule_pages target.granule = rw ranged at to in
          rw ranged (covering target.space (is_leaf target.entries) at (ranged_reach target.granule (is_hinted target.entries) left) page tag
          (ranged_in target.granule (is_hinted target.entries) first left (size_of target.space) page from within inside) is)
      | inr not_ranged ↦
          let within : page < (first + leaf_granules target) * granule_pages target.granule = rw not_ranged at to in
          let whole : IsOfWholeLeaves target tag = elim served [
            | inl ranged ↦ absurd (let wrong : true ≡ false = sym ranged ∙ not_ranged in cc)
            | inr whole ↦ whole
          ] in
          rw not_ranged (covering target.space (is_leaf target.entries) at Page at tag (omega arith, omega arith)
          (leaf_reached target first page tag begins from within whole is))
    ]

later_one : {P : Command → Type 0} (command : Command) (commands : List Command) → Any P commands → Any P (command ∷ commands)
later_one command commands (k, other, below, is, holds) = (suc k, other, omega (arith, below), is, holds)

at_granule : (granule : Granule) (first other : ℕ) → first ≤ other → first * granule_pages granule ≤ other * granule_pages granule
at_granule Kib4 first other below = omega (arith, below)
at_granule Kib16 first other below = omega (arith, below)
at_granule Kib64 first other below = omega (arith, below)

no_pages : (granule : Granule) (first left page : ℕ) → left ≡ 0 → first * granule_pages granule ≤ page → page < (first + left) * granule_pages granule → ⊥
no_pages Kib4 first left page none from to = omega (arith, none, from, to)
no_pages Kib16 first left page none from to = omega (arith, none, from, to)
no_pages Kib64 first left page none from to = omega (arith, none, from, to)

covered_up_to : (most : ℕ) (target : Target) (first left page : ℕ) (tag : Tag) → first % leaf_granules target ≡ 0 → left % leaf_granules target ≡ 0 → left ≤ most → IsIn page (pages_from target.granule first left) → page < size_of target.space
    → IsServed target tag → translates target.space page tag ≡ true → IsCoveredBy (commands_up_to most target first left) tag
unfolding commands_up_to
covered_up_to zero target first left page tag begins whole few inside below served is =
    absurd (no_pages target.granule first left page (omega (arith, few)) inside.0 inside.1)
covered_up_to (suc most) target first left page tag begins whole few inside below served is =
    elim (cases_Bool (left == 0)) [
      | inl none ↦ absurd (no_pages target.granule first left page (eqb-true left 0 none) inside.0 inside.1)
      | inr isnt ↦
          let some : 0 < left = let other = eqb-false left 0 isnt in omega (arith, other) in
          let step = step_of target left in
          let least_one = step_some target left in
          let within = step_within target left some whole in
          let rest = commands_up_to most target (first + step) (left - step) in
          let same : first + step + (left - step) ≡ first + left = omega (arith, within) in
          rw isnt (elim (cases_lt page ((first + step) * granule_pages target.granule)) [
            | inl now ↦ (0, command_of target first left, omega arith, refl, next_covers target first left page tag begins inside.0 now below served is)
            | inr past ↦ later_one (command_of target first left) rest
                (covered_up_to most target (first + step) (left - step) page tag (next_begins target first left some begins whole) (next_whole target left some whole) (omega (arith, few, least_one))
                (past, subst (λ end. page < end * granule_pages target.granule) (sym same) inside.1) below served is)
          ])
    ]

-- ---- No command reaches further.

single_ends : (granule : Granule) (first space end : ℕ) → first + 1 ≤ end → (has_single granule ≡ false → first + 2 ≤ end)
    → (run_from (first * granule_pages granule) (single granule) space).end ≤ end * granule_pages granule
single_ends Kib4 first space end one two = omega (arith, one)
single_ends Kib16 first space end one two = run_ends Kib16 first 0 1 space end (omega (arith, two refl))
single_ends Kib64 first space end one two = run_ends Kib64 first 0 1 space end (omega (arith, two refl))

single_begins : (granule : Granule) (first space : ℕ) → first * granule_pages granule ≤ (run_from (first * granule_pages granule) (single granule) space).first
single_begins Kib4 first space = omega arith
single_begins Kib16 first space = omega arith
single_begins Kib64 first space = omega arith

page_ends : (granule : Granule) (first end : ℕ) → first + 1 ≤ end → first * granule_pages granule + 1 ≤ end * granule_pages granule
page_ends Kib4 first end one = omega (arith, one)
page_ends Kib16 first end one = omega (arith, one)
page_ends Kib64 first end one = omega (arith, one)

excess_one : (target : Target) (left : ℕ) → target.ranged ≡ true → left ≡ 1 → not (is_hinted target.entries) ≡ true → has_single target.granule ≡ false → excess target left ≡ 1
excess_one target left ranged one unhinted several =
    let is = and_from target.ranged (left == 1 && (not (is_hinted target.entries) && not (has_single target.granule))) ranged
    (and_from (left == 1) (not (is_hinted target.entries) && not (has_single target.granule)) (eq-eqb left 1 one)
    (and_from (not (is_hinted target.entries)) (not (has_single target.granule)) unhinted (ap not several))) in
    rw is refl

none_unless : (a b : Bool) → (a ≡ true → b ≡ true → ⊥) → (a && b) ≡ false
none_unless true true never = absurd (never refl refl)
none_unless true false never = refl
none_unless false b never = refl

-- Behind a command by ranges more than a single granule is left, or none.
excess_after : (target : Target) (left : ℕ) → 0 < left → excess target (left - step_of target left) ≡ 0
unfolding step_of
excess_after target left some =
    let isnt = none_unless target.ranged (left - step_of target left == 1 && (not (is_hinted target.entries) && not (has_single target.granule)))
    (λ ranged more.
    let one = eqb-true (left - step_of target left) 1 (and_parts (left - step_of target left == 1) (not (is_hinted target.entries) && not (has_single target.granule)) more).0 in
    no_single left some (rw ranged at one)) in
    rw isnt refl

ranged_ends : (target : Target) (first left : ℕ) → 0 < left → target.ranged ≡ true
    → (run_from (first * granule_pages target.granule) (ranged_reach target.granule (is_hinted target.entries) left) (size_of target.space)).end
    ≤ (first + (left + excess target left)) * granule_pages target.granule
unfolding ranged_reach
ranged_ends target first left some ranged =
    let within = reached_within left some in
    elim (cases_Bool (reached_of left == 1 && not (is_hinted target.entries))) [
      | inl is ↦
          let parts = and_parts (reached_of left == 1) (not (is_hinted target.entries)) is in
          rw is (single_ends target.granule first (size_of target.space) (first + (left + excess target left)) (omega (arith, some)) (λ several.
          elim (cases_Bool (left == 1)) [
            | inl one ↦ let left_is = eqb-true left 1 one in let more = excess_one target left ranged left_is parts.1 several in omega (arith, left_is, more)
            | inr other ↦ let left_isnt = eqb-false left 1 other in omega (arith, left_isnt, some)
          ]))
      | inr isnt ↦ rw isnt (run_ends target.granule first (count_of left - 1) (scale_of left) (size_of target.space) (first + (left + excess target left))
          (let again = counted_again left in omega (arith, again, within)))
    ]

ranged_begins : (granule : Granule) (hinted : Bool) (first left space : ℕ)
    → first * granule_pages granule ≤ (run_from (first * granule_pages granule) (ranged_reach granule hinted left) space).first
unfolding ranged_reach
ranged_begins granule hinted first left space =
    elim (cases_Bool (reached_of left == 1 && not hinted)) [
      | inl is ↦ rw is (single_begins granule first space)
      | inr isnt ↦ rw isnt (run_begins granule first (count_of left - 1) (scale_of left) space)
    ]

at_leaf : (target : Target) (first : ℕ) → first % leaf_granules target ≡ 0 → first * granule_pages target.granule % leaf_pages target ≡ 0
at_leaf target first begins = ap (λ n. n % leaf_pages target) (leaf_at target first begins) ∙ mul-mod_left (first / leaf_granules target) (leaf_pages target)

next_within : (target : Target) (first left : ℕ) → first % leaf_granules target ≡ 0 → 0 < left → IsWithin target (pages_from target.granule first (left + excess target left)) (command_of target first left)
unfolding command_of reach_of
next_within target first left begins some =
    let at = first * granule_pages target.granule in
    elim (cases_Bool target.ranged) as (λ _. IsWithin target (pages_from target.granule first (left + excess target left)) (command_of target first left)) [
      | inl ranged ↦ (
        at,
        ranged_reach target.granule (is_hinted target.entries) left,
        rw ranged refl,
        at_leaf target first begins,
        ranged_begins target.granule (is_hinted target.entries) first left (size_of target.space),
        ranged_ends target first left some ranged,
      )
      | inr not_ranged ↦ (at, Page, rw not_ranged refl, at_leaf target first begins, omega arith, page_ends target.granule first (first + (left + excess target left)) (omega (arith, some)))
    ]

wider : (target : Target) (first end least_first most_end : ℕ) (command : Command) → least_first ≤ first → end ≤ most_end
    → IsWithin target (record { first = first; end = end }) command → IsWithin target (record { first = least_first; end = most_end }) command
wider target first end least_first most_end command below above (page, reach, is, leaf, begins, ends) =
    (page, reach, is, leaf, omega (arith, below, begins), omega (arith, above, ends))

within_up_to : (most : ℕ) (target : Target) (first left : ℕ) → first % leaf_granules target ≡ 0 → left % leaf_granules target ≡ 0
    → All (IsWithin target (pages_from target.granule first (left + excess target left))) (commands_up_to most target first left)
unfolding commands_up_to
within_up_to zero target first left at_first whole = λ k d below. absurd (omega (arith, below))
within_up_to (suc most) target first left at_first whole =
    elim (cases_Bool (left == 0)) [
      | inl is ↦ rw is (λ k d below. absurd (omega (arith, below)))
      | inr isnt ↦
          let some : 0 < left = let other = eqb-false left 0 isnt in omega (arith, other) in
          let step = step_of target left in
          let granule = target.granule in
          let rest = commands_up_to most target (first + step) (left - step) in
          let later = within_up_to most target (first + step) (left - step) (next_begins target first left some at_first whole) (next_whole target left some whole) in
          let within = step_within target left some whole in
          let no_more = excess_after target left some in
          let begins = at_granule granule first (first + step) (omega arith) in
          let ends = at_granule granule (first + step + (left - step + excess target (left - step))) (first + (left + excess target left)) (omega (arith, no_more, within)) in
          rw isnt (All-cons (IsWithin target (pages_from granule first (left + excess target left))) (command_of target first left) rest (next_within target first left at_first some)
          (λ k d below. wider target ((first + step) * granule_pages granule) ((first + step + (left - step + excess target (left - step))) * granule_pages granule)
          (first * granule_pages granule) ((first + (left + excess target left)) * granule_pages granule) _ begins ends (later k d below)))
    ]

-- ---- How many commands there are.

no_leaves : (q unit : ℕ) → 0 < unit → q * unit ≡ 0 → 0 ≡ q
no_leaves zero unit some none = refl
no_leaves (suc q) unit some none = absurd (omega (arith, some, none))

one_each_up_to : (most : ℕ) (target : Target) (first left q : ℕ) → target.ranged ≡ false → left ≤ most → left ≡ q * leaf_granules target
    → length (commands_up_to most target first left) ≡ q
unfolding commands_up_to step_of
one_each_up_to zero target first left q not_ranged few is = no_leaves q (leaf_granules target) (leaf_some target) (sym is ∙ omega (arith, few))
one_each_up_to (suc most) target first left zero not_ranged few is = let none : left ≡ 0 = omega (arith, is) in rw none refl
one_each_up_to (suc most) target first left (suc q) not_ranged few is =
    let unit = leaf_granules target in
    let one = leaf_some target in
    let isnt : (left == 0) ≡ false = ne_eqb left 0 (λ none. omega (arith, one, is, none)) in
    let step : step_of target left ≡ unit = rw not_ranged refl in
    let rest = one_each_up_to most target (first + step_of target left) (left - step_of target left) q not_ranged (omega (arith, few, step, one)) (omega (arith, step, is)) in
    rw isnt (omega (arith, rest))

-- With `left` a multiple of 2^(36 - 5 * j), j commands are left beside those that reach 2^36 granules.
few_up_to : (most : ℕ) (target : Target) (first left j q : ℕ) → target.ranged ≡ true → left ≡ q * 2 ^ (36 - 5 * j)
    → length (commands_up_to most target first left) ≤ j + left / 2 ^ 36
unfolding commands_up_to step_of
few_up_to zero target first left j q ranged is = omega arith
few_up_to (suc most) target first left zero q ranged is =
    elim (cases_Bool (left == 0)) [
      | inl none ↦ rw none (omega arith)
      | inr isnt ↦
          let some : 0 < left = let other = eqb-false left 0 isnt in omega (arith, other) in
          let step : step_of target left ≡ 2 ^ 36 = rw ranged (reached_most left q some is) in
          let rest = few_up_to most target (first + step_of target left) (left - step_of target left) zero (q - 1) ranged (omega (arith, step, is)) in
          rw isnt (omega (arith, rest, step, is, some))
    ]
few_up_to (suc most) target first left (suc j) q ranged is =
    elim (cases_Bool (left == 0)) [
      | inl none ↦ rw none (omega arith)
      | inr isnt ↦
          let some : 0 < left = let other = eqb-false left 0 isnt in omega (arith, other) in
          let step : step_of target left ≡ reached_of left = rw ranged refl in
          let power : 36 - 5 * suc j ≡ 36 - 5 * j - 5 = omega arith in
          let shorter : left ≡ q * 2 ^ (36 - 5 * j - 5) = subst (λ e. left ≡ q * 2 ^ e) power is in
          let after = after_multiple left (36 - 5 * j) q some (omega arith) shorter in
          let multiple : left - step_of target left ≡ after.0 * 2 ^ (36 - 5 * j) = ap (λ n. left - n) step ∙ after.1 in
          let rest = few_up_to most target (first + step_of target left) (left - step_of target left) j after.0 ranged multiple in
          rw isnt (omega (arith, rest))
    ]

pub each_leaf : (request : Request) → Fits request → request.target.ranged ≡ false → length (commands_by_address request) ≡ request.range.count / leaf_granules request.target
unfolding commands_by_address
each_leaf request fits not_ranged =
    one_each_up_to request.range.count request.target request.range.first request.range.count (request.range.count / leaf_granules request.target) not_ranged (omega arith)
    (in_leaves request.target request.range.count fits.whole)

-- ---- Together.

inside_space : (request : Request) (page : ℕ) → Fits request → IsIn page (pages_from request.target.granule request.range.first request.range.count) → page < size_of request.target.space
inside_space request page fits inside =
    let end = ends_inside request.target (request.range.first + request.range.count) fits.inside in omega (arith, end, inside.1)

pub covered : InvalidationsCoverTheirRanges
unfolding commands_by_address IsServed
covered request fits =
    let target = request.target in
    let first = request.range.first in
    let count = request.range.count in
    record {
      by_ranges = λ ranged page inside tag any is. covered_up_to count target first count page tag fits.begins fits.whole (omega arith) inside (inside_space request page fits inside) (inl ranged) is;
      by_leaves = λ page inside tag whole is. covered_up_to count target first count page tag fits.begins fits.whole (omega arith) inside (inside_space request page fits inside) (inr whole) is;
      within = within_up_to count target first count fits.begins fits.whole;
      few = λ ranged. few_up_to count target first count 8 count ranged (omega arith);
      one_each = λ not_ranged. one_each_up_to count target first count (count / leaf_granules target) not_ranged (omega arith) (in_leaves target count fits.whole);
    }
