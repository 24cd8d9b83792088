-- The words of a command by address, with TTL.
use Rattle.std.proofs.Common.{◌≡◌, ℕ, ◌+◌, ◌-◌, ◌*◌, ◌/◌, ◌%◌, ◌^◌, ◌<◌, ◌≤◌, [], ◌∷◌, ◌==◌, ◌&&◌, ◌⊎◌, not, nat_le, Bool, true, false, inl, inr, Some, None, Ok, refl, ap, sym, subst, ◌∙◌, arith}
use Rattle.std.proofs.lemmas.Bool.{cases_Bool, cases_lt, eqb-true, eqb-false, le-leb, and_from, or_parts}
use Rattle.std.proofs.lemmas.Nat.{shr-shr}
use Rattle.cmdcodec.specs.declared.raw.Raw.{Raw}
use Rattle.cmdcodec.specs.declared.command.Command.{Command}
use Rattle.cmdcodec.specs.declared.reach.Granule.{Granule}
use Rattle.cmdcodec.specs.declared.reach.Granule.TheVariants.{Kib4, Kib16, Kib64}
use Rattle.cmdcodec.specs.declared.reach.Reach.{Reach}
use Rattle.cmdcodec.specs.declared.reach.Reach.TheVariants.{Page, Range}
use Rattle.cmdcodec.specs.Fields.{field}
use Rattle.cmdcodec.specs.Words.{decoding, encoding}
use Rattle.cmdcodec.specs.Opcodes.{opcode_of, is_kept, is_sync}
use Rattle.cmdcodec.specs.Spelling.{Spells, SpellsSteps, SpellsGranule, granule_number}
use Rattle.cmdcodec.specs.FreeBits.{HasFreeBitsZero, AreZero, DifferInFreeBits, is_among, free_beside, Runs}
use Rattle.cmdcodec.specs.Laws.{FreeBitsAreIgnored}
use Rattle.invalidations.specs.declared.space.Space.{Space}
use Rattle.invalidations.specs.declared.space.Space.TheVariants.{Stage1, Hypervisor, Stage2}
use Rattle.invalidations.specs.declared.entries.Entries.{Entries}
use Rattle.invalidations.specs.declared.entries.Entries.TheVariants.{Any, Leaves}
use Rattle.invalidations.specs.declared.entries.Level.TheVariants.{One, Two, Three}
use Rattle.invalidations.specs.declared.request.Target.{Target}
use Rattle.invalidations.specs.Spaces.{command_for}
use Rattle.invalidations.specs.Targets.{is_leaf, is_hinted, hint_of}
use Rattle.invalidations.specs.Pieces.{scale_of, count_of, reached_of}
use Rattle.invalidations.specs.ByAddress.{single, ranged_reach, reach_of, command_of}
use Rattle.invalidations.specs.Hints.{ttl_of, IsUnreserved, AreWordsOf, IsSayable, IsSaid}
use Rattle.invalidations.proofs.PieceLemmas.{count_some, reached_is}

-- ---- The next command can be said.

no_hint : (entries : Entries) → not (is_hinted entries) ≡ true → hint_of entries ≡ 0
no_hint Any un = refl
no_hint (Leaves None) un = refl
no_hint (Leaves (Some level)) un = absurd cc

some_hint : (entries : Entries) → is_hinted entries ≡ true → 0 < hint_of entries
some_hint Any hinted = absurd cc
some_hint (Leaves None) hinted = absurd cc
some_hint (Leaves (Some One)) hinted = omega arith
some_hint (Leaves (Some Two)) hinted = omega arith
some_hint (Leaves (Some Three)) hinted = omega arith

pub few_hints : (entries : Entries) → hint_of entries < 4
few_hints Any = omega arith
few_hints (Leaves None) = omega arith
few_hints (Leaves (Some One)) = omega arith
few_hints (Leaves (Some Two)) = omega arith
few_hints (Leaves (Some Three)) = omega arith

single_sayable : (granule : Granule) (ttl : ℕ) → ttl ≡ 0 → IsSayable ttl (single granule)
single_sayable Kib4 ttl none = none
single_sayable Kib16 ttl none = omega arith
single_sayable Kib64 ttl none = omega arith

one_granule : (count scale : ℕ) → 0 < count → count - 1 + scale ≡ 0 → count * 2 ^ scale ≡ 1
one_granule count scale some none =
    let one : count ≡ 1 = omega (arith, some, none) in
    let low : scale ≡ 0 = omega (arith, none) in
    rw one (rw low refl)

more_than_one : (left : ℕ) → (reached_of left == 1) ≡ false → 0 < count_of left - 1 + scale_of left
more_than_one left isnt =
    elim (cases_Bool (count_of left - 1 + scale_of left == 0)) [
      | inl none ↦ absurd (
          let one = reached_is left ∙ one_granule (count_of left) (scale_of left) (count_some left) (eqb-true (count_of left - 1 + scale_of left) 0 none) in
          let other = eqb-false (reached_of left) 1 isnt in omega (arith, one, other))
      | inr some ↦ let other = eqb-false (count_of left - 1 + scale_of left) 0 some in omega (arith, other)
    ]

ranged_sayable : (granule : Granule) (entries : Entries) (left : ℕ) → IsSayable (hint_of entries) (ranged_reach granule (is_hinted entries) left)
unfolding ranged_reach
ranged_sayable granule entries left =
    elim (cases_Bool (is_hinted entries)) [
      | inl hinted ↦
          let some = some_hint entries hinted in
          let isnt : (reached_of left == 1 && not (is_hinted entries)) ≡ false = rw hinted (elim (cases_Bool (reached_of left == 1)) [ inl one ↦ rw one refl | inr many ↦ rw many refl ]) in
          rw isnt (omega (arith, some))
      | inr unhinted ↦
          let no : not (is_hinted entries) ≡ true = ap not unhinted in
          let none = no_hint entries no in
          elim (cases_Bool (reached_of left == 1)) [
            | inl one ↦ rw one (rw no (single_sayable granule (hint_of entries) none))
            | inr many ↦ let some = more_than_one left many in rw many (omega (arith, some))
          ]
    ]

sayable : (target : Target) (left : ℕ) → IsSayable (ttl_of target) (reach_of target left)
unfolding reach_of
sayable target left =
    elim (cases_Bool target.ranged) [
      | inl is ↦ rw is (ranged_sayable target.granule target.entries left)
      | inr isnt ↦ rw isnt refl
    ]

pub said : (target : Target) (first left : ℕ) → IsSaid (ttl_of target) (command_of target first left)
unfolding command_of
said target first left = (target.space, is_leaf target.entries, _, reach_of target left, refl, sayable target left)

pub few : (target : Target) → ttl_of target < 4
few target =
    elim (cases_Bool target.ranged) [
      | inl is ↦ rw is (few_hints target.entries)
      | inr isnt ↦ rw isnt (omega arith)
    ]

-- ---- TTL stands in free bits.

high_kept : (hi ttl : ℕ) → field hi 9 1 ≡ 0 → ttl < 4 → hi / 2 ^ 10 ≡ (hi + ttl * 2 ^ 8) / 2 ^ 10
high_kept hi ttl free small = omega (arith, free, small)

bit_kept : (hi ttl i : ℕ) → field hi 9 1 ≡ 0 → ttl < 4 → (i ≡ 0) ⊎ (10 ≤ i) → field hi i i ≡ field (hi + ttl * 2 ^ 8) i i
bit_kept hi ttl i free small (inl none) = rw none (omega (arith, free, small))
bit_kept hi ttl i free small (inr high) =
    let split : 10 + (i - 10) ≡ i = omega (arith, high) in
    let same : hi / 2 ^ i ≡ (hi + ttl * 2 ^ 8) / 2 ^ i =
    ap (λ k. hi / 2 ^ k) (sym split) ∙ sym (shr-shr hi 10 (i - 10)) ∙ ap (λ n. n / 2 ^ (i - 10)) (high_kept hi ttl free small)
    ∙ shr-shr (hi + ttl * 2 ^ 8) 10 (i - 10) ∙ ap (λ k. (hi + ttl * 2 ^ 8) / 2 ^ k) split in
    ap (λ n. n % 2 ^ (i + 1 - i)) same

outside : (i : ℕ) (runs : Runs) → is_among i ((9, 1) ∷ runs) ≡ false → (i ≡ 0) ⊎ (10 ≤ i)
outside i runs isnt =
    elim (cases_lt i 1) [
      | inl none ↦ inl (omega (arith, none))
      | inr some ↦ elim (cases_lt 9 i) [
        | inl high ↦ inr (omega (arith, high))
        | inr low ↦ absurd (
            let both : (nat_le 1 i && nat_le i 9) ≡ true = and_from (nat_le 1 i) (nat_le i 9) (le-leb 1 i some) (le-leb i 9 low) in
            let neither = (or_parts (nat_le 1 i && nat_le i 9) (is_among i runs) isnt).0 in
            let wrong : true ≡ false = sym both ∙ neither in cc)
      ]
    ]

differ : (space : Space) (leaf : Bool) (page : ℕ) (reach : Reach) (raw : Raw) (ttl : ℕ) → HasFreeBitsZero raw (command_for space leaf page reach) → ttl < 4
    → (field raw.hi 9 1 ≡ 0) × DifferInFreeBits (command_for space leaf page reach) raw (record { lo = raw.lo; hi = raw.hi + ttl * 2 ^ 8 })
differ (Stage1 vmid (Some asid)) leaf page reach raw ttl free small =
    (free.1.0, ((λ i below isnt. refl), (λ i below isnt. bit_kept raw.hi ttl i free.1.0 small (outside i [] isnt))))
differ (Stage1 vmid None) leaf page reach raw ttl free small =
    (free.1.0, ((λ i below isnt. refl), (λ i below isnt. bit_kept raw.hi ttl i free.1.0 small (outside i [] isnt))))
differ (Hypervisor (Some asid)) leaf page reach raw ttl free small =
    (free.1.0, ((λ i below isnt. refl), (λ i below isnt. bit_kept raw.hi ttl i free.1.0 small (outside i [] isnt))))
differ (Hypervisor None) leaf page reach raw ttl free small =
    (free.1.0, ((λ i below isnt. refl), (λ i below isnt. bit_kept raw.hi ttl i free.1.0 small (outside i [] isnt))))
differ (Stage2 vmid) leaf page reach raw ttl free small =
    (free.1.0, ((λ i below isnt. refl), (λ i below isnt. bit_kept raw.hi ttl i free.1.0 small (outside i ((63, 52) ∷ []) isnt))))

-- ---- What the words say.

record SaysReach (raw : Raw) (reach : Reach) : Type 0 where
  granule : SpellsGranule raw.hi reach
  steps : SpellsSteps raw.lo reach
  free : AreZero raw.lo (free_beside reach)
  kept : is_kept (opcode_of raw) ≡ false
  no_sync : is_sync raw ≡ false

says : (space : Space) (leaf : Bool) (page : ℕ) (reach : Reach) (raw : Raw) → Spells raw (command_for space leaf page reach)
    → HasFreeBitsZero raw (command_for space leaf page reach) → SaysReach raw reach
says (Stage1 vmid (Some asid)) leaf page reach raw spells free =
    record { granule = spells.1.1; steps = spells.0.3; free = free.0; kept = ap is_kept spells.0.0; no_sync = ap (λ n. n == 0x46) spells.0.0 }
says (Stage1 vmid None) leaf page reach raw spells free =
    record { granule = spells.1.1; steps = spells.0.2; free = free.0.1; kept = ap is_kept spells.0.0; no_sync = ap (λ n. n == 0x46) spells.0.0 }
says (Hypervisor (Some asid)) leaf page reach raw spells free =
    record { granule = spells.1.1; steps = spells.0.2; free = free.0.1; kept = ap is_kept spells.0.0; no_sync = ap (λ n. n == 0x46) spells.0.0 }
says (Hypervisor None) leaf page reach raw spells free =
    record { granule = spells.1.1; steps = spells.0.1; free = free.0.1; kept = ap is_kept spells.0.0; no_sync = ap (λ n. n == 0x46) spells.0.0 }
says (Stage2 vmid) leaf page reach raw spells free =
    record { granule = spells.1.1; steps = spells.0.2; free = free.0.1; kept = ap is_kept spells.0.0; no_sync = ap (λ n. n == 0x46) spells.0.0 }

granule_kept : (hi ttl : ℕ) → field hi 9 1 ≡ 0 → ttl < 4 → field (hi + ttl * 2 ^ 8) 11 10 ≡ field hi 11 10
granule_kept hi ttl free small = omega (arith, free, small)

hint_is : (hi ttl : ℕ) → field hi 9 1 ≡ 0 → ttl < 4 → field (hi + ttl * 2 ^ 8) 9 8 ≡ ttl
hint_is hi ttl free small = omega (arith, free, small)

granule_some : (granule : Granule) (tg : ℕ) → tg ≡ granule_number granule → 0 < tg
granule_some Kib4 tg is = omega (arith, is)
granule_some Kib16 tg is = omega (arith, is)
granule_some Kib64 tg is = omega (arith, is)

unreserved : (raw : Raw) (reach : Reach) (ttl : ℕ) → SaysReach raw reach → IsSayable ttl reach → field raw.hi 9 1 ≡ 0 → ttl < 4
    → IsUnreserved (record { lo = raw.lo; hi = raw.hi + ttl * 2 ^ 8 })
unreserved raw Page ttl says sayable free small = record {
  without = λ none. (hint_is raw.hi ttl free small ∙ sayable, (let low = says.free.0 in omega (arith, low)), (let low = says.free.0 in omega (arith, low)));
  beside = λ some. absurd (let tg = granule_kept raw.hi ttl free small ∙ says.granule in omega (arith, tg, some));
}
unreserved raw (Range granule num scale) ttl says sayable free small = record {
  without = λ none. absurd (
      let tg = granule_kept raw.hi ttl free small ∙ says.granule in
      let some = granule_some granule (field (raw.hi + ttl * 2 ^ 8) 11 10) tg in omega (arith, some, none));
  beside = λ some. (let hint = hint_is raw.hi ttl free small in omega (arith, hint, says.steps.0, says.steps.1, sayable));
}

pub hinted : (command : Command) (ttl : ℕ) (raw : Raw) → IsSaid ttl command → ttl < 4 → Spells raw command → HasFreeBitsZero raw command → decoding raw ≡ Ok command
    → raw ≡ encoding command → FreeBitsAreIgnored → AreWordsOf command ttl (record { lo = raw.lo; hi = raw.hi + ttl * 2 ^ 8 })
hinted command ttl raw (space, leaf, page, reach, is, sayable) small spells free decoded encoded ignored =
    let said = command_for space leaf page reach in
    let spelled = subst (Spells raw) is spells in
    let zero_bits = subst (HasFreeBitsZero raw) is free in
    let other : Raw = record { lo = raw.lo; hi = raw.hi + ttl * 2 ^ 8 } in
    let apart = differ space leaf page reach raw ttl zero_bits small in
    let reached = says space leaf page reach raw spelled zero_bits in
    let alike = ignored raw other said reached.kept spelled apart.1 in
    record {
      spelled = subst (Spells other) (sym is) alike.spelled;
      decoded = sym alike.alike ∙ decoded;
      hint = hint_is raw.hi ttl apart.0 small;
      unreserved = unreserved raw reach ttl reached sayable apart.0 small;
      reserved = ap (λ (words : Raw). record { lo = words.lo; hi = words.hi + ttl * 2 ^ 8 }) encoded;
      no_sync = reached.no_sync;
    }
