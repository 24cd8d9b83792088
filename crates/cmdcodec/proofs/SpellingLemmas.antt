-- Decoding and encoding agree with the spelling.
use Rattle.std.proofs.Common.{◌≡◌, ℕ, ◌<◌, ◌≤◌, ◌==◌, ◌||◌, zero, suc, inl, inr, Bool, true, false, refl, ap, sym, subst, ◌∙◌, arith, Option, Some, None, Ok, Err}
use Rattle.std.specs.Prelude.{is_none}
use Rattle.std.proofs.lemmas.Option.{same_Some}
use Rattle.std.proofs.lemmas.Bool.{cond-true, le-ltb, ne_eqb, or_cases, eqb-true, eqb-false, cases_Bool}
use Rattle.cmdcodec.specs.declared.raw.Raw.{Raw}
use Rattle.cmdcodec.specs.declared.ill.Ill.{Ill}
use Rattle.cmdcodec.specs.declared.ill.Ill.TheVariants.{UnknownOpcode}
use Rattle.cmdcodec.specs.declared.opcode.Opcode.{Opcode}
use Rattle.cmdcodec.specs.declared.opcode.Opcode.TheVariants as op
use Rattle.cmdcodec.specs.declared.command.Command.{Command}
use Rattle.cmdcodec.specs.declared.command.Command.TheVariants.{CfgiSte, CfgiSteRange, CfgiCd, CfgiCdAll, TlbiNhAll, TlbiNhAsid, TlbiNhVa, TlbiNhVaa, TlbiEl2All, TlbiEl2Asid, TlbiEl2Va, TlbiEl2Vaa, TlbiS12Vmall, TlbiS2Ipa, TlbiNsnhAll, AtcInv, Kept, CmdSync}
use Rattle.cmdcodec.specs.declared.reach.Granule.{Granule}
use Rattle.cmdcodec.specs.declared.reach.Granule.TheVariants.{Kib4, Kib16, Kib64}
use Rattle.cmdcodec.specs.declared.reach.Reach.{Reach}
use Rattle.cmdcodec.specs.declared.reach.Reach.TheVariants.{Page, Range}
use Rattle.cmdcodec.specs.Fields.{field, bit}
use Rattle.cmdcodec.specs.Opcodes.{opcode_of, number_of, opcode_named, is_kept}
use Rattle.cmdcodec.specs.Legality.{first_ill, has_secure_bit}
use Rattle.cmdcodec.specs.Spelling.{Spells, SpellsSteps, SpellsGranule, granule_named}
use Rattle.cmdcodec.proofs.FieldLemmas.{field-lt}
use Rattle.cmdcodec.specs.Words.{reach_by, reach_in, command_with, command_or_ill, decoding}

number_named : (opcode : Opcode) → opcode_named (number_of opcode) ≡ Some opcode
unfolding opcode_named
number_named op.PrefetchConfig = refl
number_named op.PrefetchAddr = refl
number_named op.CfgiSte = refl
number_named op.CfgiSteRange = refl
number_named op.CfgiCd = refl
number_named op.CfgiCdAll = refl
number_named op.TlbiNhAll = refl
number_named op.TlbiNhAsid = refl
number_named op.TlbiNhVa = refl
number_named op.TlbiNhVaa = refl
number_named op.TlbiEl2All = refl
number_named op.TlbiEl2Asid = refl
number_named op.TlbiEl2Va = refl
number_named op.TlbiEl2Vaa = refl
number_named op.TlbiS12Vmall = refl
number_named op.TlbiS2Ipa = refl
number_named op.TlbiNsnhAll = refl
number_named op.AtcInv = refl
number_named op.PriResp = refl
number_named op.Resume = refl
number_named op.StallTerm = refl
number_named op.CmdSync = refl

leaf_again : (leaf : Bool) → (bit leaf == 1) ≡ leaf
leaf_again false = refl
leaf_again true = refl

reach_again : (raw : Raw) (reach : Reach) → SpellsSteps raw.lo reach → SpellsGranule raw.hi reach → reach_in raw ≡ reach
reach_again raw Page steps granule = rw granule refl
reach_again raw (Range Kib4 num scale) (n, s) granule = rw (granule, n, s) refl
reach_again raw (Range Kib16 num scale) (n, s) granule = rw (granule, n, s) refl
reach_again raw (Range Kib64 num scale) (n, s) granule = rw (granule, n, s) refl

below_3 : (n : ℕ) → n < 3 → (n == 3) ≡ false
below_3 n small = ne_eqb n 3 (λ is. omega (arith, small, is))

kept_legal : (raw words : Raw) → raw.lo ≡ words.lo → raw.hi ≡ words.hi → first_ill words ≡ None → first_ill raw ≡ None
kept_legal raw words lo hi none = ap (λ l. first_ill (record { lo = l; hi = raw.hi })) lo ∙ ap (λ h. first_ill (record { lo = words.lo; hi = h })) hi ∙ none

is_zero : (n : ℕ) → n < 4 → (n ≡ 1 → ⊥) → (n ≡ 2 → ⊥) → (n ≡ 3 → ⊥) → n ≡ 0
is_zero n small not_1 not_2 not_3 = grind (arith, small, not_1, not_2, not_3)

pub legal : (raw : Raw) (command : Command) → Spells raw command → first_ill raw ≡ None
unfolding opcode_named
legal raw (CfgiSte sid leaf) ((o, secure, s), hi) = rw (o, secure) refl
legal raw (CfgiSteRange sid range) ((o, secure, s), hi) = rw (o, secure) refl
legal raw (CfgiCd sid ssid leaf) ((o, secure, u, s), hi) = rw (o, secure) refl
legal raw (CfgiCdAll sid) ((o, secure, s), hi) = rw (o, secure) refl
legal raw (TlbiNhAll vmid) ((o, v), hi) = rw o refl
legal raw (TlbiNhAsid vmid asid) ((o, v, a), hi) = rw o refl
legal raw (TlbiNhVa vmid asid leaf page reach) ((o, v, a, s), hi) = rw o refl
legal raw (TlbiNhVaa vmid leaf page reach) ((o, v, s), hi) = rw o refl
legal raw TlbiEl2All (o, hi) = rw o refl
legal raw (TlbiEl2Asid asid) ((o, a), hi) = rw o refl
legal raw (TlbiEl2Va asid leaf page reach) ((o, a, s), hi) = rw o refl
legal raw (TlbiEl2Vaa leaf page reach) ((o, s), hi) = rw o refl
legal raw (TlbiS12Vmall vmid) ((o, v), hi) = rw o refl
legal raw (TlbiS2Ipa vmid leaf page reach) ((o, v, s), hi) = rw o refl
legal raw TlbiNsnhAll (o, hi) = rw o refl
legal raw (AtcInv sid ssv ssid global size page) ((o, secure, g, b, u, s), (z, small, p)) = rw (o, secure, z, le-ltb 52 size small) refl
legal raw (Kept words) ((lo, (is, none)), hi) = kept_legal raw words lo hi none
legal raw (CmdSync cs msh attr «data» address) ((o, c, small, m, t, d), hi) = rw (o, c, below_3 cs small) refl

-- The words have this opcode, and its fields make this command.
record Makes (raw : Raw) (command : Command) : Type 0 where
  opcode : Opcode
  number : opcode_of raw ≡ number_of opcode
  makes : command_with opcode raw ≡ command

made_kept : (raw : Raw) → is_kept (opcode_of raw) ≡ true → Makes raw (Kept raw)
made_kept raw kept =
    let number = opcode_of raw in
    elim (or_cases (number == 0x01 || number == 0x02 || number == 0x41 || number == 0x44) (number == 0x45) kept) [
      | inr is ↦ record { opcode = op.StallTerm; number = eqb-true number 0x45 is; makes = refl }
      | inl kept ↦ elim (or_cases (number == 0x01 || number == 0x02 || number == 0x41) (number == 0x44) kept) [
        | inr is ↦ record { opcode = op.Resume; number = eqb-true number 0x44 is; makes = refl }
        | inl kept ↦ elim (or_cases (number == 0x01 || number == 0x02) (number == 0x41) kept) [
          | inr is ↦ record { opcode = op.PriResp; number = eqb-true number 0x41 is; makes = refl }
          | inl kept ↦ elim (or_cases (number == 0x01) (number == 0x02) kept) [
            | inl is ↦ record { opcode = op.PrefetchConfig; number = eqb-true number 0x01 is; makes = refl }
            | inr is ↦ record { opcode = op.PrefetchAddr; number = eqb-true number 0x02 is; makes = refl }
          ]
        ]
      ]
    ]

made : (raw : Raw) (command : Command) → Spells raw command → Makes raw command
made raw (CfgiSte sid leaf) ((o, secure, s), l) = record { opcode = op.CfgiSte; number = o; makes = rw (s, l, leaf_again leaf) refl }
made raw (CfgiSteRange sid range) ((o, secure, s), r) = record { opcode = op.CfgiSteRange; number = o; makes = rw (s, r) refl }
made raw (CfgiCd sid ssid leaf) ((o, secure, u, s), l) = record { opcode = op.CfgiCd; number = o; makes = rw (s, u, l, leaf_again leaf) refl }
made raw (CfgiCdAll sid) ((o, secure, s), hi) = record { opcode = op.CfgiCdAll; number = o; makes = rw s refl }
made raw (TlbiNhAll vmid) ((o, v), hi) = record { opcode = op.TlbiNhAll; number = o; makes = rw v refl }
made raw (TlbiNhAsid vmid asid) ((o, v, a), hi) = record { opcode = op.TlbiNhAsid; number = o; makes = rw (v, a) refl }
made raw (TlbiNhVa vmid asid leaf page reach) ((o, v, a, n), (l, g, p)) =
    record { opcode = op.TlbiNhVa; number = o; makes = rw (v, a, l, leaf_again leaf, p) (ap (TlbiNhVa vmid asid leaf page) (reach_again raw reach n g)) }
made raw (TlbiNhVaa vmid leaf page reach) ((o, v, n), (l, g, p)) =
    record { opcode = op.TlbiNhVaa; number = o; makes = rw (v, l, leaf_again leaf, p) (ap (TlbiNhVaa vmid leaf page) (reach_again raw reach n g)) }
made raw TlbiEl2All (o, hi) = record { opcode = op.TlbiEl2All; number = o; makes = refl }
made raw (TlbiEl2Asid asid) ((o, a), hi) = record { opcode = op.TlbiEl2Asid; number = o; makes = rw a refl }
made raw (TlbiEl2Va asid leaf page reach) ((o, a, n), (l, g, p)) =
    record { opcode = op.TlbiEl2Va; number = o; makes = rw (a, l, leaf_again leaf, p) (ap (TlbiEl2Va asid leaf page) (reach_again raw reach n g)) }
made raw (TlbiEl2Vaa leaf page reach) ((o, n), (l, g, p)) =
    record { opcode = op.TlbiEl2Vaa; number = o; makes = rw (l, leaf_again leaf, p) (ap (TlbiEl2Vaa leaf page) (reach_again raw reach n g)) }
made raw (TlbiS12Vmall vmid) ((o, v), hi) = record { opcode = op.TlbiS12Vmall; number = o; makes = rw v refl }
made raw (TlbiS2Ipa vmid leaf page reach) ((o, v, n), (l, g, p)) =
    record { opcode = op.TlbiS2Ipa; number = o; makes = rw (v, l, leaf_again leaf, p) (ap (TlbiS2Ipa vmid leaf page) (reach_again raw reach n g)) }
made raw TlbiNsnhAll (o, hi) = record { opcode = op.TlbiNsnhAll; number = o; makes = refl }
made raw (AtcInv sid ssv ssid global size page) ((o, secure, g, b, u, s), (z, small, p)) =
    record { opcode = op.AtcInv; number = o; makes = rw (s, b, leaf_again ssv, u, g, leaf_again global, z, p) refl }
made raw (Kept words) ((lo, (is, none)), hi) =
    let same : raw ≡ words = ap (λ l. record { lo = l; hi = raw.hi }) lo ∙ ap (λ h. record { lo = words.lo; hi = h }) hi in
    subst (λ w. Makes raw (Kept w)) same (made_kept raw (subst (λ (w : Raw). is_kept (opcode_of w) ≡ true) (sym same) is))
made raw (CmdSync cs msh attr «data» address) ((o, c, small, m, t, d), a) =
    record { opcode = op.CmdSync; number = o; makes = rw (c, m, t, d, a) refl }

pub unknown : (raw : Raw) → opcode_named (opcode_of raw) ≡ None → decoding raw ≡ Err UnknownOpcode
unfolding decoding
unknown raw named = ap (λ o. command_or_ill o (first_ill raw) raw) named

pub decoded : (raw : Raw) (opcode : Opcode) → opcode_named (opcode_of raw) ≡ Some opcode → first_ill raw ≡ None → decoding raw ≡ Ok (command_with opcode raw)
unfolding decoding
decoded raw opcode named legal = ap (λ o. command_or_ill o (first_ill raw) raw) named ∙ ap (λ ill. command_or_ill (Some opcode) ill raw) legal

pub only : (raw : Raw) (command : Command) → Spells raw command → decoding raw ≡ Ok command
only raw command spells =
    let m = made raw command spells in
    decoded raw m.opcode (ap opcode_named m.number ∙ number_named m.opcode) (legal raw command spells) ∙ ap Ok m.makes

unnamed_is_unknown : (raw : Raw) → opcode_named (opcode_of raw) ≡ None → first_ill raw ≡ Some UnknownOpcode
unnamed_is_unknown raw named = cond-true (is_none (opcode_named (opcode_of raw))) (Some UnknownOpcode) _ (ap is_none named)

pub ill_decoded : (raw : Raw) (ill : Ill) → first_ill raw ≡ Some ill → decoding raw ≡ Err ill
unfolding decoding
ill_decoded raw ill e = by_opcode (opcode_named (opcode_of raw)) refl
  where
    by_opcode : (o : Option Opcode) → opcode_named (opcode_of raw) ≡ o → decoding raw ≡ Err ill
    by_opcode None named = unknown raw named ∙ ap Err (same_Some UnknownOpcode ill (sym (unnamed_is_unknown raw named) ∙ e))
    by_opcode (Some opcode) named = ap (λ o. command_or_ill o (first_ill raw) raw) named ∙ ap (λ i. command_or_ill (Some opcode) i raw) e

bit_is : (n : ℕ) → n < 2 → n ≡ bit (n == 1)
bit_is zero small = refl
bit_is (suc zero) small = refl
bit_is (suc (suc n)) small = absurd (omega (arith, small))

steps_by : (lo : ℕ) (named : Option Granule) → SpellsSteps lo (reach_by named (field lo 16 12) (field lo 24 20))
steps_by lo None = tt
steps_by lo (Some tg) = (refl, refl)

-- TG has four values.
granule_by : (hi num scale : ℕ) → SpellsGranule hi (reach_by (granule_named (field hi 11 10)) num scale)
granule_by hi num scale =
    let tg = field hi 11 10 in
    let small : tg < 4 = field-lt hi 11 10 in
    elim (cases_Bool (tg == 1)) [
      | inl is ↦ rw is (eqb-true tg 1 is)
      | inr not_1 ↦ elim (cases_Bool (tg == 2)) [
        | inl is ↦ rw (not_1, is) (eqb-true tg 2 is)
        | inr not_2 ↦ elim (cases_Bool (tg == 3)) [
          | inl is ↦ rw (not_1, not_2, is) (eqb-true tg 3 is)
          | inr not_3 ↦ rw (not_1, not_2, not_3) (is_zero tg small (eqb-false tg 1 not_1) (eqb-false tg 2 not_2) (eqb-false tg 3 not_3))
        ]
      ]
    ]

not_secure : (raw : Raw) → has_secure_bit (opcode_of raw) ≡ true → first_ill raw ≡ None → field raw.lo 10 10 ≡ 0
not_secure raw has legal = grind (arith, has, legal, field-lt raw.lo 10 10)

signal_small : (raw : Raw) → opcode_of raw ≡ 0x46 → first_ill raw ≡ None → field raw.lo 13 12 < 3
signal_small raw is legal = grind (arith, is, legal, field-lt raw.lo 13 12)

size_small : (raw : Raw) → opcode_of raw ≡ 0x40 → first_ill raw ≡ None → field raw.hi 5 0 ≤ 52
size_small raw is legal = grind (arith, is, legal)

leaf_in : (raw : Raw) → field raw.hi 0 0 ≡ bit (field raw.hi 0 0 == 1)
leaf_in raw = bit_is (field raw.hi 0 0) (field-lt raw.hi 0 0)

steps_in : (raw : Raw) → SpellsSteps raw.lo (reach_in raw)
steps_in raw = steps_by raw.lo (granule_named (field raw.hi 11 10))

granule_in : (raw : Raw) → SpellsGranule raw.hi (reach_in raw)
granule_in raw = granule_by raw.hi (field raw.lo 16 12) (field raw.lo 24 20)

kept_in : (raw : Raw) → is_kept (opcode_of raw) ≡ true → first_ill raw ≡ None → Spells raw (Kept raw)
kept_in raw kept ok = ((refl, (kept, ok)), refl)

pub found : (raw : Raw) (opcode : Opcode) → number_of opcode ≡ opcode_of raw → first_ill raw ≡ None → Spells raw (command_with opcode raw)
found raw op.CfgiSte number ok = ((sym number, not_secure raw (rw (sym number) refl) ok, refl), leaf_in raw)
found raw op.CfgiSteRange number ok = ((sym number, not_secure raw (rw (sym number) refl) ok, refl), refl)
found raw op.CfgiCd number ok = ((sym number, not_secure raw (rw (sym number) refl) ok, refl, refl), leaf_in raw)
found raw op.CfgiCdAll number ok = ((sym number, not_secure raw (rw (sym number) refl) ok, refl), tt)
found raw op.TlbiNhAll number ok = ((sym number, refl), tt)
found raw op.TlbiNhAsid number ok = ((sym number, refl, refl), tt)
found raw op.TlbiNhVa number ok = ((sym number, refl, refl, steps_in raw), (leaf_in raw, granule_in raw, refl))
found raw op.TlbiNhVaa number ok = ((sym number, refl, steps_in raw), (leaf_in raw, granule_in raw, refl))
found raw op.TlbiEl2All number ok = (sym number, tt)
found raw op.TlbiEl2Asid number ok = ((sym number, refl), tt)
found raw op.TlbiEl2Va number ok = ((sym number, refl, steps_in raw), (leaf_in raw, granule_in raw, refl))
found raw op.TlbiEl2Vaa number ok = ((sym number, steps_in raw), (leaf_in raw, granule_in raw, refl))
found raw op.TlbiS12Vmall number ok = ((sym number, refl), tt)
found raw op.TlbiS2Ipa number ok = ((sym number, refl, steps_in raw), (leaf_in raw, granule_in raw, refl))
found raw op.TlbiNsnhAll number ok = (sym number, tt)
found raw op.AtcInv number ok =
    let global = bit_is (field raw.lo 9 9) (field-lt raw.lo 9 9) in
    let ssv = bit_is (field raw.lo 11 11) (field-lt raw.lo 11 11) in
    ((sym number, not_secure raw (rw (sym number) refl) ok, global, ssv, refl, refl), (refl, size_small raw (sym number) ok, refl))
found raw op.CmdSync number ok = ((sym number, refl, signal_small raw (sym number) ok, refl, refl, refl), refl)
found raw op.PrefetchConfig number ok = kept_in raw (rw (sym number) refl) ok
found raw op.PrefetchAddr number ok = kept_in raw (rw (sym number) refl) ok
found raw op.PriResp number ok = kept_in raw (rw (sym number) refl) ok
found raw op.Resume number ok = kept_in raw (rw (sym number) refl) ok
found raw op.StallTerm number ok = kept_in raw (rw (sym number) refl) ok
