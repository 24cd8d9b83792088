-- The words of a command that the SMMU has are legal for it.
use Rattle.std.proofs.Common.{◌≡◌, true, Some, refl, ap, sym, subst, ◌∙◌, ℕ, ◌==◌, Bool, false}
use Rattle.std.proofs.lemmas.Bool.{and_parts}
use Rattle.cmdcodec.specs.declared.raw.Raw.{Raw}
use Rattle.cmdcodec.specs.declared.command.Command.{Command}
use Rattle.cmdcodec.specs.declared.command.Command.TheVariants.{TlbiNhAll, TlbiNhAsid, TlbiNhVa, TlbiNhVaa, TlbiEl2All, TlbiEl2Asid, TlbiEl2Va, TlbiEl2Vaa, TlbiS12Vmall, TlbiS2Ipa, AtcInv}
use Rattle.cmdcodec.specs.declared.opcode.Opcode.{Opcode}
use Rattle.cmdcodec.specs.declared.opcode.Opcode.TheVariants as opcode
use Rattle.cmdcodec.specs.Opcodes.{opcode_of, opcode_named}
use Rattle.cmdcodec.specs.Spelling.{Spells}
use Rattle.cmdcodec.specs.Fields.{field, bit}
use Rattle.cmdcodec.specs.Laws.{SpelledWordsAreLegal}
use Rattle.smmu_features.specs.declared.smmu.Smmu.{Smmu}
use Rattle.smmu_features.specs.Commands.{has_command, has_accesses, has_accesses_of, has_accesses_in, is_of_stall, is_secure_stall}
use Rattle.invalidations.specs.Reaching.{has_reach, is_served, ServedWordsAreLegal}

-- the opcode of these words is this one alone
had_by : (smmu : Smmu) (raw : Raw) (number : _) (own other : Opcode) → opcode_of raw ≡ number → opcode_named number ≡ Some own → has_command smmu own ≡ true
    → opcode_named (opcode_of raw) ≡ Some other → has_command smmu other ≡ true
had_by smmu raw number own other is named has found =
    let same : own ≡ other = let both : Some own ≡ Some other = sym named ∙ ap opcode_named (sym is) ∙ found in cc in
    subst (λ o. has_command smmu o ≡ true) same has

had : (smmu : Smmu) (command : Command) (raw : Raw) (other : Opcode) → is_served smmu command ≡ true → Spells raw command
    → opcode_named (opcode_of raw) ≡ Some other → has_command smmu other ≡ true
unfolding opcode_named
had smmu (TlbiNhAll vmid) raw other served spells = had_by smmu raw 0x10 opcode.TlbiNhAll other spells.0.0 refl served
had smmu (TlbiNhAsid vmid asid) raw other served spells = had_by smmu raw 0x11 opcode.TlbiNhAsid other spells.0.0 refl served
had smmu (TlbiNhVa vmid asid leaf page reach) raw other served spells =
    had_by smmu raw 0x12 opcode.TlbiNhVa other spells.0.0 refl (and_parts smmu.stage_1 (has_reach smmu reach) served).0
had smmu (TlbiNhVaa vmid leaf page reach) raw other served spells =
    had_by smmu raw 0x13 opcode.TlbiNhVaa other spells.0.0 refl (and_parts smmu.stage_1 (has_reach smmu reach) served).0
had smmu TlbiEl2All raw other served spells = had_by smmu raw 0x20 opcode.TlbiEl2All other spells.0 refl served
had smmu (TlbiEl2Asid asid) raw other served spells = had_by smmu raw 0x21 opcode.TlbiEl2Asid other spells.0.0 refl served
had smmu (TlbiEl2Va asid leaf page reach) raw other served spells =
    had_by smmu raw 0x22 opcode.TlbiEl2Va other spells.0.0 refl (and_parts smmu.hypervisor (has_reach smmu reach) served).0
had smmu (TlbiEl2Vaa leaf page reach) raw other served spells =
    had_by smmu raw 0x23 opcode.TlbiEl2Vaa other spells.0.0 refl (and_parts smmu.hypervisor (has_reach smmu reach) served).0
had smmu (TlbiS12Vmall vmid) raw other served spells = had_by smmu raw 0x28 opcode.TlbiS12Vmall other spells.0.0 refl served
had smmu (TlbiS2Ipa vmid leaf page reach) raw other served spells =
    had_by smmu raw 0x2a opcode.TlbiS2Ipa other spells.0.0 refl (and_parts smmu.stage_2 (has_reach smmu reach) served).0
had smmu (AtcInv sid ssv ssid global size page) raw other served spells =
    had_by smmu raw 0x40 opcode.AtcInv other spells.0.0 refl (and_parts smmu.ats (has_accesses smmu ssv ssid global) served).0
had smmu command raw other served spells = absurd cc

-- ---- Accesses.

flag_of : (number : ℕ) (flag : Bool) → number ≡ bit flag → (number == 1) ≡ flag
flag_of number true is = rw is refl
flag_of number false is = rw is refl

-- The accesses that the words are for are those that the command says.
endpoint_accesses : (smmu : Smmu) (sid ssid size page : ℕ) (ssv global : Bool) (raw : Raw) → has_accesses smmu ssv ssid global ≡ true
    → Spells raw (AtcInv sid ssv ssid global size page) → has_accesses_of smmu raw (field raw.lo 9 9 == 1) ≡ true
endpoint_accesses smmu sid ssid size page ssv global raw had spells =
    let global_is = flag_of (field raw.lo 9 9) global spells.0.2 in
    let ssv_is = flag_of (field raw.lo 11 11) ssv spells.0.3 in
    rw global_is (rw ssv_is (subst (λ n. has_accesses smmu ssv n global ≡ true) (sym spells.0.4) had))

-- words of another opcode than these three name none
others_have : (smmu : Smmu) (raw : Raw) (number : ℕ) (own other : Opcode) → opcode_of raw ≡ number → opcode_named number ≡ Some own
    → has_accesses_in smmu raw own ≡ true → opcode_named (opcode_of raw) ≡ Some other → has_accesses_in smmu raw other ≡ true
others_have smmu raw number own other is named has found =
    let same : own ≡ other = let both : Some own ≡ Some other = sym named ∙ ap opcode_named (sym is) ∙ found in cc in
    subst (λ o. has_accesses_in smmu raw o ≡ true) same has

accesses : (smmu : Smmu) (command : Command) (raw : Raw) (other : Opcode) → is_served smmu command ≡ true → Spells raw command
    → opcode_named (opcode_of raw) ≡ Some other → has_accesses_in smmu raw other ≡ true
unfolding opcode_named
accesses smmu (TlbiNhAll vmid) raw other served spells = others_have smmu raw 0x10 opcode.TlbiNhAll other spells.0.0 refl refl
accesses smmu (TlbiNhAsid vmid asid) raw other served spells = others_have smmu raw 0x11 opcode.TlbiNhAsid other spells.0.0 refl refl
accesses smmu (TlbiNhVa vmid asid leaf page reach) raw other served spells = others_have smmu raw 0x12 opcode.TlbiNhVa other spells.0.0 refl refl
accesses smmu (TlbiNhVaa vmid leaf page reach) raw other served spells = others_have smmu raw 0x13 opcode.TlbiNhVaa other spells.0.0 refl refl
accesses smmu TlbiEl2All raw other served spells = others_have smmu raw 0x20 opcode.TlbiEl2All other spells.0 refl refl
accesses smmu (TlbiEl2Asid asid) raw other served spells = others_have smmu raw 0x21 opcode.TlbiEl2Asid other spells.0.0 refl refl
accesses smmu (TlbiEl2Va asid leaf page reach) raw other served spells = others_have smmu raw 0x22 opcode.TlbiEl2Va other spells.0.0 refl refl
accesses smmu (TlbiEl2Vaa leaf page reach) raw other served spells = others_have smmu raw 0x23 opcode.TlbiEl2Vaa other spells.0.0 refl refl
accesses smmu (TlbiS12Vmall vmid) raw other served spells = others_have smmu raw 0x28 opcode.TlbiS12Vmall other spells.0.0 refl refl
accesses smmu (TlbiS2Ipa vmid leaf page reach) raw other served spells = others_have smmu raw 0x2a opcode.TlbiS2Ipa other spells.0.0 refl refl
accesses smmu (AtcInv sid ssv ssid global size page) raw other served spells =
    others_have smmu raw 0x40 opcode.AtcInv other spells.0.0 refl
    (endpoint_accesses smmu sid ssid size page ssv global raw (and_parts smmu.ats (has_accesses smmu ssv ssid global) served).1 spells)
accesses smmu command raw other served spells = absurd cc

-- ---- No stall.

no_stall : (raw : Raw) (number : ℕ) → opcode_of raw ≡ number → is_of_stall (opcode_named number) ≡ false → is_secure_stall raw ≡ false
no_stall raw number is none = rw is (rw none refl)

non_secure : (smmu : Smmu) (command : Command) (raw : Raw) → is_served smmu command ≡ true → Spells raw command → is_secure_stall raw ≡ false
unfolding opcode_named
non_secure smmu (TlbiNhAll vmid) raw served spells = no_stall raw 0x10 spells.0.0 refl
non_secure smmu (TlbiNhAsid vmid asid) raw served spells = no_stall raw 0x11 spells.0.0 refl
non_secure smmu (TlbiNhVa vmid asid leaf page reach) raw served spells = no_stall raw 0x12 spells.0.0 refl
non_secure smmu (TlbiNhVaa vmid leaf page reach) raw served spells = no_stall raw 0x13 spells.0.0 refl
non_secure smmu TlbiEl2All raw served spells = no_stall raw 0x20 spells.0 refl
non_secure smmu (TlbiEl2Asid asid) raw served spells = no_stall raw 0x21 spells.0.0 refl
non_secure smmu (TlbiEl2Va asid leaf page reach) raw served spells = no_stall raw 0x22 spells.0.0 refl
non_secure smmu (TlbiEl2Vaa leaf page reach) raw served spells = no_stall raw 0x23 spells.0.0 refl
non_secure smmu (TlbiS12Vmall vmid) raw served spells = no_stall raw 0x28 spells.0.0 refl
non_secure smmu (TlbiS2Ipa vmid leaf page reach) raw served spells = no_stall raw 0x2a spells.0.0 refl
non_secure smmu (AtcInv sid ssv ssid global size page) raw served spells = no_stall raw 0x40 spells.0.0 refl
non_secure smmu command raw served spells = absurd cc

pub served_legal : SpelledWordsAreLegal → ServedWordsAreLegal
served_legal legal smmu command raw served spells = record {
  words = legal raw command spells;
  non_secure = non_secure smmu command raw served spells;
  had = λ opcode found. had smmu command raw opcode served spells found;
  accesses = λ opcode found. accesses smmu command raw opcode served spells found;
}
