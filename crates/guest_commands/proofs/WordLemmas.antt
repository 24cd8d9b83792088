-- The words of the host's commands.
use Rattle.std.proofs.Common.{◌≡◌, ℕ, Bool, true, false, cond, Some, refl, sym, ◌∙◌, ap, subst, Option, None}
use Rattle.std.proofs.lemmas.Bool.{and_from, and_parts}
use Rattle.cmdcodec.specs.declared.raw.Raw.{Raw}
use Rattle.cmdcodec.specs.declared.command.Command.{Command}
use Rattle.cmdcodec.specs.declared.command.Command.TheVariants.{CfgiCd, CfgiCdAll, TlbiNhAll, TlbiNhAsid, TlbiNhVa, TlbiNhVaa, AtcInv}
use Rattle.cmdcodec.specs.declared.opcode.Opcode.{Opcode}
use Rattle.cmdcodec.specs.declared.opcode.Opcode.TheVariants as opcode
use Rattle.cmdcodec.specs.declared.reach.Reach.{Reach}
use Rattle.cmdcodec.specs.declared.reach.Reach.TheVariants.{Page, Range}
use Rattle.cmdcodec.specs.Opcodes.{opcode_of, opcode_named, is_sync}
use Rattle.cmdcodec.specs.Spelling.{Spells}
use Rattle.cmdcodec.specs.Laws.{SpelledWordsAreLegal}
use Rattle.range_hints.specs.declared.ttl.Ttl.{Ttl}
use Rattle.range_hints.specs.declared.ttl.Ttl.TheVariants.{AnyLevel}
use Rattle.range_hints.specs.Hints.{SpellsWithHint, has_ttl, kept_ttl}
use Rattle.range_hints.specs.HintedWords.{hinted_words}
use Rattle.smmu_features.specs.declared.smmu.Smmu.{Smmu}
use Rattle.smmu_features.specs.Commands.{has_command, IsLegalFor, has_accesses, has_accesses_in, is_of_stall, is_secure_stall}
use Rattle.invalidations.specs.Reaching.{has_reach, ServedWordsAreLegal}
use Rattle.guest_commands.specs.Theorems.{Has, HasReach, IsSupported, HasAccesses}
use Rattle.cmdcodec.specs.Legality.{first_ill}

-- ---- Without a hint.

none_kept : (b : Bool) → cond b AnyLevel AnyLevel ≡ AnyLevel
none_kept true = refl
none_kept false = refl

-- The words of a command without a hint spell it.
pub spelled_without : (host : Command) (words : Raw) → words ≡ hinted_words host AnyLevel → SpellsWithHint words host (kept_ttl host AnyLevel) → SpellsWithHint (hinted_words host AnyLevel) host AnyLevel
spelled_without host words is spelled = subst (λ w. SpellsWithHint w host AnyLevel) is (subst (SpellsWithHint words host) (none_kept (has_ttl host)) spelled)

-- ---- Legal words.

reach_served : (smmu : Smmu) (ttl : Ttl) (reach : Reach) → HasReach smmu ttl reach → has_reach smmu reach ≡ true
reach_served smmu ttl Page had = refl
reach_served smmu ttl (Range tg num scale) (ranged, granule, level, some) = and_from _ _ ranged granule

-- words of the opcode of such a command, which has no stall and names no accesses
record IsPlain (smmu : Smmu) (own : Opcode) : Type 0 where
  has : has_command smmu own ≡ true
  names_none : (raw : Raw) → has_accesses_in smmu raw own ≡ true
  non_secure : is_of_stall (Some own) ≡ false

own_opcode : (raw : Raw) (number : ℕ) (own other : Opcode) → opcode_of raw ≡ number → opcode_named number ≡ Some own → opcode_named (opcode_of raw) ≡ Some other → own ≡ other
own_opcode raw number own other is named found = let both : Some own ≡ Some other = sym named ∙ ap opcode_named (sym is) ∙ found in cc

no_stall : (raw : Raw) (opcode : Option Opcode) → opcode_named (opcode_of raw) ≡ opcode → is_of_stall opcode ≡ false → is_secure_stall raw ≡ false
no_stall raw opcode is none = rw is (rw none refl)

plain_legal : (smmu : Smmu) (raw : Raw) (number : ℕ) (own : Opcode) → first_ill raw ≡ None → opcode_of raw ≡ number → opcode_named number ≡ Some own → IsPlain smmu own → IsLegalFor smmu raw
plain_legal smmu raw number own legal is named plain = record {
  words = legal;
  non_secure = no_stall raw (Some own) (ap opcode_named is ∙ named) plain.non_secure;
  had = λ other found. subst (λ o. has_command smmu o ≡ true) (own_opcode raw number own other is named found) plain.has;
  accesses = λ other found. subst (λ o. has_accesses_in smmu raw o ≡ true) (own_opcode raw number own other is named found) (plain.names_none raw);
}

cd_legal : (smmu : Smmu) (raw : Raw) → first_ill raw ≡ None → opcode_of raw ≡ 0x05 → smmu.stage_1 ≡ true → IsLegalFor smmu raw
unfolding opcode_named
cd_legal smmu raw legal is stage = plain_legal smmu raw 0x05 opcode.CfgiCd legal is refl (record { has = stage; names_none = λ r. refl; non_secure = refl })

cd_all_legal : (smmu : Smmu) (raw : Raw) → first_ill raw ≡ None → opcode_of raw ≡ 0x06 → smmu.stage_1 ≡ true → IsLegalFor smmu raw
unfolding opcode_named
cd_all_legal smmu raw legal is stage = plain_legal smmu raw 0x06 opcode.CfgiCdAll legal is refl (record { has = stage; names_none = λ r. refl; non_secure = refl })

pub ste_legal_at : (smmu : Smmu) (raw : Raw) → first_ill raw ≡ None → opcode_of raw ≡ 0x03 → IsLegalFor smmu raw
unfolding opcode_named
ste_legal_at smmu raw legal is = plain_legal smmu raw 0x03 opcode.CfgiSte legal is refl (record { has = refl; names_none = λ r. refl; non_secure = refl })

accesses_served : (smmu : Smmu) (ssv : Bool) (ssid : ℕ) (global : Bool) → HasAccesses smmu ssv ssid global → has_accesses smmu ssv ssid global ≡ true
accesses_served smmu false ssid global had = refl
accesses_served smmu true ssid true had = and_from _ _ had.1 refl
accesses_served smmu true ssid false had = and_from _ _ had.0 had.1

-- The words of a command that the SMMU has are legal for it.
pub legal_words : SpelledWordsAreLegal → ServedWordsAreLegal → (smmu : Smmu) (ttl : Ttl) (command : Command) (raw : Raw) → Has smmu ttl command → Spells raw command → IsLegalFor smmu raw
legal_words legal served smmu ttl (CfgiCd sid ssid leaf) raw had spells = cd_legal smmu raw (legal raw (CfgiCd sid ssid leaf) spells) spells.0.0 (and_parts smmu.stage_1 _ had.1).0
legal_words legal served smmu ttl (CfgiCdAll sid) raw had spells = cd_all_legal smmu raw (legal raw (CfgiCdAll sid) spells) spells.0.0 had.1
legal_words legal served smmu ttl (TlbiNhAll vmid) raw (stage, machine) spells = served smmu (TlbiNhAll vmid) raw stage spells
legal_words legal served smmu ttl (TlbiNhAsid vmid asid) raw (stage, machine, space) spells = served smmu (TlbiNhAsid vmid asid) raw stage spells
legal_words legal served smmu ttl (TlbiNhVa vmid asid leaf page reach) raw (stage, machine, space, reached) spells = served smmu (TlbiNhVa vmid asid leaf page reach) raw (and_from _ _ stage (reach_served smmu ttl reach reached)) spells
legal_words legal served smmu ttl (TlbiNhVaa vmid leaf page reach) raw (stage, machine, reached) spells = served smmu (TlbiNhVaa vmid leaf page reach) raw (and_from _ _ stage (reach_served smmu ttl reach reached)) spells
legal_words legal served smmu ttl (AtcInv sid ssv ssid global size page) raw (ats, stream, substreams) spells =
    served smmu (AtcInv sid ssv ssid global size page) raw (and_from _ _ ats (accesses_served smmu ssv ssid global substreams)) spells
legal_words legal served smmu ttl other raw had spells = absurd had

-- ---- No CMD_SYNC.

pub not_sync : (smmu : Smmu) (raw : Raw) → IsSupported smmu raw → is_sync raw ≡ false
not_sync smmu raw supported = by_command supported.host supported.had supported.spelled.spelled
  where
    by_command : (host : Command) → Has smmu supported.ttl host → Spells raw host → is_sync raw ≡ false
    by_command (CfgiCd sid ssid leaf) had spells = rw spells.0.0 refl
    by_command (CfgiCdAll sid) had spells = rw spells.0.0 refl
    by_command (TlbiNhAll vmid) had spells = rw spells.0.0 refl
    by_command (TlbiNhAsid vmid asid) had spells = rw spells.0.0 refl
    by_command (TlbiNhVa vmid asid leaf page reach) had spells = rw spells.0.0 refl
    by_command (TlbiNhVaa vmid leaf page reach) had spells = rw spells.0.0 refl
    by_command (AtcInv sid ssv ssid global size page) had spells = rw spells.0.0 refl
    by_command other had spells = absurd had
