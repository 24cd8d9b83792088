-- The laws of the spelling.
use Rattle.std.proofs.Common.{◌≡◌, ℕ, ◌==◌, Bool, true, false, cond, inl, inr, refl, sym, ◌∙◌, subst, arith, ◌&&◌, nat_lt, ◌⊎◌, Option, Some, None, Result, Ok}
use Rattle.std.proofs.lemmas.Bool.{cases_Bool, and_parts, leb-true, ltb-true, eqb-true, both_ways, cond-true, cond-false}
use Rattle.std.proofs.lemmas.Option.{none-some}
use Rattle.std.specs.Prelude.{nat_le}
use Rattle.cmdcodec.specs.declared.ill.Ill.{Ill}
use Rattle.cmdcodec.specs.declared.ill.Ill.TheVariants.{UnknownOpcode}
use Rattle.cmdcodec.specs.declared.raw.Raw.{Raw}
use Rattle.cmdcodec.specs.declared.opcode.Opcode.{Opcode}
use Rattle.cmdcodec.specs.declared.opcode.Opcode.TheVariants as op
use Rattle.cmdcodec.specs.declared.command.Command.{Command}
use Rattle.cmdcodec.specs.declared.command.Command.TheVariants.{CfgiSte, CfgiSteRange, CfgiCd, CfgiCdAll, TlbiNhAll, TlbiNhAsid, TlbiNhVa, TlbiNhVaa, TlbiEl2All, TlbiEl2Asid, TlbiEl2Va, TlbiEl2Vaa, TlbiS12Vmall, TlbiS2Ipa, TlbiNsnhAll, AtcInv, Kept, CmdSync}
use Rattle.cmdcodec.specs.declared.reach.Reach.{Reach}
use Rattle.cmdcodec.specs.declared.reach.Reach.TheVariants.{Page, Range}
use Rattle.cmdcodec.specs.Fields.{field}
use Rattle.cmdcodec.specs.Opcodes.{opcode_of, number_of, opcode_named, is_kept}
use Rattle.cmdcodec.specs.Legality.{first_ill}
use Rattle.cmdcodec.specs.Spelling.{SpellsInLo, SpellsInHi, SpellsGranule}
use Rattle.cmdcodec.specs.FreeBits.{Runs, free_in_lo, free_in_hi, IsAlikeBeside}
use Rattle.cmdcodec.specs.Words.{command_with}
use Rattle.cmdcodec.specs.Laws.{LegalWordsSpellOneCommand, FreeBitsAreIgnored}
use Rattle.cmdcodec.proofs.FieldLemmas.{is_apart, field_alike}
use Rattle.cmdcodec.proofs.SpellingLemmas.{found, only}

some_alike : (opcode named : Opcode) → Some opcode ≡ Some named → opcode ≡ named
some_alike opcode named same = grind (arith, same)

ok_alike : (command other : Command) (ill : Ill) → ◌≡◌ {A = Result Command Ill} (Ok command) (Ok other) → command ≡ other
ok_alike command other ill same = grind (arith, same)

-- ---- one command

IsNumbered : ℕ → Option Opcode → Type 0
IsNumbered number named = (opcode : Opcode) → named ≡ Some opcode → number_of opcode ≡ number

numbered_or : (number : ℕ) (opcode : Opcode) (others : Option Opcode) → IsNumbered number others → IsNumbered number (cond (number == number_of opcode) (Some opcode) others)
unfolding IsNumbered
numbered_or number opcode others rest named is =
    elim (cases_Bool (number == number_of opcode)) [
      | inl same ↦
          let which : opcode ≡ named = some_alike opcode named (sym (cond-true (number == number_of opcode) (Some opcode) others same) ∙ is) in
          subst (λ o. number_of o ≡ number) which (sym (eqb-true number (number_of opcode) same))
      | inr differs ↦ rest named (sym (cond-false (number == number_of opcode) (Some opcode) others differs) ∙ is)
    ]

numbered : (number : ℕ) → IsNumbered number (opcode_named number)
unfolding opcode_named IsNumbered
numbered number =
    numbered_or number op.PrefetchConfig _ (
    numbered_or number op.PrefetchAddr _ (
    numbered_or number op.CfgiSte _ (
    numbered_or number op.CfgiSteRange _ (
    numbered_or number op.CfgiCd _ (
    numbered_or number op.CfgiCdAll _ (
    numbered_or number op.TlbiNhAll _ (
    numbered_or number op.TlbiNhAsid _ (
    numbered_or number op.TlbiNhVa _ (
    numbered_or number op.TlbiNhVaa _ (
    numbered_or number op.TlbiEl2All _ (
    numbered_or number op.TlbiEl2Asid _ (
    numbered_or number op.TlbiEl2Va _ (
    numbered_or number op.TlbiEl2Vaa _ (
    numbered_or number op.TlbiS12Vmall _ (
    numbered_or number op.TlbiS2Ipa _ (
    numbered_or number op.TlbiNsnhAll _ (
    numbered_or number op.AtcInv _ (
    numbered_or number op.PriResp _ (
    numbered_or number op.Resume _ (
    numbered_or number op.StallTerm _ (
    numbered_or number op.CmdSync _ (
    λ opcode is. absurd (none-some opcode is)))))))))))))))))))))))

named_or_none : (named : Option Opcode) → ((opcode : Opcode) × (named ≡ Some opcode)) ⊎ (named ≡ None)
named_or_none None = inr refl
named_or_none (Some opcode) = inl (opcode, refl)

none_is_ill : (raw : Raw) → opcode_named (opcode_of raw) ≡ None → first_ill raw ≡ None → ⊥
none_is_ill raw none ok = grind (arith, none, ok)

is_known : (raw : Raw) → first_ill raw ≡ None → (opcode : Opcode) × (opcode_named (opcode_of raw) ≡ Some opcode)
is_known raw ok = elim (named_or_none (opcode_named (opcode_of raw))) [
  | inl named ↦ named
  | inr none ↦ absurd (none_is_ill raw none ok)
]

pub one : LegalWordsSpellOneCommand
unfolding IsNumbered
one raw ok =
    let known = is_known raw ok in
    let spelled = found raw known.0 (numbered (opcode_of raw) known.0 known.1) ok in
    (command_with known.0 raw, spelled, λ other spells. ok_alike other (command_with known.0 raw) UnknownOpcode (sym (only raw other spells) ∙ only raw (command_with known.0 raw) spelled))

-- ---- free bits

is_beside : ℕ → ℕ → Runs → Bool
is_beside high low runs = nat_le low high && nat_lt high 64 && is_apart high low runs

record Alike (runs : Runs) (word other : ℕ) : Type 0 where
  beside : IsAlikeBeside runs word other

-- A named field is the same in the other word.
same : {runs : Runs} {word other value : ℕ} → Alike runs word other → (high low : ℕ) → is_beside high low runs ≡ true → field word high low ≡ value → field other high low ≡ value
unfolding is_beside
same {runs} {word} {other} {value} alike high low beside is =
    let first = and_parts (nat_le low high && nat_lt high 64) (is_apart high low runs) beside in
    let bounds = and_parts (nat_le low high) (nat_lt high 64) first.0 in
    sym (field_alike runs word other high low alike.beside first.1 (leb-true low high bounds.0) (ltb-true high 64 bounds.1)) ∙ is

granule_alike : (hi other : ℕ) (reach : Reach) → field other 11 10 ≡ field hi 11 10 → SpellsGranule hi reach → SpellsGranule other reach
granule_alike hi other Page is granule = is ∙ granule
granule_alike hi other (Range tg num scale) is granule = is ∙ granule

not_kept : (words : Raw) (lo : ℕ) → lo ≡ words.lo → is_kept (opcode_of words) ≡ true → is_kept (field lo 7 0) ≡ false → ⊥
not_kept words lo is named kept = both_ways (is_kept (field lo 7 0)) kept (subst (λ l. is_kept (field l 7 0) ≡ true) (sym is) named)

lo_alike : (lo other : ℕ) (command : Command) → Alike (free_in_lo command) lo other → SpellsInLo lo command → is_kept (field lo 7 0) ≡ false → SpellsInLo other command
unfolding is_beside
lo_alike lo other (CfgiSte sid leaf) alike (o, secure, s) kept = (same alike 7 0 refl o, same alike 10 10 refl secure, same alike 63 32 refl s)
lo_alike lo other (CfgiSteRange sid range) alike (o, secure, s) kept = (same alike 7 0 refl o, same alike 10 10 refl secure, same alike 63 32 refl s)
lo_alike lo other (CfgiCd sid ssid leaf) alike (o, secure, u, s) kept = (same alike 7 0 refl o, same alike 10 10 refl secure, same alike 31 12 refl u, same alike 63 32 refl s)
lo_alike lo other (CfgiCdAll sid) alike (o, secure, s) kept = (same alike 7 0 refl o, same alike 10 10 refl secure, same alike 63 32 refl s)
lo_alike lo other (TlbiNhAll vmid) alike (o, v) kept = (same alike 7 0 refl o, same alike 47 32 refl v)
lo_alike lo other (TlbiNhAsid vmid asid) alike (o, v, a) kept = (same alike 7 0 refl o, same alike 47 32 refl v, same alike 63 48 refl a)
lo_alike lo other (TlbiNhVa vmid asid leaf page Page) alike (o, v, a, n) kept = (same alike 7 0 refl o, same alike 47 32 refl v, same alike 63 48 refl a, tt)
lo_alike lo other (TlbiNhVa vmid asid leaf page (Range tg num scale)) alike (o, v, a, (n, c)) kept = (same alike 7 0 refl o, same alike 47 32 refl v, same alike 63 48 refl a, (same alike 16 12 refl n, same alike 24 20 refl c))
lo_alike lo other (TlbiNhVaa vmid leaf page Page) alike (o, v, n) kept = (same alike 7 0 refl o, same alike 47 32 refl v, tt)
lo_alike lo other (TlbiNhVaa vmid leaf page (Range tg num scale)) alike (o, v, (n, c)) kept = (same alike 7 0 refl o, same alike 47 32 refl v, (same alike 16 12 refl n, same alike 24 20 refl c))
lo_alike lo other TlbiEl2All alike o kept = same alike 7 0 refl o
lo_alike lo other (TlbiEl2Asid asid) alike (o, a) kept = (same alike 7 0 refl o, same alike 63 48 refl a)
lo_alike lo other (TlbiEl2Va asid leaf page Page) alike (o, a, n) kept = (same alike 7 0 refl o, same alike 63 48 refl a, tt)
lo_alike lo other (TlbiEl2Va asid leaf page (Range tg num scale)) alike (o, a, (n, c)) kept = (same alike 7 0 refl o, same alike 63 48 refl a, (same alike 16 12 refl n, same alike 24 20 refl c))
lo_alike lo other (TlbiEl2Vaa leaf page Page) alike (o, n) kept = (same alike 7 0 refl o, tt)
lo_alike lo other (TlbiEl2Vaa leaf page (Range tg num scale)) alike (o, (n, c)) kept = (same alike 7 0 refl o, (same alike 16 12 refl n, same alike 24 20 refl c))
lo_alike lo other (TlbiS12Vmall vmid) alike (o, v) kept = (same alike 7 0 refl o, same alike 47 32 refl v)
lo_alike lo other (TlbiS2Ipa vmid leaf page Page) alike (o, v, n) kept = (same alike 7 0 refl o, same alike 47 32 refl v, tt)
lo_alike lo other (TlbiS2Ipa vmid leaf page (Range tg num scale)) alike (o, v, (n, c)) kept = (same alike 7 0 refl o, same alike 47 32 refl v, (same alike 16 12 refl n, same alike 24 20 refl c))
lo_alike lo other TlbiNsnhAll alike o kept = same alike 7 0 refl o
lo_alike lo other (AtcInv sid ssv ssid global size page) alike (o, secure, g, b, u, s) kept = (same alike 7 0 refl o, same alike 10 10 refl secure, same alike 9 9 refl g, same alike 11 11 refl b, same alike 31 12 refl u, same alike 63 32 refl s)
lo_alike lo other (CmdSync cs msh attr «data» address) alike (o, c, small, m, t, d) kept = (same alike 7 0 refl o, same alike 13 12 refl c, small, same alike 23 22 refl m, same alike 27 24 refl t, same alike 63 32 refl d)
lo_alike lo other (Kept words) alike (is, (named, ok)) kept = absurd (not_kept words lo is named kept)

hi_alike : (lo hi other : ℕ) (command : Command) → Alike (free_in_hi command) hi other → SpellsInLo lo command → SpellsInHi hi command → is_kept (field lo 7 0) ≡ false → SpellsInHi other command
unfolding is_beside
hi_alike lo hi other (CfgiSte sid leaf) alike in_lo l kept = same alike 0 0 refl l
hi_alike lo hi other (CfgiSteRange sid range) alike in_lo r kept = same alike 4 0 refl r
hi_alike lo hi other (CfgiCd sid ssid leaf) alike in_lo l kept = same alike 0 0 refl l
hi_alike lo hi other (CfgiCdAll sid) alike in_lo in_hi kept = tt
hi_alike lo hi other (TlbiNhAll vmid) alike in_lo in_hi kept = tt
hi_alike lo hi other (TlbiNhAsid vmid asid) alike in_lo in_hi kept = tt
hi_alike lo hi other (TlbiNhVa vmid asid leaf page reach) alike in_lo (l, g, p) kept = (same alike 0 0 refl l, granule_alike hi other reach (same alike 11 10 refl refl) g, same alike 63 12 refl p)
hi_alike lo hi other (TlbiNhVaa vmid leaf page reach) alike in_lo (l, g, p) kept = (same alike 0 0 refl l, granule_alike hi other reach (same alike 11 10 refl refl) g, same alike 63 12 refl p)
hi_alike lo hi other TlbiEl2All alike in_lo in_hi kept = tt
hi_alike lo hi other (TlbiEl2Asid asid) alike in_lo in_hi kept = tt
hi_alike lo hi other (TlbiEl2Va asid leaf page reach) alike in_lo (l, g, p) kept = (same alike 0 0 refl l, granule_alike hi other reach (same alike 11 10 refl refl) g, same alike 63 12 refl p)
hi_alike lo hi other (TlbiEl2Vaa leaf page reach) alike in_lo (l, g, p) kept = (same alike 0 0 refl l, granule_alike hi other reach (same alike 11 10 refl refl) g, same alike 63 12 refl p)
hi_alike lo hi other (TlbiS12Vmall vmid) alike in_lo in_hi kept = tt
hi_alike lo hi other (TlbiS2Ipa vmid leaf page reach) alike in_lo (l, g, p) kept = (same alike 0 0 refl l, granule_alike hi other reach (same alike 11 10 refl refl) g, same alike 51 12 refl p)
hi_alike lo hi other TlbiNsnhAll alike in_lo in_hi kept = tt
hi_alike lo hi other (AtcInv sid ssv ssid global size page) alike in_lo (z, small, p) kept = (same alike 5 0 refl z, small, same alike 63 12 refl p)
hi_alike lo hi other (CmdSync cs msh attr «data» address) alike in_lo a kept = same alike 51 2 refl a
hi_alike lo hi other (Kept words) alike (is, (named, ok)) in_hi kept = absurd (not_kept words lo is named kept)

pub ignored : FreeBitsAreIgnored
ignored raw other command kept spells differ =
    let in_lo = lo_alike raw.lo other.lo command (record { beside = differ.0 }) spells.0 kept in
    let in_hi = hi_alike raw.lo raw.hi other.hi command (record { beside = differ.1 }) spells.0 spells.1 kept in
    record { spelled = (in_lo, in_hi); alike = only raw command spells ∙ sym (only other command (in_lo, in_hi)) }
