-- Words that spell the same command differ only in free bits.
use Rattle.std.proofs.Common.{◌≡◌, ℕ, suc, ◌+◌, ◌-◌, ◌/◌, ◌%◌, ◌^◌, ◌≤◌, Bool, true, false, ◌&&◌, ◌||◌, [], ◌∷◌, inl, inr, refl, ap, sym, ◌∙◌, arith}
use Rattle.std.proofs.lemmas.Bool.{agree_below, agree_below_at, and_parts, or_cases, leb-true, both_ways}
use Rattle.std.proofs.lemmas.Nat.{mod-pow-add, field_of, shr-shr}
use Rattle.std.specs.Prelude.{nat_le}
use Rattle.cmdcodec.specs.declared.command.Command.{Command}
use Rattle.cmdcodec.specs.declared.command.Command.TheVariants.{CfgiSte, CfgiSteRange, CfgiCd, CfgiCdAll, TlbiNhAll, TlbiNhAsid, TlbiNhVa, TlbiNhVaa, TlbiEl2All, TlbiEl2Asid, TlbiEl2Va, TlbiEl2Vaa, TlbiS12Vmall, TlbiS2Ipa, TlbiNsnhAll, AtcInv, Kept, CmdSync}
use Rattle.cmdcodec.specs.declared.reach.Reach.{Reach}
use Rattle.cmdcodec.specs.declared.reach.Reach.TheVariants.{Page, Range}
use Rattle.cmdcodec.specs.Fields.{field}
use Rattle.cmdcodec.specs.Spelling.{SpellsInLo, SpellsInHi, SpellsGranule}
use Rattle.cmdcodec.specs.FreeBits.{Runs, free_in_lo, free_in_hi, is_among, IsAlikeBeside}
use Rattle.cmdcodec.specs.Laws.{AllOtherBitsAreNamed}
use Rattle.cmdcodec.proofs.FieldLemmas.{one_bit}

low_bit : (x n : ℕ) → x % 2 ^ suc n % 2 ≡ x % 2
low_bit x n =
    let next : suc n ≡ n + 1 = omega arith in
    let split = ap (λ m. x % 2 ^ m) next ∙ mod-pow-add x n 1 in
    ap (λ m. m % 2) split ∙ omega arith

-- a bit of a field that contains it
bit_in : (word high low i : ℕ) → low ≤ i → i ≤ high → field word i i ≡ field word high low / 2 ^ (i - low) % 2
bit_in word high low i from to =
    let width : high + 1 - low ≡ suc (high - i) + (i - low) = omega (arith, from, to) in
    let place : low + (i - low) ≡ i = omega (arith, from) in
    let moved = shr-shr word low (i - low) ∙ ap (λ n. word / 2 ^ n) place in
    one_bit word i ∙ sym (low_bit (word / 2 ^ i) (high - i))
    ∙ sym (ap (λ x. x % 2) (ap (λ n. word / 2 ^ low % 2 ^ n / 2 ^ (i - low)) width ∙ field_of (word / 2 ^ low) (suc (high - i)) (i - low)
    ∙ ap (λ x. x % 2 ^ suc (high - i)) moved))

-- The two words agree in these fields.
Same : Runs → ℕ → ℕ → Type 0
Same [] word other = Unit
Same (run ∷ runs) word other = (field word run.0 run.1 ≡ field other run.0 run.1) × Same runs word other

bit_alike : (named : Runs) (word other i : ℕ) → Same named word other → is_among i named ≡ true → field word i i ≡ field other i i
unfolding Same
bit_alike [] word other i same among = absurd (both_ways false refl among)
bit_alike (run ∷ runs) word other i (same, rest) among =
    elim (or_cases (nat_le run.1 i && nat_le i run.0) (is_among i runs) among) [
      | inl here ↦
          let bounds = and_parts (nat_le run.1 i) (nat_le i run.0) here in
          let from = leb-true run.1 i bounds.0 in
          let to = leb-true i run.0 bounds.1 in
          bit_in word run.0 run.1 i from to ∙ ap (λ f. f / 2 ^ (i - run.1) % 2) same ∙ sym (bit_in other run.0 run.1 i from to)
      | inr later ↦ bit_alike runs word other i rest later
    ]

-- Each of the 64 bits is free or named.
are_all : Runs → Runs → Bool
are_all free named = agree_below (λ i. is_among i free || is_among i named) (λ i. true) 64

alike : (free named : Runs) (word other : ℕ) → Same named word other → are_all free named ≡ true → IsAlikeBeside free word other
unfolding are_all
alike free named word other same all i below not_free =
    elim (or_cases (is_among i free) (is_among i named) (agree_below_at (λ i. is_among i free || is_among i named) (λ i. true) 64 i all below)) [
      | inl is_free ↦ absurd (both_ways (is_among i free) not_free is_free)
      | inr is_named ↦ bit_alike named word other i same is_named
    ]

granule_same : (hi other : ℕ) (reach : Reach) → SpellsGranule hi reach → SpellsGranule other reach → field hi 11 10 ≡ field other 11 10
granule_same hi other Page here there = here ∙ sym there
granule_same hi other (Range tg num scale) here there = here ∙ sym there

in_lo : (lo other : ℕ) (command : Command) → SpellsInLo lo command → SpellsInLo other command → IsAlikeBeside (free_in_lo command) lo other
unfolding Same are_all
in_lo lo other (CfgiSte sid leaf) (o, secure, s) (o2, secure2, s2) =
    alike (free_in_lo (CfgiSte sid leaf)) ((7, 0) ∷ (10, 10) ∷ (63, 32) ∷ []) lo other (o ∙ sym o2, (secure ∙ sym secure2, (s ∙ sym s2, tt))) refl
in_lo lo other (CfgiSteRange sid range) (o, secure, s) (o2, secure2, s2) =
    alike (free_in_lo (CfgiSteRange sid range)) ((7, 0) ∷ (10, 10) ∷ (63, 32) ∷ []) lo other (o ∙ sym o2, (secure ∙ sym secure2, (s ∙ sym s2, tt))) refl
in_lo lo other (CfgiCd sid ssid leaf) (o, secure, u, s) (o2, secure2, u2, s2) =
    alike (free_in_lo (CfgiCd sid ssid leaf)) ((7, 0) ∷ (10, 10) ∷ (31, 12) ∷ (63, 32) ∷ []) lo other (o ∙ sym o2, (secure ∙ sym secure2, (u ∙ sym u2, (s ∙ sym s2, tt)))) refl
in_lo lo other (CfgiCdAll sid) (o, secure, s) (o2, secure2, s2) =
    alike (free_in_lo (CfgiCdAll sid)) ((7, 0) ∷ (10, 10) ∷ (63, 32) ∷ []) lo other (o ∙ sym o2, (secure ∙ sym secure2, (s ∙ sym s2, tt))) refl
in_lo lo other (TlbiNhAll vmid) (o, v) (o2, v2) =
    alike (free_in_lo (TlbiNhAll vmid)) ((7, 0) ∷ (47, 32) ∷ []) lo other (o ∙ sym o2, (v ∙ sym v2, tt)) refl
in_lo lo other (TlbiNhAsid vmid asid) (o, v, a) (o2, v2, a2) =
    alike (free_in_lo (TlbiNhAsid vmid asid)) ((7, 0) ∷ (47, 32) ∷ (63, 48) ∷ []) lo other (o ∙ sym o2, (v ∙ sym v2, (a ∙ sym a2, tt))) refl
in_lo lo other (TlbiNhVa vmid asid leaf page Page) (o, v, a, n) (o2, v2, a2, n2) =
    alike (free_in_lo (TlbiNhVa vmid asid leaf page Page)) ((7, 0) ∷ (47, 32) ∷ (63, 48) ∷ []) lo other (o ∙ sym o2, (v ∙ sym v2, (a ∙ sym a2, tt))) refl
in_lo lo other (TlbiNhVa vmid asid leaf page (Range tg num scale)) (o, v, a, (n, c)) (o2, v2, a2, (n2, c2)) =
    alike (free_in_lo (TlbiNhVa vmid asid leaf page (Range tg num scale))) ((7, 0) ∷ (47, 32) ∷ (63, 48) ∷ (16, 12) ∷ (24, 20) ∷ []) lo other (o ∙ sym o2, (v ∙ sym v2, (a ∙ sym a2, (n ∙ sym n2, (c ∙ sym c2, tt))))) refl
in_lo lo other (TlbiNhVaa vmid leaf page Page) (o, v, n) (o2, v2, n2) =
    alike (free_in_lo (TlbiNhVaa vmid leaf page Page)) ((7, 0) ∷ (47, 32) ∷ []) lo other (o ∙ sym o2, (v ∙ sym v2, tt)) refl
in_lo lo other (TlbiNhVaa vmid leaf page (Range tg num scale)) (o, v, (n, c)) (o2, v2, (n2, c2)) =
    alike (free_in_lo (TlbiNhVaa vmid leaf page (Range tg num scale))) ((7, 0) ∷ (47, 32) ∷ (16, 12) ∷ (24, 20) ∷ []) lo other (o ∙ sym o2, (v ∙ sym v2, (n ∙ sym n2, (c ∙ sym c2, tt)))) refl
in_lo lo other TlbiEl2All o o2 =
    alike (free_in_lo TlbiEl2All) ((7, 0) ∷ []) lo other (o ∙ sym o2, tt) refl
in_lo lo other (TlbiEl2Asid asid) (o, a) (o2, a2) =
    alike (free_in_lo (TlbiEl2Asid asid)) ((7, 0) ∷ (63, 48) ∷ []) lo other (o ∙ sym o2, (a ∙ sym a2, tt)) refl
in_lo lo other (TlbiEl2Va asid leaf page Page) (o, a, n) (o2, a2, n2) =
    alike (free_in_lo (TlbiEl2Va asid leaf page Page)) ((7, 0) ∷ (63, 48) ∷ []) lo other (o ∙ sym o2, (a ∙ sym a2, tt)) refl
in_lo lo other (TlbiEl2Va asid leaf page (Range tg num scale)) (o, a, (n, c)) (o2, a2, (n2, c2)) =
    alike (free_in_lo (TlbiEl2Va asid leaf page (Range tg num scale))) ((7, 0) ∷ (63, 48) ∷ (16, 12) ∷ (24, 20) ∷ []) lo other (o ∙ sym o2, (a ∙ sym a2, (n ∙ sym n2, (c ∙ sym c2, tt)))) refl
in_lo lo other (TlbiEl2Vaa leaf page Page) (o, n) (o2, n2) =
    alike (free_in_lo (TlbiEl2Vaa leaf page Page)) ((7, 0) ∷ []) lo other (o ∙ sym o2, tt) refl
in_lo lo other (TlbiEl2Vaa leaf page (Range tg num scale)) (o, (n, c)) (o2, (n2, c2)) =
    alike (free_in_lo (TlbiEl2Vaa leaf page (Range tg num scale))) ((7, 0) ∷ (16, 12) ∷ (24, 20) ∷ []) lo other (o ∙ sym o2, (n ∙ sym n2, (c ∙ sym c2, tt))) refl
in_lo lo other (TlbiS12Vmall vmid) (o, v) (o2, v2) =
    alike (free_in_lo (TlbiS12Vmall vmid)) ((7, 0) ∷ (47, 32) ∷ []) lo other (o ∙ sym o2, (v ∙ sym v2, tt)) refl
in_lo lo other (TlbiS2Ipa vmid leaf page Page) (o, v, n) (o2, v2, n2) =
    alike (free_in_lo (TlbiS2Ipa vmid leaf page Page)) ((7, 0) ∷ (47, 32) ∷ []) lo other (o ∙ sym o2, (v ∙ sym v2, tt)) refl
in_lo lo other (TlbiS2Ipa vmid leaf page (Range tg num scale)) (o, v, (n, c)) (o2, v2, (n2, c2)) =
    alike (free_in_lo (TlbiS2Ipa vmid leaf page (Range tg num scale))) ((7, 0) ∷ (47, 32) ∷ (16, 12) ∷ (24, 20) ∷ []) lo other (o ∙ sym o2, (v ∙ sym v2, (n ∙ sym n2, (c ∙ sym c2, tt)))) refl
in_lo lo other TlbiNsnhAll o o2 =
    alike (free_in_lo TlbiNsnhAll) ((7, 0) ∷ []) lo other (o ∙ sym o2, tt) refl
in_lo lo other (AtcInv sid ssv ssid global size page) (o, secure, g, b, u, s) (o2, secure2, g2, b2, u2, s2) =
    alike (free_in_lo (AtcInv sid ssv ssid global size page)) ((7, 0) ∷ (10, 10) ∷ (9, 9) ∷ (11, 11) ∷ (31, 12) ∷ (63, 32) ∷ []) lo other (o ∙ sym o2, (secure ∙ sym secure2, (g ∙ sym g2, (b ∙ sym b2, (u ∙ sym u2, (s ∙ sym s2, tt)))))) refl
in_lo lo other (CmdSync cs msh attr «data» address) (o, c, small, m, t, d) (o2, c2, small2, m2, t2, d2) =
    alike (free_in_lo (CmdSync cs msh attr «data» address)) ((7, 0) ∷ (13, 12) ∷ (23, 22) ∷ (27, 24) ∷ (63, 32) ∷ []) lo other (o ∙ sym o2, (c ∙ sym c2, (m ∙ sym m2, (t ∙ sym t2, (d ∙ sym d2, tt))))) refl
in_lo lo other (Kept words) (is, kept) (is2, kept2) = λ i below not_free. ap (λ w. field w i i) (is ∙ sym is2)

in_hi : (hi other : ℕ) (command : Command) → SpellsInHi hi command → SpellsInHi other command → IsAlikeBeside (free_in_hi command) hi other
unfolding Same are_all
in_hi hi other (CfgiSte sid leaf) l l2 =
    alike (free_in_hi (CfgiSte sid leaf)) ((0, 0) ∷ []) hi other (l ∙ sym l2, tt) refl
in_hi hi other (CfgiSteRange sid range) r r2 =
    alike (free_in_hi (CfgiSteRange sid range)) ((4, 0) ∷ []) hi other (r ∙ sym r2, tt) refl
in_hi hi other (CfgiCd sid ssid leaf) l l2 =
    alike (free_in_hi (CfgiCd sid ssid leaf)) ((0, 0) ∷ []) hi other (l ∙ sym l2, tt) refl
in_hi hi other (CfgiCdAll sid) here there = alike (free_in_hi (CfgiCdAll sid)) [] hi other tt refl
in_hi hi other (TlbiNhAll vmid) here there = alike (free_in_hi (TlbiNhAll vmid)) [] hi other tt refl
in_hi hi other (TlbiNhAsid vmid asid) here there = alike (free_in_hi (TlbiNhAsid vmid asid)) [] hi other tt refl
in_hi hi other (TlbiNhVa vmid asid leaf page reach) (l, g, p) (l2, g2, p2) =
    alike (free_in_hi (TlbiNhVa vmid asid leaf page reach)) ((0, 0) ∷ (11, 10) ∷ (63, 12) ∷ []) hi other (l ∙ sym l2, (granule_same hi other reach g g2, (p ∙ sym p2, tt))) refl
in_hi hi other (TlbiNhVaa vmid leaf page reach) (l, g, p) (l2, g2, p2) =
    alike (free_in_hi (TlbiNhVaa vmid leaf page reach)) ((0, 0) ∷ (11, 10) ∷ (63, 12) ∷ []) hi other (l ∙ sym l2, (granule_same hi other reach g g2, (p ∙ sym p2, tt))) refl
in_hi hi other TlbiEl2All here there = alike (free_in_hi TlbiEl2All) [] hi other tt refl
in_hi hi other (TlbiEl2Asid asid) here there = alike (free_in_hi (TlbiEl2Asid asid)) [] hi other tt refl
in_hi hi other (TlbiEl2Va asid leaf page reach) (l, g, p) (l2, g2, p2) =
    alike (free_in_hi (TlbiEl2Va asid leaf page reach)) ((0, 0) ∷ (11, 10) ∷ (63, 12) ∷ []) hi other (l ∙ sym l2, (granule_same hi other reach g g2, (p ∙ sym p2, tt))) refl
in_hi hi other (TlbiEl2Vaa leaf page reach) (l, g, p) (l2, g2, p2) =
    alike (free_in_hi (TlbiEl2Vaa leaf page reach)) ((0, 0) ∷ (11, 10) ∷ (63, 12) ∷ []) hi other (l ∙ sym l2, (granule_same hi other reach g g2, (p ∙ sym p2, tt))) refl
in_hi hi other (TlbiS12Vmall vmid) here there = alike (free_in_hi (TlbiS12Vmall vmid)) [] hi other tt refl
in_hi hi other (TlbiS2Ipa vmid leaf page reach) (l, g, p) (l2, g2, p2) =
    alike (free_in_hi (TlbiS2Ipa vmid leaf page reach)) ((0, 0) ∷ (11, 10) ∷ (51, 12) ∷ []) hi other (l ∙ sym l2, (granule_same hi other reach g g2, (p ∙ sym p2, tt))) refl
in_hi hi other TlbiNsnhAll here there = alike (free_in_hi TlbiNsnhAll) [] hi other tt refl
in_hi hi other (AtcInv sid ssv ssid global size page) (z, small, p) (z2, small2, p2) =
    alike (free_in_hi (AtcInv sid ssv ssid global size page)) ((5, 0) ∷ (63, 12) ∷ []) hi other (z ∙ sym z2, (p ∙ sym p2, tt)) refl
in_hi hi other (CmdSync cs msh attr «data» address) a a2 =
    alike (free_in_hi (CmdSync cs msh attr «data» address)) ((51, 2) ∷ []) hi other (a ∙ sym a2, tt) refl
in_hi hi other (Kept words) is is2 = λ i below not_free. ap (λ w. field w i i) (is ∙ sym is2)

pub all_named : AllOtherBitsAreNamed
all_named raw other command here there = (in_lo raw.lo other.lo command here.0 there.0, in_hi raw.hi other.hi command here.1 there.1)
