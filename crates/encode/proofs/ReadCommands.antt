-- The text of a command that words spell is read back.
use Rattle.std.proofs.Common.{◌≡◌, ℕ, ◌+◌, ◌-◌, ◌*◌, ◌/◌, ◌%◌, ◌^◌, ◌<◌, ◌≤◌, ◌==◌, Bool, true, false, refl, ap, ◌∙◌, arith, lit<, lit≤, inl, inr, None}
use Rattle.std.proofs.Math.Nat.{mod-lt}
use Rattle.std.proofs.lemmas.Bool.{eqb-true, or_cases}
use Rattle.cmdcodec.specs.declared.opcode.Opcode.TheVariants as op
use Rattle.cmdcodec.specs.declared.raw.Raw.{Raw}
use Rattle.cmdcodec.specs.declared.command.Command.{Command}
use Rattle.cmdcodec.specs.declared.command.Command.TheVariants.{CfgiSte, CfgiSteRange, CfgiCd, CfgiCdAll, TlbiNhAll, TlbiNhAsid, TlbiNhVa, TlbiNhVaa, TlbiEl2All, TlbiEl2Asid, TlbiEl2Va, TlbiEl2Vaa, TlbiS12Vmall, TlbiS2Ipa, TlbiNsnhAll, AtcInv, Kept, CmdSync}
use Rattle.cmdcodec.specs.declared.reach.Granule.{Granule}
use Rattle.cmdcodec.specs.declared.reach.Granule.TheVariants.{Kib4, Kib16, Kib64}
use Rattle.cmdcodec.specs.declared.reach.Reach.TheVariants.{Page, Range}
use Rattle.cmdcodec.specs.Legality.{first_ill}
use Rattle.cmdcodec.specs.Opcodes.{opcode_of, is_kept}
use Rattle.cmdcodec.specs.Spelling.{Spells, granule_number}
use Rattle.cmdcodec.specs.Text.{hexadecimal, text_of}
use Rattle.encode.specs.declared.field.Field.{Field}
use Rattle.encode.specs.declared.field.Field.TheVariants as field
use Rattle.encode.specs.Fields.{least_of, most_of, unit_of}
use Rattle.encode.proofs.Written.{IsWritten, IsInDecimal, IsFlag, IsInBytes, in_decimal, in_hexadecimal}
use Rattle.encode.proofs.Reading.{IsTextOf}
use Rattle.encode.proofs.ReadConfigurations.{cfgi_ste, cfgi_ste_range, cfgi_cd, cfgi_cd_all}
use Rattle.encode.proofs.ReadTranslations.{tlbi_nh_all, tlbi_nh_asid, tlbi_el2_all, tlbi_el2_asid, tlbi_s12_vmall, tlbi_nsnh_all}
use Rattle.encode.proofs.ReadPages.{tlbi_nh_va, tlbi_nh_vaa, tlbi_el2_va, tlbi_el2_vaa, tlbi_s2_ipa}
use Rattle.encode.proofs.ReadOthers.{atc_inv, cmd_sync, kept}

-- ---- a field of a word is in its range

-- so many bits of a word, by what is left of it below
bits : (f : Field) (rest limit value : ℕ) → rest % limit ≡ value → 0 < limit → unit_of f ≡ 1 → least_of f ≡ 0 → limit ≤ most_of f + 1 → limit ≤ 2 ^ 64
    → IsInDecimal f value
bits f rest limit value at some unit least fits small =
    let below : rest % limit < limit = mod-lt rest some in
    in_decimal f value unit (omega arith) (omega arith) (omega arith)

flag : (f : Field) (b : Bool) → unit_of f ≡ 1 → least_of f ≡ 0 → most_of f ≡ 1 → IsFlag f b
flag f true unit least most = in_decimal f 1 unit (omega arith) (omega arith) (omega arith)
flag f false unit least most = in_decimal f 0 unit (omega arith) (omega arith) (omega arith)

address : (f : Field) (rest limit page : ℕ) → rest % limit ≡ page → 0 < limit → unit_of f ≡ 4096 → least_of f ≡ 0 → limit ≤ most_of f + 1 → limit ≤ 2 ^ 52
    → IsWritten f (hexadecimal (page * 4096)) page
address f rest limit page at some unit least fits small =
    let below : rest % limit < limit = mod-lt rest some in
    in_hexadecimal f (page * 4096) page (ap (λ u. page * 4096 % u) unit ∙ omega arith) (ap (λ u. page * 4096 / u) unit ∙ omega arith) (omega arith) (omega arith) (omega arith)

msi_word : (rest word : ℕ) → rest % 2 ^ 50 ≡ word → IsInBytes field.MsiWord word
msi_word rest word at = in_hexadecimal field.MsiWord (word * 4) word (omega arith) (omega arith) (omega arith) (omega arith) (omega arith)

granule : (tg : Granule) → IsInDecimal field.Tg (granule_number tg)
granule Kib4 = in_decimal field.Tg 1 refl (omega arith) (omega arith) (omega arith)
granule Kib16 = in_decimal field.Tg 2 refl (omega arith) (omega arith) (omega arith)
granule Kib64 = in_decimal field.Tg 3 refl (omega arith) (omega arith) (omega arith)

sid_in : (lo sid : ℕ) → lo / 2 ^ 32 % 2 ^ 32 ≡ sid → IsInDecimal field.Sid sid
sid_in lo sid at = bits field.Sid (lo / 2 ^ 32) (2 ^ 32) sid at (lit< tt) refl refl (lit≤ tt) (lit≤ tt)

ssid_in : (lo ssid : ℕ) → lo / 2 ^ 12 % 2 ^ 20 ≡ ssid → IsInDecimal field.Ssid ssid
ssid_in lo ssid at = bits field.Ssid (lo / 2 ^ 12) (2 ^ 20) ssid at (lit< tt) refl refl (lit≤ tt) (lit≤ tt)

vmid_in : (lo vmid : ℕ) → lo / 2 ^ 32 % 2 ^ 16 ≡ vmid → IsInDecimal field.Vmid vmid
vmid_in lo vmid at = bits field.Vmid (lo / 2 ^ 32) (2 ^ 16) vmid at (lit< tt) refl refl (lit≤ tt) (lit≤ tt)

asid_in : (lo asid : ℕ) → lo / 2 ^ 48 % 2 ^ 16 ≡ asid → IsInDecimal field.Asid asid
asid_in lo asid at = bits field.Asid (lo / 2 ^ 48) (2 ^ 16) asid at (lit< tt) refl refl (lit≤ tt) (lit≤ tt)

page_in : (hi page : ℕ) → hi / 2 ^ 12 % 2 ^ 52 ≡ page → IsInBytes field.Page page
page_in hi page at = address field.Page (hi / 2 ^ 12) (2 ^ 52) page at (lit< tt) refl refl (lit≤ tt) (lit≤ tt)

ipa_in : (hi page : ℕ) → hi / 2 ^ 12 % 2 ^ 40 ≡ page → IsInBytes field.IpaPage page
ipa_in hi page at = address field.IpaPage (hi / 2 ^ 12) (2 ^ 40) page at (lit< tt) refl refl (lit≤ tt) (lit≤ tt)

leaf_in : (leaf : Bool) → IsFlag field.Leaf leaf
leaf_in leaf = flag field.Leaf leaf refl refl refl

num_in : (lo num : ℕ) → lo / 2 ^ 12 % 2 ^ 5 ≡ num → IsInDecimal field.Num num
num_in lo num at = bits field.Num (lo / 2 ^ 12) (2 ^ 5) num at (lit< tt) refl refl (lit≤ tt) (lit≤ tt)

scale_in : (lo scale : ℕ) → lo / 2 ^ 20 % 2 ^ 5 ≡ scale → IsInDecimal field.Scale scale
scale_in lo scale at = bits field.Scale (lo / 2 ^ 20) (2 ^ 5) scale at (lit< tt) refl refl (lit≤ tt) (lit≤ tt)

-- ---- a command that is kept

kept_text : (raw : Raw) → is_kept (opcode_of raw) ≡ true → first_ill raw ≡ None → IsWritten field.Lo (hexadecimal raw.lo) raw.lo → IsWritten field.Hi (hexadecimal raw.hi) raw.hi
    → IsTextOf (text_of (Kept raw)) (Kept raw)
kept_text raw is legal lo hi =
    let n = opcode_of raw in
    elim (or_cases _ (n == 0x45) is) as (λ _. IsTextOf (text_of (Kept raw)) (Kept raw)) [
      | inr h ↦ kept op.StallTerm raw refl (eqb-true n 0x45 h) legal lo hi
      | inl four ↦ elim (or_cases _ (n == 0x44) four) as (λ _. IsTextOf (text_of (Kept raw)) (Kept raw)) [
        | inr h ↦ kept op.Resume raw refl (eqb-true n 0x44 h) legal lo hi
        | inl three ↦ elim (or_cases _ (n == 0x41) three) as (λ _. IsTextOf (text_of (Kept raw)) (Kept raw)) [
          | inr h ↦ kept op.PriResp raw refl (eqb-true n 0x41 h) legal lo hi
          | inl two ↦ elim (or_cases (n == 0x01) (n == 0x02) two) as (λ _. IsTextOf (text_of (Kept raw)) (Kept raw)) [
            | inr h ↦ kept op.PrefetchAddr raw refl (eqb-true n 0x02 h) legal lo hi
            | inl h ↦ kept op.PrefetchConfig raw refl (eqb-true n 0x01 h) legal lo hi
          ]
        ]
      ]
    ]

whole_word : (f : Field) (word : ℕ) → unit_of f ≡ 1 → least_of f ≡ 0 → most_of f ≡ 2 ^ 64 - 1 → word < 2 ^ 64 → IsWritten f (hexadecimal word) word
whole_word f word unit least most small =
    in_hexadecimal f word word (ap (λ u. word % u) unit ∙ omega arith) (ap (λ u. word / u) unit ∙ omega arith) (omega arith) (omega arith) small

-- ---- each command

pub text_of_spelled : (raw : Raw) (command : Command) → raw.lo < 2 ^ 64 → raw.hi < 2 ^ 64 → Spells raw command → IsTextOf (text_of command) command
text_of_spelled raw (CfgiSte sid leaf) low high ((o, secure, s), l) = cfgi_ste sid leaf (sid_in raw.lo sid s) (leaf_in leaf)
text_of_spelled raw (CfgiSteRange sid range) low high ((o, secure, s), r) =
    cfgi_ste_range sid range (sid_in raw.lo sid s) (bits field.Range (raw.hi / 1) (2 ^ 5) range r (lit< tt) refl refl (lit≤ tt) (lit≤ tt))
text_of_spelled raw (CfgiCd sid ssid leaf) low high ((o, secure, ss, s), l) = cfgi_cd sid ssid leaf (sid_in raw.lo sid s) (ssid_in raw.lo ssid ss) (leaf_in leaf)
text_of_spelled raw (CfgiCdAll sid) low high ((o, secure, s), hi) = cfgi_cd_all sid (sid_in raw.lo sid s)
text_of_spelled raw (TlbiNhAll vmid) low high ((o, v), hi) = tlbi_nh_all vmid (vmid_in raw.lo vmid v)
text_of_spelled raw (TlbiNhAsid vmid asid) low high ((o, v, a), hi) = tlbi_nh_asid vmid asid (vmid_in raw.lo vmid v) (asid_in raw.lo asid a)
text_of_spelled raw (TlbiNhVa vmid asid leaf page Page) low high ((o, v, a, steps), (l, g, p)) =
    tlbi_nh_va vmid asid leaf page Page (vmid_in raw.lo vmid v) (asid_in raw.lo asid a) (leaf_in leaf) (page_in raw.hi page p) tt
text_of_spelled raw (TlbiNhVa vmid asid leaf page (Range tg num scale)) low high ((o, v, a, (n, c)), (l, g, p)) =
    tlbi_nh_va vmid asid leaf page (Range tg num scale) (vmid_in raw.lo vmid v) (asid_in raw.lo asid a) (leaf_in leaf) (page_in raw.hi page p)
    (granule tg, num_in raw.lo num n, scale_in raw.lo scale c)
text_of_spelled raw (TlbiNhVaa vmid leaf page Page) low high ((o, v, steps), (l, g, p)) =
    tlbi_nh_vaa vmid leaf page Page (vmid_in raw.lo vmid v) (leaf_in leaf) (page_in raw.hi page p) tt
text_of_spelled raw (TlbiNhVaa vmid leaf page (Range tg num scale)) low high ((o, v, (n, c)), (l, g, p)) =
    tlbi_nh_vaa vmid leaf page (Range tg num scale) (vmid_in raw.lo vmid v) (leaf_in leaf) (page_in raw.hi page p)
    (granule tg, num_in raw.lo num n, scale_in raw.lo scale c)
text_of_spelled raw TlbiEl2All low high (o, hi) = tlbi_el2_all
text_of_spelled raw (TlbiEl2Asid asid) low high ((o, a), hi) = tlbi_el2_asid asid (asid_in raw.lo asid a)
text_of_spelled raw (TlbiEl2Va asid leaf page Page) low high ((o, a, steps), (l, g, p)) =
    tlbi_el2_va asid leaf page Page (asid_in raw.lo asid a) (leaf_in leaf) (page_in raw.hi page p) tt
text_of_spelled raw (TlbiEl2Va asid leaf page (Range tg num scale)) low high ((o, a, (n, c)), (l, g, p)) =
    tlbi_el2_va asid leaf page (Range tg num scale) (asid_in raw.lo asid a) (leaf_in leaf) (page_in raw.hi page p)
    (granule tg, num_in raw.lo num n, scale_in raw.lo scale c)
text_of_spelled raw (TlbiEl2Vaa leaf page Page) low high ((o, steps), (l, g, p)) = tlbi_el2_vaa leaf page Page (leaf_in leaf) (page_in raw.hi page p) tt
text_of_spelled raw (TlbiEl2Vaa leaf page (Range tg num scale)) low high ((o, (n, c)), (l, g, p)) =
    tlbi_el2_vaa leaf page (Range tg num scale) (leaf_in leaf) (page_in raw.hi page p) (granule tg, num_in raw.lo num n, scale_in raw.lo scale c)
text_of_spelled raw (TlbiS12Vmall vmid) low high ((o, v), hi) = tlbi_s12_vmall vmid (vmid_in raw.lo vmid v)
text_of_spelled raw (TlbiS2Ipa vmid leaf page Page) low high ((o, v, steps), (l, g, p)) =
    tlbi_s2_ipa vmid leaf page Page (vmid_in raw.lo vmid v) (leaf_in leaf) (ipa_in raw.hi page p) tt
text_of_spelled raw (TlbiS2Ipa vmid leaf page (Range tg num scale)) low high ((o, v, (n, c)), (l, g, p)) =
    tlbi_s2_ipa vmid leaf page (Range tg num scale) (vmid_in raw.lo vmid v) (leaf_in leaf) (ipa_in raw.hi page p)
    (granule tg, num_in raw.lo num n, scale_in raw.lo scale c)
text_of_spelled raw TlbiNsnhAll low high (o, hi) = tlbi_nsnh_all
text_of_spelled raw (AtcInv sid ssv ssid global size page) low high ((o, secure, g, v, ss, s), (z, most, p)) =
    atc_inv sid ssv ssid global size page (sid_in raw.lo sid s) (flag field.Ssv ssv refl refl refl) (ssid_in raw.lo ssid ss) (flag field.Global global refl refl refl)
    (in_decimal field.Size size refl (omega arith) most (omega arith)) (page_in raw.hi page p)
text_of_spelled raw (Kept words) low high ((lo, kept), hi) =
    kept_text words kept.0 kept.1 (whole_word field.Lo words.lo refl refl refl (omega arith)) (whole_word field.Hi words.hi refl refl refl (omega arith))
text_of_spelled raw (CmdSync cs msh attr «data» address) low high ((o, c, few, m, a, d), w) =
    cmd_sync cs msh attr «data» address (in_decimal field.Cs cs refl (omega arith) (omega arith) (omega arith))
    (bits field.Msh (raw.lo / 2 ^ 22) (2 ^ 2) msh m (lit< tt) refl refl (lit≤ tt) (lit≤ tt))
    (bits field.Attr (raw.lo / 2 ^ 24) (2 ^ 4) attr a (lit< tt) refl refl (lit≤ tt) (lit≤ tt))
    (bits field.Data (raw.lo / 2 ^ 32) (2 ^ 32) «data» d (lit< tt) refl refl (lit≤ tt) (lit≤ tt)) (msi_word (raw.hi / 2 ^ 2) address w)
