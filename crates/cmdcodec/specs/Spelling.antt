-- Which command two words spell, from the chapter on commands: the opcode is bits 7:0 of lo, and each field
-- of a command has an equation. Bits that no equation names are free.
use Rattle.std.specs.Prelude.{◌≡◌, ◌<◌, ◌≤◌, ℕ, ◌==◌, Option, Some, None, if◌then◌else◌}
use Rattle.cmdcodec.specs.declared.raw.Raw.{Raw}
use Rattle.cmdcodec.specs.declared.command.Command.{Command}
use Rattle.cmdcodec.specs.declared.command.Command.TheVariants.{CfgiSte, CfgiSteRange, CfgiCd, CfgiCdAll, TlbiNhAll, TlbiNhAsid, TlbiNhVa, TlbiNhVaa, TlbiEl2All, TlbiEl2Asid, TlbiEl2Va, TlbiEl2Vaa, TlbiS12Vmall, TlbiS2Ipa, TlbiNsnhAll, AtcInv, Kept, CmdSync}
use Rattle.cmdcodec.specs.declared.reach.Granule.{Granule}
use Rattle.cmdcodec.specs.declared.reach.Granule.TheVariants.{Kib4, Kib16, Kib64}
use Rattle.cmdcodec.specs.declared.reach.Reach.{Reach}
use Rattle.cmdcodec.specs.declared.reach.Reach.TheVariants.{Page, Range}
use Rattle.cmdcodec.specs.Fields.{field, bit}
use Rattle.cmdcodec.specs.Legality.{IsKept}

-- TG
abbrev pub granule_number : Granule → ℕ
granule_number Kib4 = 1
granule_number Kib16 = 2
granule_number Kib64 = 3

abbrev pub granule_named : ℕ → Option Granule
granule_named tg =
    if tg == 1 then Some Kib4
    else if tg == 2 then Some Kib16
    else if tg == 3 then Some Kib64
    else None

-- SSec is 0: the profile has no Secure streams.
abbrev pub IsNotSecure : ℕ → Type 0
IsNotSecure lo = field lo 10 10 ≡ 0

-- NUM and SCALE, which are free if TG is 0 and only the page is meant
abbrev pub SpellsSteps : ℕ → Reach → Type 0
SpellsSteps lo Page = Unit
SpellsSteps lo (Range tg num scale) = (field lo 16 12 ≡ num) × (field lo 24 20 ≡ scale)

abbrev pub SpellsInLo : ℕ → Command → Type 0
SpellsInLo lo (CfgiSte sid leaf) = (field lo 7 0 ≡ 0x03) × IsNotSecure lo × (field lo 63 32 ≡ sid)
SpellsInLo lo (CfgiSteRange sid range) = (field lo 7 0 ≡ 0x04) × IsNotSecure lo × (field lo 63 32 ≡ sid)
SpellsInLo lo (CfgiCd sid ssid leaf) = (field lo 7 0 ≡ 0x05) × IsNotSecure lo × (field lo 31 12 ≡ ssid) × (field lo 63 32 ≡ sid)
SpellsInLo lo (CfgiCdAll sid) = (field lo 7 0 ≡ 0x06) × IsNotSecure lo × (field lo 63 32 ≡ sid)
SpellsInLo lo (TlbiNhAll vmid) = (field lo 7 0 ≡ 0x10) × (field lo 47 32 ≡ vmid)
SpellsInLo lo (TlbiNhAsid vmid asid) = (field lo 7 0 ≡ 0x11) × (field lo 47 32 ≡ vmid) × (field lo 63 48 ≡ asid)
SpellsInLo lo (TlbiNhVa vmid asid leaf page reach) = (field lo 7 0 ≡ 0x12) × (field lo 47 32 ≡ vmid) × (field lo 63 48 ≡ asid) × SpellsSteps lo reach
SpellsInLo lo (TlbiNhVaa vmid leaf page reach) = (field lo 7 0 ≡ 0x13) × (field lo 47 32 ≡ vmid) × SpellsSteps lo reach
SpellsInLo lo TlbiEl2All = field lo 7 0 ≡ 0x20
SpellsInLo lo (TlbiEl2Asid asid) = (field lo 7 0 ≡ 0x21) × (field lo 63 48 ≡ asid)
SpellsInLo lo (TlbiEl2Va asid leaf page reach) = (field lo 7 0 ≡ 0x22) × (field lo 63 48 ≡ asid) × SpellsSteps lo reach
SpellsInLo lo (TlbiEl2Vaa leaf page reach) = (field lo 7 0 ≡ 0x23) × SpellsSteps lo reach
SpellsInLo lo (TlbiS12Vmall vmid) = (field lo 7 0 ≡ 0x28) × (field lo 47 32 ≡ vmid)
SpellsInLo lo (TlbiS2Ipa vmid leaf page reach) = (field lo 7 0 ≡ 0x2a) × (field lo 47 32 ≡ vmid) × SpellsSteps lo reach
SpellsInLo lo TlbiNsnhAll = field lo 7 0 ≡ 0x30
SpellsInLo lo (AtcInv sid ssv ssid global size page) =
    (field lo 7 0 ≡ 0x40) × IsNotSecure lo × (field lo 9 9 ≡ bit global) × (field lo 11 11 ≡ bit ssv) × (field lo 31 12 ≡ ssid) × (field lo 63 32 ≡ sid)
SpellsInLo lo (Kept words) = (lo ≡ words.lo) × IsKept words
SpellsInLo lo (CmdSync cs msh attr «data» address) =
    (field lo 7 0 ≡ 0x46) × (field lo 13 12 ≡ cs) × (cs < 3) × (field lo 23 22 ≡ msh) × (field lo 27 24 ≡ attr) × (field lo 63 32 ≡ «data»)

-- TG: 0 for a single page
abbrev pub SpellsGranule : ℕ → Reach → Type 0
SpellsGranule hi Page = field hi 11 10 ≡ 0
SpellsGranule hi (Range tg num scale) = field hi 11 10 ≡ granule_number tg

abbrev pub SpellsInHi : ℕ → Command → Type 0
SpellsInHi hi (CfgiSte sid leaf) = field hi 0 0 ≡ bit leaf
SpellsInHi hi (CfgiSteRange sid range) = field hi 4 0 ≡ range
SpellsInHi hi (CfgiCd sid ssid leaf) = field hi 0 0 ≡ bit leaf
SpellsInHi hi (TlbiNhVa vmid asid leaf page reach) = (field hi 0 0 ≡ bit leaf) × SpellsGranule hi reach × (field hi 63 12 ≡ page)
SpellsInHi hi (TlbiNhVaa vmid leaf page reach) = (field hi 0 0 ≡ bit leaf) × SpellsGranule hi reach × (field hi 63 12 ≡ page)
SpellsInHi hi (TlbiEl2Va asid leaf page reach) = (field hi 0 0 ≡ bit leaf) × SpellsGranule hi reach × (field hi 63 12 ≡ page)
SpellsInHi hi (TlbiEl2Vaa leaf page reach) = (field hi 0 0 ≡ bit leaf) × SpellsGranule hi reach × (field hi 63 12 ≡ page)
SpellsInHi hi (TlbiS2Ipa vmid leaf page reach) = (field hi 0 0 ≡ bit leaf) × SpellsGranule hi reach × (field hi 51 12 ≡ page)
SpellsInHi hi (AtcInv sid ssv ssid global size page) = (field hi 5 0 ≡ size) × (size ≤ 52) × (field hi 63 12 ≡ page)
SpellsInHi hi (Kept words) = hi ≡ words.hi
SpellsInHi hi (CmdSync cs msh attr «data» address) = field hi 51 2 ≡ address
SpellsInHi hi without_fields = Unit

-- The words spell the command.
abbrev pub Spells : Raw → Command → Type 0
Spells raw command = SpellsInLo raw.lo command × SpellsInHi raw.hi command
