-- The words of a command, with all free bits 0, spell it.
use Rattle.std.proofs.Common.{◌<◌, Bool, true, false, refl, arith}
use Rattle.cmdcodec.specs.declared.raw.Raw.{Raw}
use Rattle.cmdcodec.specs.declared.command.Command.{Command}
use Rattle.cmdcodec.specs.declared.command.Command.TheVariants.{CfgiSte, CfgiSteRange, CfgiCd, CfgiCdAll, TlbiNhAll, TlbiNhAsid, TlbiNhVa, TlbiNhVaa, TlbiEl2All, TlbiEl2Asid, TlbiEl2Va, TlbiEl2Vaa, TlbiS12Vmall, TlbiS2Ipa, TlbiNsnhAll, AtcInv, Kept, CmdSync}
use Rattle.cmdcodec.specs.declared.reach.Granule.{Granule}
use Rattle.cmdcodec.specs.declared.reach.Granule.TheVariants.{Kib4, Kib16, Kib64}
use Rattle.cmdcodec.specs.declared.reach.Reach.TheVariants.{Page, Range}
use Rattle.cmdcodec.specs.Fields.{bit}
use Rattle.cmdcodec.specs.Spelling.{Spells, granule_number}
use Rattle.cmdcodec.specs.Words.{encoding}

pub bit_small : (b : Bool) → bit b < 2
bit_small true = omega arith
bit_small false = omega arith

pub granule_small : (tg : Granule) → granule_number tg < 4
granule_small Kib4 = omega arith
granule_small Kib16 = omega arith
granule_small Kib64 = omega arith

pub spelled_again : (raw : Raw) (command : Command) → Spells raw command → Spells (encoding command) command
unfolding encoding
spelled_again raw (CfgiSte sid leaf) ((o, secure, s), l) = let b = bit_small leaf in ((omega arith, omega arith, omega arith), omega arith)
spelled_again raw (CfgiSteRange sid range) ((o, secure, s), r) = ((omega arith, omega arith, omega arith), omega arith)
spelled_again raw (CfgiCd sid ssid leaf) ((o, secure, ss, s), l) = let b = bit_small leaf in ((omega arith, omega arith, omega arith, omega arith), omega arith)
spelled_again raw (CfgiCdAll sid) ((o, secure, s), hi) = ((omega arith, omega arith, omega arith), tt)
spelled_again raw (TlbiNhAll vmid) ((o, v), hi) = ((omega arith, omega arith), tt)
spelled_again raw (TlbiNhAsid vmid asid) ((o, v, a), hi) = ((omega arith, omega arith, omega arith), tt)
spelled_again raw (TlbiNhVa vmid asid leaf page Page) ((o, v, a, steps), (l, g, p)) =
    let b = bit_small leaf in ((omega arith, omega arith, omega arith, tt), (omega arith, omega arith, omega arith))
spelled_again raw (TlbiNhVa vmid asid leaf page (Range tg num scale)) ((o, v, a, (n, c)), (l, g, p)) =
    let b = bit_small leaf in
    let t = granule_small tg in
    ((omega arith, omega arith, omega arith, (omega arith, omega arith)), (omega arith, omega arith, omega arith))
spelled_again raw (TlbiNhVaa vmid leaf page Page) ((o, v, steps), (l, g, p)) =
    let b = bit_small leaf in ((omega arith, omega arith, tt), (omega arith, omega arith, omega arith))
spelled_again raw (TlbiNhVaa vmid leaf page (Range tg num scale)) ((o, v, (n, c)), (l, g, p)) =
    let b = bit_small leaf in
    let t = granule_small tg in
    ((omega arith, omega arith, (omega arith, omega arith)), (omega arith, omega arith, omega arith))
spelled_again raw TlbiEl2All (o, hi) = (refl, tt)
spelled_again raw (TlbiEl2Asid asid) ((o, a), hi) = ((omega arith, omega arith), tt)
spelled_again raw (TlbiEl2Va asid leaf page Page) ((o, a, steps), (l, g, p)) =
    let b = bit_small leaf in ((omega arith, omega arith, tt), (omega arith, omega arith, omega arith))
spelled_again raw (TlbiEl2Va asid leaf page (Range tg num scale)) ((o, a, (n, c)), (l, g, p)) =
    let b = bit_small leaf in
    let t = granule_small tg in
    ((omega arith, omega arith, (omega arith, omega arith)), (omega arith, omega arith, omega arith))
spelled_again raw (TlbiEl2Vaa leaf page Page) ((o, steps), (l, g, p)) =
    let b = bit_small leaf in ((refl, tt), (omega arith, omega arith, omega arith))
spelled_again raw (TlbiEl2Vaa leaf page (Range tg num scale)) ((o, (n, c)), (l, g, p)) =
    let b = bit_small leaf in
    let t = granule_small tg in
    ((omega arith, (omega arith, omega arith)), (omega arith, omega arith, omega arith))
spelled_again raw (TlbiS12Vmall vmid) ((o, v), hi) = ((omega arith, omega arith), tt)
spelled_again raw (TlbiS2Ipa vmid leaf page Page) ((o, v, steps), (l, g, p)) =
    let b = bit_small leaf in ((omega arith, omega arith, tt), (omega arith, omega arith, omega arith))
spelled_again raw (TlbiS2Ipa vmid leaf page (Range tg num scale)) ((o, v, (n, c)), (l, g, p)) =
    let b = bit_small leaf in
    let t = granule_small tg in
    ((omega arith, omega arith, (omega arith, omega arith)), (omega arith, omega arith, omega arith))
spelled_again raw TlbiNsnhAll (o, hi) = (refl, tt)
spelled_again raw (AtcInv sid ssv ssid global size page) ((o, secure, g, v, ss, s), (z, most, p)) =
    let b = bit_small ssv in
    let d = bit_small global in
    ((omega arith, omega arith, omega arith, omega arith, omega arith, omega arith), (omega arith, most, omega arith))
spelled_again raw (Kept words) ((lo, kept), hi) = ((refl, kept), refl)
spelled_again raw (CmdSync cs msh attr «data» address) ((o, c, few, m, a, d), w) =
    ((omega arith, omega arith, few, omega arith, omega arith, omega arith), omega arith)
