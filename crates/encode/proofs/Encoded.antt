-- The words of a command are of 64 bits.
use Rattle.std.proofs.Common.{◌^◌, ◌<◌, arith}
use Rattle.cmdcodec.specs.declared.raw.Raw.{Raw}
use Rattle.cmdcodec.specs.declared.command.Command.{Command}
use Rattle.cmdcodec.specs.declared.command.Command.TheVariants.{CfgiSte, CfgiSteRange, CfgiCd, CfgiCdAll, TlbiNhAll, TlbiNhAsid, TlbiNhVa, TlbiNhVaa, TlbiEl2All, TlbiEl2Asid, TlbiEl2Va, TlbiEl2Vaa, TlbiS12Vmall, TlbiS2Ipa, TlbiNsnhAll, AtcInv, Kept, CmdSync}
use Rattle.cmdcodec.specs.declared.reach.Reach.TheVariants.{Page, Range}
use Rattle.cmdcodec.specs.Spelling.{Spells}
use Rattle.cmdcodec.specs.Words.{encoding}
use Rattle.encode.proofs.SpelledAgain.{bit_small, granule_small}

-- both are below 2^64
abbrev pub AreWords : Raw → Type 0
AreWords raw = (raw.lo < 2 ^ 64) × (raw.hi < 2 ^ 64)

pub of_64_bits : (raw : Raw) (command : Command) → raw.lo < 2 ^ 64 → raw.hi < 2 ^ 64 → Spells raw command → AreWords (encoding command)
unfolding encoding
of_64_bits raw (CfgiSte sid leaf) low high ((o, secure, s), l) = let b = bit_small leaf in (omega arith, omega arith)
of_64_bits raw (CfgiSteRange sid range) low high ((o, secure, s), r) = (omega arith, omega arith)
of_64_bits raw (CfgiCd sid ssid leaf) low high ((o, secure, ss, s), l) = let b = bit_small leaf in (omega arith, omega arith)
of_64_bits raw (CfgiCdAll sid) low high ((o, secure, s), hi) = (omega arith, omega arith)
of_64_bits raw (TlbiNhAll vmid) low high ((o, v), hi) = (omega arith, omega arith)
of_64_bits raw (TlbiNhAsid vmid asid) low high ((o, v, a), hi) = (omega arith, omega arith)
of_64_bits raw (TlbiNhVa vmid asid leaf page Page) low high ((o, v, a, steps), (l, g, p)) = let b = bit_small leaf in (omega arith, omega arith)
of_64_bits raw (TlbiNhVa vmid asid leaf page (Range tg num scale)) low high ((o, v, a, (n, c)), (l, g, p)) =
    let b = bit_small leaf in let t = granule_small tg in (omega arith, omega arith)
of_64_bits raw (TlbiNhVaa vmid leaf page Page) low high ((o, v, steps), (l, g, p)) = let b = bit_small leaf in (omega arith, omega arith)
of_64_bits raw (TlbiNhVaa vmid leaf page (Range tg num scale)) low high ((o, v, (n, c)), (l, g, p)) =
    let b = bit_small leaf in let t = granule_small tg in (omega arith, omega arith)
of_64_bits raw TlbiEl2All low high (o, hi) = (omega arith, omega arith)
of_64_bits raw (TlbiEl2Asid asid) low high ((o, a), hi) = (omega arith, omega arith)
of_64_bits raw (TlbiEl2Va asid leaf page Page) low high ((o, a, steps), (l, g, p)) = let b = bit_small leaf in (omega arith, omega arith)
of_64_bits raw (TlbiEl2Va asid leaf page (Range tg num scale)) low high ((o, a, (n, c)), (l, g, p)) =
    let b = bit_small leaf in let t = granule_small tg in (omega arith, omega arith)
of_64_bits raw (TlbiEl2Vaa leaf page Page) low high ((o, steps), (l, g, p)) = let b = bit_small leaf in (omega arith, omega arith)
of_64_bits raw (TlbiEl2Vaa leaf page (Range tg num scale)) low high ((o, (n, c)), (l, g, p)) =
    let b = bit_small leaf in let t = granule_small tg in (omega arith, omega arith)
of_64_bits raw (TlbiS12Vmall vmid) low high ((o, v), hi) = (omega arith, omega arith)
of_64_bits raw (TlbiS2Ipa vmid leaf page Page) low high ((o, v, steps), (l, g, p)) = let b = bit_small leaf in (omega arith, omega arith)
of_64_bits raw (TlbiS2Ipa vmid leaf page (Range tg num scale)) low high ((o, v, (n, c)), (l, g, p)) =
    let b = bit_small leaf in let t = granule_small tg in (omega arith, omega arith)
of_64_bits raw TlbiNsnhAll low high (o, hi) = (omega arith, omega arith)
of_64_bits raw (AtcInv sid ssv ssid global size page) low high ((o, secure, g, v, ss, s), (z, most, p)) =
    let b = bit_small ssv in let d = bit_small global in (omega arith, omega arith)
of_64_bits raw (Kept words) low high ((lo, kept), hi) = (omega arith, omega arith)
of_64_bits raw (CmdSync cs msh attr «data» address) low high ((o, c, few, m, a, d), w) = (omega arith, omega arith)
