-- The opcodes of the profile, from the chapter on commands. The opcode is bits 7:0 of lo.
use Rattle.std.specs.Prelude.{ℕ, ◌==◌, ◌||◌, Bool, Option, Some, None, if◌then◌else◌}
use Rattle.cmdcodec.specs.declared.raw.Raw.{Raw}
use Rattle.cmdcodec.specs.declared.opcode.Opcode.{Opcode}
use Rattle.cmdcodec.specs.declared.opcode.Opcode.TheVariants.{PrefetchConfig, PrefetchAddr, CfgiSte, CfgiSteRange, CfgiCd, CfgiCdAll, TlbiNhAll, TlbiNhAsid, TlbiNhVa, TlbiNhVaa, TlbiEl2All, TlbiEl2Asid, TlbiEl2Va, TlbiEl2Vaa, TlbiS12Vmall, TlbiS2Ipa, TlbiNsnhAll, AtcInv, PriResp, Resume, StallTerm, CmdSync}
use Rattle.cmdcodec.specs.Fields.{field}

abbrev pub opcode_of : Raw → ℕ
opcode_of raw = field raw.lo 7 0

abbrev pub number_of : Opcode → ℕ
number_of PrefetchConfig = 0x01
number_of PrefetchAddr = 0x02
number_of CfgiSte = 0x03
number_of CfgiSteRange = 0x04
number_of CfgiCd = 0x05
number_of CfgiCdAll = 0x06
number_of TlbiNhAll = 0x10
number_of TlbiNhAsid = 0x11
number_of TlbiNhVa = 0x12
number_of TlbiNhVaa = 0x13
number_of TlbiEl2All = 0x20
number_of TlbiEl2Asid = 0x21
number_of TlbiEl2Va = 0x22
number_of TlbiEl2Vaa = 0x23
number_of TlbiS12Vmall = 0x28
number_of TlbiS2Ipa = 0x2a
number_of TlbiNsnhAll = 0x30
number_of AtcInv = 0x40
number_of PriResp = 0x41
number_of Resume = 0x44
number_of StallTerm = 0x45
number_of CmdSync = 0x46

unfoldable pub opcode_named : ℕ → Option Opcode
opcode_named number =
    if number == 0x01 then Some PrefetchConfig
    else if number == 0x02 then Some PrefetchAddr
    else if number == 0x03 then Some CfgiSte
    else if number == 0x04 then Some CfgiSteRange
    else if number == 0x05 then Some CfgiCd
    else if number == 0x06 then Some CfgiCdAll
    else if number == 0x10 then Some TlbiNhAll
    else if number == 0x11 then Some TlbiNhAsid
    else if number == 0x12 then Some TlbiNhVa
    else if number == 0x13 then Some TlbiNhVaa
    else if number == 0x20 then Some TlbiEl2All
    else if number == 0x21 then Some TlbiEl2Asid
    else if number == 0x22 then Some TlbiEl2Va
    else if number == 0x23 then Some TlbiEl2Vaa
    else if number == 0x28 then Some TlbiS12Vmall
    else if number == 0x2a then Some TlbiS2Ipa
    else if number == 0x30 then Some TlbiNsnhAll
    else if number == 0x40 then Some AtcInv
    else if number == 0x41 then Some PriResp
    else if number == 0x44 then Some Resume
    else if number == 0x45 then Some StallTerm
    else if number == 0x46 then Some CmdSync
    else None

-- Whether the opcode is CMD_SYNC's, whatever the other fields say.
abbrev pub is_sync : Raw → Bool
is_sync raw = opcode_of raw == number_of CmdSync

-- Opcodes whose commands are kept as they are: the profile says nothing about their fields.
abbrev pub is_kept : ℕ → Bool
is_kept number = number == 0x01 || number == 0x02 || number == 0x41 || number == 0x44 || number == 0x45
