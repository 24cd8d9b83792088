-- Decoding and encoding as functions. `decode` and `encode` ensure that they agree with the spelling.
use Rattle.std.specs.Prelude.{ℕ, ◌+◌, ◌*◌, ◌^◌, ◌==◌, Option, Some, None, Result, Ok, Err}
use Rattle.cmdcodec.specs.declared.raw.Raw.{Raw}
use Rattle.cmdcodec.specs.declared.ill.Ill.{Ill}
use Rattle.cmdcodec.specs.declared.ill.Ill.TheVariants.{UnknownOpcode}
use Rattle.cmdcodec.specs.declared.opcode.Opcode.{Opcode}
use Rattle.cmdcodec.specs.declared.opcode.Opcode.TheVariants as op
use Rattle.cmdcodec.specs.declared.command.Command.{Command}
use Rattle.cmdcodec.specs.declared.command.Command.TheVariants.{CfgiSte, CfgiSteRange, CfgiCd, CfgiCdAll, TlbiNhAll, TlbiNhAsid, TlbiNhVa, TlbiNhVaa, TlbiEl2All, TlbiEl2Asid, TlbiEl2Va, TlbiEl2Vaa, TlbiS12Vmall, TlbiS2Ipa, TlbiNsnhAll, AtcInv, Kept, CmdSync}
use Rattle.cmdcodec.specs.declared.reach.Granule.{Granule}
use Rattle.cmdcodec.specs.declared.reach.Reach.{Reach}
use Rattle.cmdcodec.specs.declared.reach.Reach.TheVariants.{Page, Range}
use Rattle.cmdcodec.specs.Fields.{field, bit}
use Rattle.cmdcodec.specs.Opcodes.{opcode_of, opcode_named}
use Rattle.cmdcodec.specs.Spelling.{granule_number, granule_named}
use Rattle.cmdcodec.specs.Legality.{first_ill}

-- by TG, NUM and SCALE
abbrev pub reach_by : Option Granule → ℕ → ℕ → Reach
reach_by None num scale = Page
reach_by (Some tg) num scale = Range tg num scale

abbrev pub reach_in : Raw → Reach
reach_in raw = reach_by (granule_named (field raw.hi 11 10)) (field raw.lo 16 12) (field raw.lo 24 20)

-- the command of this opcode, with its fields read from the words
abbrev pub command_with : Opcode → Raw → Command
command_with op.CfgiSte raw = CfgiSte (field raw.lo 63 32) (field raw.hi 0 0 == 1)
command_with op.CfgiSteRange raw = CfgiSteRange (field raw.lo 63 32) (field raw.hi 4 0)
command_with op.CfgiCd raw = CfgiCd (field raw.lo 63 32) (field raw.lo 31 12) (field raw.hi 0 0 == 1)
command_with op.CfgiCdAll raw = CfgiCdAll (field raw.lo 63 32)
command_with op.TlbiNhAll raw = TlbiNhAll (field raw.lo 47 32)
command_with op.TlbiNhAsid raw = TlbiNhAsid (field raw.lo 47 32) (field raw.lo 63 48)
command_with op.TlbiNhVa raw =
    TlbiNhVa (field raw.lo 47 32) (field raw.lo 63 48) (field raw.hi 0 0 == 1) (field raw.hi 63 12) (reach_in raw)
command_with op.TlbiNhVaa raw =
    TlbiNhVaa (field raw.lo 47 32) (field raw.hi 0 0 == 1) (field raw.hi 63 12) (reach_in raw)
command_with op.TlbiEl2All raw = TlbiEl2All
command_with op.TlbiEl2Asid raw = TlbiEl2Asid (field raw.lo 63 48)
command_with op.TlbiEl2Va raw =
    TlbiEl2Va (field raw.lo 63 48) (field raw.hi 0 0 == 1) (field raw.hi 63 12) (reach_in raw)
command_with op.TlbiEl2Vaa raw = TlbiEl2Vaa (field raw.hi 0 0 == 1) (field raw.hi 63 12) (reach_in raw)
command_with op.TlbiS12Vmall raw = TlbiS12Vmall (field raw.lo 47 32)
command_with op.TlbiS2Ipa raw =
    TlbiS2Ipa (field raw.lo 47 32) (field raw.hi 0 0 == 1) (field raw.hi 51 12) (reach_in raw)
command_with op.TlbiNsnhAll raw = TlbiNsnhAll
command_with op.AtcInv raw =
    AtcInv (field raw.lo 63 32) (field raw.lo 11 11 == 1) (field raw.lo 31 12) (field raw.lo 9 9 == 1) (field raw.hi 5 0) (field raw.hi 63 12)
command_with op.CmdSync raw =
    CmdSync (field raw.lo 13 12) (field raw.lo 23 22) (field raw.lo 27 24) (field raw.lo 63 32) (field raw.hi 51 2)
command_with kept raw = Kept raw

abbrev pub command_or_ill : Option Opcode → Option Ill → Raw → Result Command Ill
command_or_ill None ill raw = Err UnknownOpcode
command_or_ill (Some opcode) (Some ill) raw = Err ill
command_or_ill (Some opcode) None raw = Ok (command_with opcode raw)

-- the command that the words spell, or the fault of illegal words
unfoldable pub decoding : Raw → Result Command Ill
decoding raw = command_or_ill (opcode_named (opcode_of raw)) (first_ill raw) raw

-- NUM and SCALE, in lo
abbrev pub steps_word : Reach → ℕ
steps_word Page = 0
steps_word (Range tg num scale) = num * 2 ^ 12 + scale * 2 ^ 20

-- TG, in hi
abbrev pub granule_word : Reach → ℕ
granule_word Page = 0
granule_word (Range tg num scale) = granule_number tg * 2 ^ 10

-- the words that spell the command, with every free bit 0
unfoldable pub encoding : Command → Raw
encoding (CfgiSte sid leaf) = record { lo = 0x03 + sid * 2 ^ 32; hi = bit leaf }
encoding (CfgiSteRange sid range) = record { lo = 0x04 + sid * 2 ^ 32; hi = range }
encoding (CfgiCd sid ssid leaf) = record { lo = 0x05 + ssid * 2 ^ 12 + sid * 2 ^ 32; hi = bit leaf }
encoding (CfgiCdAll sid) = record { lo = 0x06 + sid * 2 ^ 32; hi = 0 }
encoding (TlbiNhAll vmid) = record { lo = 0x10 + vmid * 2 ^ 32; hi = 0 }
encoding (TlbiNhAsid vmid asid) = record { lo = 0x11 + vmid * 2 ^ 32 + asid * 2 ^ 48; hi = 0 }
encoding (TlbiNhVa vmid asid leaf page reach) =
    record { lo = 0x12 + steps_word reach + vmid * 2 ^ 32 + asid * 2 ^ 48; hi = bit leaf + granule_word reach + page * 2 ^ 12 }
encoding (TlbiNhVaa vmid leaf page reach) =
    record { lo = 0x13 + steps_word reach + vmid * 2 ^ 32; hi = bit leaf + granule_word reach + page * 2 ^ 12 }
encoding TlbiEl2All = record { lo = 0x20; hi = 0 }
encoding (TlbiEl2Asid asid) = record { lo = 0x21 + asid * 2 ^ 48; hi = 0 }
encoding (TlbiEl2Va asid leaf page reach) =
    record { lo = 0x22 + steps_word reach + asid * 2 ^ 48; hi = bit leaf + granule_word reach + page * 2 ^ 12 }
encoding (TlbiEl2Vaa leaf page reach) =
    record { lo = 0x23 + steps_word reach; hi = bit leaf + granule_word reach + page * 2 ^ 12 }
encoding (TlbiS12Vmall vmid) = record { lo = 0x28 + vmid * 2 ^ 32; hi = 0 }
encoding (TlbiS2Ipa vmid leaf page reach) =
    record { lo = 0x2a + steps_word reach + vmid * 2 ^ 32; hi = bit leaf + granule_word reach + page * 2 ^ 12 }
encoding TlbiNsnhAll = record { lo = 0x30; hi = 0 }
encoding (AtcInv sid ssv ssid global size page) =
    record { lo = 0x40 + bit global * 2 ^ 9 + bit ssv * 2 ^ 11 + ssid * 2 ^ 12 + sid * 2 ^ 32; hi = size + page * 2 ^ 12 }
encoding (Kept raw) = raw
encoding (CmdSync cs msh attr «data» address) =
    record { lo = 0x46 + cs * 2 ^ 12 + msh * 2 ^ 22 + attr * 2 ^ 24 + «data» * 2 ^ 32; hi = address * 2 ^ 2 }
