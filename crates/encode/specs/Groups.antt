-- Opcodes in groups.
use Rattle.std.specs.Prelude.{Bool, true, false}
use Rattle.cmdcodec.specs.declared.opcode.Opcode.{Opcode}
use Rattle.cmdcodec.specs.declared.opcode.Opcode.TheVariants.{CfgiSte, CfgiSteRange, CfgiCd, CfgiCdAll, TlbiNhAll, TlbiNhAsid, TlbiEl2All, TlbiEl2Asid, TlbiS12Vmall, TlbiNsnhAll}

-- an invalidation of configurations
abbrev pub is_configuration : Opcode → Bool
is_configuration CfgiSte = true
is_configuration CfgiSteRange = true
is_configuration CfgiCd = true
is_configuration CfgiCdAll = true
is_configuration other = false

-- an invalidation of translations without an address
abbrev pub is_of_all_pages : Opcode → Bool
is_of_all_pages TlbiNhAll = true
is_of_all_pages TlbiNhAsid = true
is_of_all_pages TlbiEl2All = true
is_of_all_pages TlbiEl2Asid = true
is_of_all_pages TlbiS12Vmall = true
is_of_all_pages TlbiNsnhAll = true
is_of_all_pages other = false
