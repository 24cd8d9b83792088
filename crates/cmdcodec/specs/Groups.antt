-- Commands in groups.
use Rattle.std.specs.Prelude.{Bool, true, false}
use Rattle.cmdcodec.specs.declared.command.Command.{Command}
use Rattle.cmdcodec.specs.declared.command.Command.TheVariants.{CfgiSte, CfgiSteRange, CfgiCd, CfgiCdAll, TlbiNhAll, TlbiNhAsid, TlbiEl2All, TlbiEl2Asid, TlbiS12Vmall, TlbiNsnhAll, AtcInv, CmdSync}

abbrev pub is_configuration : Command → Bool
is_configuration (CfgiSte sid leaf) = true
is_configuration (CfgiSteRange sid range) = true
is_configuration (CfgiCd sid ssid leaf) = true
is_configuration (CfgiCdAll sid) = true
is_configuration other = false

-- an invalidation of translations without an address
abbrev pub is_of_all_pages : Command → Bool
is_of_all_pages (TlbiNhAll vmid) = true
is_of_all_pages (TlbiNhAsid vmid asid) = true
is_of_all_pages TlbiEl2All = true
is_of_all_pages (TlbiEl2Asid asid) = true
is_of_all_pages (TlbiS12Vmall vmid) = true
is_of_all_pages TlbiNsnhAll = true
is_of_all_pages other = false

abbrev pub is_atc_inv : Command → Bool
is_atc_inv (AtcInv sid ssv ssid global size page) = true
is_atc_inv other = false

abbrev pub is_sync : Command → Bool
is_sync (CmdSync cs msh attr «data» address) = true
is_sync other = false
