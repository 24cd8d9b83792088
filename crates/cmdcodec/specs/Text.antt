-- The text of a command: one line, its fields separated by single spaces.
use Rattle.std.specs.Prelude.{ℕ, ◌*◌, ◌==◌, List, [], ◌++◌, codes, decimal, false, if◌then◌else◌}
use Rattle.std.specs.Fmt.{digits}
use Rattle.cmdcodec.specs.declared.raw.Raw.{Raw}
use Rattle.cmdcodec.specs.declared.by_address.ByAddress.{ByAddress}
use Rattle.cmdcodec.specs.declared.command.Command.{Command}
use Rattle.cmdcodec.specs.declared.command.Command.TheVariants.{CfgiSte, CfgiSteRange, CfgiCd, CfgiCdAll, TlbiNhAll, TlbiNhAsid, TlbiNhVa, TlbiNhVaa, TlbiEl2All, TlbiEl2Asid, TlbiEl2Va, TlbiEl2Vaa, TlbiS12Vmall, TlbiS2Ipa, TlbiNsnhAll, AtcInv, Kept, CmdSync}
use Rattle.cmdcodec.specs.declared.reach.Reach.{Reach}
use Rattle.cmdcodec.specs.declared.reach.Reach.TheVariants.{Page, Range}
use Rattle.cmdcodec.specs.Fields.{bit}
use Rattle.cmdcodec.specs.Opcodes.{opcode_of}
use Rattle.cmdcodec.specs.Spelling.{granule_number}

-- 0x and lower-case hexadecimal digits without leading zeros
abbrev pub hexadecimal : ℕ → List ℕ
hexadecimal n = codes "0x" ++ digits 16 false n

abbrev pub kept_name : ℕ → List ℕ
kept_name opcode =
    if opcode == 0x01 then codes "PREFETCH_CONFIG"
    else if opcode == 0x02 then codes "PREFETCH_ADDR"
    else if opcode == 0x41 then codes "PRI_RESP"
    else if opcode == 0x44 then codes "RESUME"
    else codes "STALL_TERM"

-- a kept command: its two words
abbrev pub kept_text : Raw → List ℕ
kept_text raw = kept_name (opcode_of raw) ++ codes " lo=" ++ hexadecimal raw.lo ++ codes " hi=" ++ hexadecimal raw.hi

abbrev pub reach_text : Reach → List ℕ
reach_text Page = []
reach_text (Range tg num scale) = codes " tg=" ++ decimal (granule_number tg) ++ codes " num=" ++ decimal num ++ codes " scale=" ++ decimal scale

-- the end of the text of an invalidation by address
abbrev pub pages_text : ByAddress → List ℕ
pages_text pages = codes " leaf=" ++ decimal (bit pages.leaf) ++ codes " addr=" ++ hexadecimal (pages.page * 4096) ++ reach_text pages.reach

unfoldable pub text_of : Command → List ℕ
text_of (CfgiSte sid leaf) = codes "CFGI_STE sid=" ++ decimal sid ++ codes " leaf=" ++ decimal (bit leaf)
text_of (CfgiSteRange sid range) = codes "CFGI_STE_RANGE sid=" ++ decimal sid ++ codes " range=" ++ decimal range
text_of (CfgiCd sid ssid leaf) = codes "CFGI_CD sid=" ++ decimal sid ++ codes " ssid=" ++ decimal ssid ++ codes " leaf=" ++ decimal (bit leaf)
text_of (CfgiCdAll sid) = codes "CFGI_CD_ALL sid=" ++ decimal sid
text_of (TlbiNhAll vmid) = codes "TLBI_NH_ALL vmid=" ++ decimal vmid
text_of (TlbiNhAsid vmid asid) = codes "TLBI_NH_ASID vmid=" ++ decimal vmid ++ codes " asid=" ++ decimal asid
text_of (TlbiNhVa vmid asid leaf page reach) = codes "TLBI_NH_VA vmid=" ++ decimal vmid ++ codes " asid=" ++ decimal asid ++ pages_text (record { leaf = leaf; page = page; reach = reach })
text_of (TlbiNhVaa vmid leaf page reach) = codes "TLBI_NH_VAA vmid=" ++ decimal vmid ++ pages_text (record { leaf = leaf; page = page; reach = reach })
text_of TlbiEl2All = codes "TLBI_EL2_ALL"
text_of (TlbiEl2Asid asid) = codes "TLBI_EL2_ASID asid=" ++ decimal asid
text_of (TlbiEl2Va asid leaf page reach) = codes "TLBI_EL2_VA asid=" ++ decimal asid ++ pages_text (record { leaf = leaf; page = page; reach = reach })
text_of (TlbiEl2Vaa leaf page reach) = codes "TLBI_EL2_VAA" ++ pages_text (record { leaf = leaf; page = page; reach = reach })
text_of (TlbiS12Vmall vmid) = codes "TLBI_S12_VMALL vmid=" ++ decimal vmid
text_of (TlbiS2Ipa vmid leaf page reach) = codes "TLBI_S2_IPA vmid=" ++ decimal vmid ++ pages_text (record { leaf = leaf; page = page; reach = reach })
text_of TlbiNsnhAll = codes "TLBI_NSNH_ALL"
text_of (AtcInv sid ssv ssid global size page) =
    codes "ATC_INV sid=" ++ decimal sid ++ codes " ssv=" ++ decimal (bit ssv) ++ codes " ssid=" ++ decimal ssid
    ++ codes " global=" ++ decimal (bit global) ++ codes " size=" ++ decimal size ++ codes " addr=" ++ hexadecimal (page * 4096)
text_of (Kept raw) = kept_text raw
text_of (CmdSync cs msh attr «data» address) =
    codes "CMD_SYNC cs=" ++ decimal cs ++ codes " msh=" ++ decimal msh ++ codes " attr=" ++ decimal attr
    ++ codes " data=" ++ decimal «data» ++ codes " addr=" ++ hexadecimal (address * 4)
