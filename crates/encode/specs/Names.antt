-- The commands by their names, and the fields of each.
use Rattle.std.specs.Prelude.{ℕ, List, [], ◌∷◌, Option, codes}
use Rattle.std.specs.List.{find}
use Rattle.std.specs.Str.{bytes_eq}
use Rattle.cmdcodec.specs.declared.opcode.Opcode.{Opcode}
use Rattle.cmdcodec.specs.declared.opcode.Opcode.TheVariants.{PrefetchConfig, PrefetchAddr, CfgiSte, CfgiSteRange, CfgiCd, CfgiCdAll, TlbiNhAll, TlbiNhAsid, TlbiNhVa, TlbiNhVaa, TlbiEl2All, TlbiEl2Asid, TlbiEl2Va, TlbiEl2Vaa, TlbiS12Vmall, TlbiS2Ipa, TlbiNsnhAll, AtcInv, PriResp, Resume, StallTerm, CmdSync}
use Rattle.encode.specs.declared.field.Field.{Field}
use Rattle.encode.specs.declared.field.Field.TheVariants as field

abbrev pub name_of : Opcode → List ℕ
name_of PrefetchConfig = codes "PREFETCH_CONFIG"
name_of PrefetchAddr = codes "PREFETCH_ADDR"
name_of CfgiSte = codes "CFGI_STE"
name_of CfgiSteRange = codes "CFGI_STE_RANGE"
name_of CfgiCd = codes "CFGI_CD"
name_of CfgiCdAll = codes "CFGI_CD_ALL"
name_of TlbiNhAll = codes "TLBI_NH_ALL"
name_of TlbiNhAsid = codes "TLBI_NH_ASID"
name_of TlbiNhVa = codes "TLBI_NH_VA"
name_of TlbiNhVaa = codes "TLBI_NH_VAA"
name_of TlbiEl2All = codes "TLBI_EL2_ALL"
name_of TlbiEl2Asid = codes "TLBI_EL2_ASID"
name_of TlbiEl2Va = codes "TLBI_EL2_VA"
name_of TlbiEl2Vaa = codes "TLBI_EL2_VAA"
name_of TlbiS12Vmall = codes "TLBI_S12_VMALL"
name_of TlbiS2Ipa = codes "TLBI_S2_IPA"
name_of TlbiNsnhAll = codes "TLBI_NSNH_ALL"
name_of AtcInv = codes "ATC_INV"
name_of PriResp = codes "PRI_RESP"
name_of Resume = codes "RESUME"
name_of StallTerm = codes "STALL_TERM"
name_of CmdSync = codes "CMD_SYNC"

abbrev pub all_opcodes : List Opcode
all_opcodes =
    PrefetchConfig ∷ PrefetchAddr ∷ CfgiSte ∷ CfgiSteRange ∷ CfgiCd ∷ CfgiCdAll ∷ TlbiNhAll ∷ TlbiNhAsid ∷ TlbiNhVa ∷ TlbiNhVaa ∷ TlbiEl2All ∷ TlbiEl2Asid
    ∷ TlbiEl2Va ∷ TlbiEl2Vaa ∷ TlbiS12Vmall ∷ TlbiS2Ipa ∷ TlbiNsnhAll ∷ AtcInv ∷ PriResp ∷ Resume ∷ StallTerm ∷ CmdSync ∷ []

-- the opcode whose name this is
unfoldable pub opcode_called : List ℕ → Option Opcode
opcode_called name = find (λ opcode. bytes_eq (name_of opcode) name) all_opcodes

-- pages from an address on, and how far; the three fields of a range may be left out
abbrev pub pages : List Field
pages = field.Leaf ∷ field.Page ∷ field.Tg ∷ field.Num ∷ field.Scale ∷ []

abbrev pub fields_of : Opcode → List Field
fields_of CfgiSte = field.Sid ∷ field.Leaf ∷ []
fields_of CfgiSteRange = field.Sid ∷ field.Range ∷ []
fields_of CfgiCd = field.Sid ∷ field.Ssid ∷ field.Leaf ∷ []
fields_of CfgiCdAll = field.Sid ∷ []
fields_of TlbiNhAll = field.Vmid ∷ []
fields_of TlbiNhAsid = field.Vmid ∷ field.Asid ∷ []
fields_of TlbiNhVa = field.Vmid ∷ field.Asid ∷ pages
fields_of TlbiNhVaa = field.Vmid ∷ pages
fields_of TlbiEl2All = []
fields_of TlbiEl2Asid = field.Asid ∷ []
fields_of TlbiEl2Va = field.Asid ∷ pages
fields_of TlbiEl2Vaa = pages
fields_of TlbiS12Vmall = field.Vmid ∷ []
fields_of TlbiS2Ipa = field.Vmid ∷ field.Leaf ∷ field.IpaPage ∷ field.Tg ∷ field.Num ∷ field.Scale ∷ []
fields_of TlbiNsnhAll = []
fields_of AtcInv = field.Sid ∷ field.Ssv ∷ field.Ssid ∷ field.Global ∷ field.Size ∷ field.Page ∷ []
fields_of CmdSync = field.Cs ∷ field.Msh ∷ field.Attr ∷ field.Data ∷ field.MsiWord ∷ []
fields_of PrefetchConfig = field.Lo ∷ field.Hi ∷ []
fields_of PrefetchAddr = field.Lo ∷ field.Hi ∷ []
fields_of PriResp = field.Lo ∷ field.Hi ∷ []
fields_of Resume = field.Lo ∷ field.Hi ∷ []
fields_of StallTerm = field.Lo ∷ field.Hi ∷ []
