-- Which commands an SMMU has. The description of each that it may lack says: CERROR_ILL where the SMMU doesn't have it.
use Rattle.std.specs.Prelude.{◌≡◌, ℕ, ◌^◌, ◌==◌, ◌&&◌, ◌||◌, nat_lt, Bool, true, false, not, Option, Some, None, if◌then◌else◌}
use Rattle.std.specs.Option.{option_map_or}
use Rattle.cmdcodec.specs.declared.raw.Raw.{Raw}
use Rattle.cmdcodec.specs.declared.ill.Ill.{Ill}
use Rattle.cmdcodec.specs.declared.ill.Ill.TheVariants.{UnknownOpcode, SecureStream}
use Rattle.cmdcodec.specs.declared.opcode.Opcode.{Opcode}
use Rattle.cmdcodec.specs.declared.opcode.Opcode.TheVariants.{PrefetchConfig, PrefetchAddr, CfgiCd, CfgiCdAll, TlbiNhAll, TlbiNhAsid, TlbiNhVa, TlbiNhVaa, TlbiEl2All, TlbiEl2Asid, TlbiEl2Va, TlbiEl2Vaa, TlbiS12Vmall, TlbiS2Ipa, AtcInv, PriResp, Resume, StallTerm}
use Rattle.cmdcodec.specs.Fields.{field}
use Rattle.cmdcodec.specs.Legality.{first_ill}
use Rattle.cmdcodec.specs.Opcodes.{opcode_of, opcode_named}
use Rattle.smmu_features.specs.declared.smmu.Smmu.{Smmu}

-- CMD_CFGI_CD, CMD_CFGI_CD_ALL and CMD_TLBI_NH_..: if it has stage 1. CMD_TLBI_EL2_..: if it has Hyp. CMD_TLBI_S12_VMALL and
-- CMD_TLBI_S2_IPA: if it has stage 2. CMD_ATC_INV: if it has ATS. CMD_PRI_RESP: if it has PRI. CMD_RESUME and CMD_STALL_TERM:
-- if it stalls. All others: always.
abbrev pub has_command : Smmu → Opcode → Bool
has_command smmu CfgiCd = smmu.stage_1
has_command smmu CfgiCdAll = smmu.stage_1
has_command smmu TlbiNhAll = smmu.stage_1
has_command smmu TlbiNhAsid = smmu.stage_1
has_command smmu TlbiNhVa = smmu.stage_1
has_command smmu TlbiNhVaa = smmu.stage_1
has_command smmu TlbiEl2All = smmu.hypervisor
has_command smmu TlbiEl2Asid = smmu.hypervisor
has_command smmu TlbiEl2Va = smmu.hypervisor
has_command smmu TlbiEl2Vaa = smmu.hypervisor
has_command smmu TlbiS12Vmall = smmu.stage_2
has_command smmu TlbiS2Ipa = smmu.stage_2
has_command smmu AtcInv = smmu.ats
has_command smmu PriResp = smmu.pri
has_command smmu Resume = smmu.stalls
has_command smmu StallTerm = smmu.stalls
has_command smmu other = true

-- SMMU_IDR1.SSIDSIZE isn't 0
abbrev pub has_substreams : Smmu → Bool
has_substreams smmu = nat_lt 0 smmu.substream_bits

-- It has the accesses that SSV, SubstreamID and Global say: with SSV 1 those of substreams, of one with no more than
-- SMMU_IDR1.SSIDSIZE bits where Global is 0.
abbrev pub has_accesses : Smmu → Bool → ℕ → Bool → Bool
has_accesses smmu ssv ssid global = not ssv || (has_substreams smmu && (global || nat_lt ssid (2 ^ smmu.substream_bits)))

-- SSV is bit 11, SubstreamID 31:12, and Global 9
abbrev pub has_accesses_of : Smmu → Raw → Bool → Bool
has_accesses_of smmu raw global = has_accesses smmu (field raw.lo 11 11 == 1) (field raw.lo 31 12) global

-- It has the accesses that the words are for: CMD_PREFETCH_.., which have no Global, and CMD_ATC_INV name some.
abbrev pub has_accesses_in : Smmu → Raw → Opcode → Bool
has_accesses_in smmu raw PrefetchConfig = has_accesses_of smmu raw false
has_accesses_in smmu raw PrefetchAddr = has_accesses_of smmu raw false
has_accesses_in smmu raw AtcInv = has_accesses_of smmu raw (field raw.lo 9 9 == 1)
has_accesses_in smmu raw other = true

-- CMD_RESUME and CMD_STALL_TERM have SSec too, for a Secure stream.
abbrev pub is_of_stall : Option Opcode → Bool
is_of_stall (Some Resume) = true
is_of_stall (Some StallTerm) = true
is_of_stall other = false

abbrev pub is_secure_stall : Raw → Bool
is_secure_stall raw = is_of_stall (opcode_named (opcode_of raw)) && field raw.lo 10 10 == 1

-- The words are legal for the SMMU: legal by themselves, for no Secure stream, and of a command and accesses that it has.
pub record IsLegalFor (smmu : Smmu) (raw : Raw) : Type 0 where
  pub words : first_ill raw ≡ None
  pub non_secure : is_secure_stall raw ≡ false
  pub had : (opcode : Opcode) → opcode_named (opcode_of raw) ≡ Some opcode → has_command smmu opcode ≡ true
  pub accesses : (opcode : Opcode) → opcode_named (opcode_of raw) ≡ Some opcode → has_accesses_in smmu raw opcode ≡ true

-- the words have the opcode of a command that the SMMU doesn't have, or are for accesses that it doesn't have
abbrev pub lacks : Smmu → Raw → Option Opcode → Bool
lacks smmu raw opcode = option_map_or (λ it. not (has_command smmu it && has_accesses_in smmu raw it)) opcode false

-- the first fault of the words for the SMMU, if any
abbrev pub first_ill_for : Smmu → Raw → Option Ill
first_ill_for smmu raw =
    if lacks smmu raw (opcode_named (opcode_of raw)) then Some UnknownOpcode
    else if is_secure_stall raw then Some SecureStream
    else first_ill raw
