-- Commands that aren't legal for an SMMU without what they are for.
use Rattle.std.proofs.Common.{◌≡◌, ℕ, true, false, refl}
use Rattle.cmdcodec.specs.declared.raw.Raw.{Raw}
use Rattle.cmdcodec.specs.declared.opcode.Opcode.TheVariants.{PrefetchConfig, PrefetchAddr, CfgiCd, CfgiCdAll, TlbiNhAll, TlbiNhAsid, TlbiNhVa, TlbiNhVaa, TlbiEl2All, TlbiEl2Asid, TlbiEl2Va, TlbiEl2Vaa, TlbiS12Vmall, TlbiS2Ipa, AtcInv, PriResp, Resume, StallTerm}
use Rattle.cmdcodec.specs.Opcodes.{opcode_named}
use Rattle.smmu_features.specs.declared.smmu.Smmu.{Smmu}
use Rattle.smmu_features.specs.Commands.{IsLegalFor}

abbrev bare : Smmu
bare = record {
  range_invalidation = false;
  stage_1 = false;
  stage_2 = false;
  ats = false;
  pri = false;
  hypervisor = false;
  stalls = false;
  wide_asids = false;
  wide_vmids = false;
  substream_bits = 0;
  stream_bits = 0;
  granules = record { kib4 = false; kib16 = false; kib64 = false };
}

abbrev word : ℕ → Raw
word lo = record { lo = lo; hi = 0 }

-- A command with this opcode isn't legal for it.
abbrev Lacks : ℕ → Type 0
Lacks opcode = IsLegalFor bare (word opcode) → ⊥

pub no_nh_all_without_stage_1 : Lacks 0x10
unfolding opcode_named
no_nh_all_without_stage_1 legal = let had : false ≡ true = legal.had TlbiNhAll refl in cc

pub no_nh_asid_without_stage_1 : Lacks 0x11
unfolding opcode_named
no_nh_asid_without_stage_1 legal = let had : false ≡ true = legal.had TlbiNhAsid refl in cc

pub no_nh_va_without_stage_1 : Lacks 0x12
unfolding opcode_named
no_nh_va_without_stage_1 legal = let had : false ≡ true = legal.had TlbiNhVa refl in cc

pub no_nh_vaa_without_stage_1 : Lacks 0x13
unfolding opcode_named
no_nh_vaa_without_stage_1 legal = let had : false ≡ true = legal.had TlbiNhVaa refl in cc

pub no_el2_all_without_hyp : Lacks 0x20
unfolding opcode_named
no_el2_all_without_hyp legal = let had : false ≡ true = legal.had TlbiEl2All refl in cc

pub no_el2_asid_without_hyp : Lacks 0x21
unfolding opcode_named
no_el2_asid_without_hyp legal = let had : false ≡ true = legal.had TlbiEl2Asid refl in cc

pub no_el2_va_without_hyp : Lacks 0x22
unfolding opcode_named
no_el2_va_without_hyp legal = let had : false ≡ true = legal.had TlbiEl2Va refl in cc

pub no_el2_vaa_without_hyp : Lacks 0x23
unfolding opcode_named
no_el2_vaa_without_hyp legal = let had : false ≡ true = legal.had TlbiEl2Vaa refl in cc

pub no_s12_vmall_without_stage_2 : Lacks 0x28
unfolding opcode_named
no_s12_vmall_without_stage_2 legal = let had : false ≡ true = legal.had TlbiS12Vmall refl in cc

pub no_s2_ipa_without_stage_2 : Lacks 0x2a
unfolding opcode_named
no_s2_ipa_without_stage_2 legal = let had : false ≡ true = legal.had TlbiS2Ipa refl in cc

pub no_atc_inv_without_ats : Lacks 0x40
unfolding opcode_named
no_atc_inv_without_ats legal = let had : false ≡ true = legal.had AtcInv refl in cc

pub no_pri_resp_without_pri : Lacks 0x41
unfolding opcode_named
no_pri_resp_without_pri legal = let had : false ≡ true = legal.had PriResp refl in cc

-- An unknown opcode is legal for none.
pub no_unknown_opcode : Lacks 0x7f
unfolding opcode_named
no_unknown_opcode legal = let words = legal.words in cc

pub no_cfgi_cd_without_stage_1 : Lacks 0x05
unfolding opcode_named
no_cfgi_cd_without_stage_1 legal = let had : false ≡ true = legal.had CfgiCd refl in cc

pub no_cfgi_cd_all_without_stage_1 : Lacks 0x06
unfolding opcode_named
no_cfgi_cd_all_without_stage_1 legal = let had : false ≡ true = legal.had CfgiCdAll refl in cc

pub no_resume_without_stalls : Lacks 0x44
unfolding opcode_named
no_resume_without_stalls legal = let had : false ≡ true = legal.had Resume refl in cc

pub no_stall_term_without_stalls : Lacks 0x45
unfolding opcode_named
no_stall_term_without_stalls legal = let had : false ≡ true = legal.had StallTerm refl in cc

-- ---- Secure streams: bit 10.

pub no_resume_of_a_secure_stream : (smmu : Smmu) → IsLegalFor smmu (word 0x444) → ⊥
unfolding opcode_named
no_resume_of_a_secure_stream smmu legal = let wrong : true ≡ false = legal.non_secure in cc

pub no_stall_term_of_a_secure_stream : (smmu : Smmu) → IsLegalFor smmu (word 0x445) → ⊥
unfolding opcode_named
no_stall_term_of_a_secure_stream smmu legal = let wrong : true ≡ false = legal.non_secure in cc

-- ---- Substreams: SSV is bit 11, SubstreamID 31:12, Global 9.

-- SubstreamIDs of so many bits
abbrev with_substreams : ℕ → Smmu
with_substreams bits = record {
  range_invalidation = false;
  stage_1 = true;
  stage_2 = false;
  ats = true;
  pri = false;
  hypervisor = false;
  stalls = false;
  wide_asids = false;
  wide_vmids = false;
  substream_bits = bits;
  stream_bits = 0;
  granules = record { kib4 = true; kib16 = false; kib64 = false };
}

pub no_substream_0_without_substreams : IsLegalFor (with_substreams 0) (word 0x840) → ⊥
unfolding opcode_named
no_substream_0_without_substreams legal = let had : false ≡ true = legal.accesses AtcInv refl in cc

pub no_each_substream_without_substreams : IsLegalFor (with_substreams 0) (word 0xa40) → ⊥
unfolding opcode_named
no_each_substream_without_substreams legal = let had : false ≡ true = legal.accesses AtcInv refl in cc

pub no_substream_256_of_8_bits : IsLegalFor (with_substreams 8) (word 0x100840) → ⊥
unfolding opcode_named
no_substream_256_of_8_bits legal = let had : false ≡ true = legal.accesses AtcInv refl in cc

pub no_prefetch_of_substream_256 : IsLegalFor (with_substreams 8) (word 0x100801) → ⊥
unfolding opcode_named
no_prefetch_of_substream_256 legal = let had : false ≡ true = legal.accesses PrefetchConfig refl in cc

pub no_prefetch_by_address_of_substream_256 : IsLegalFor (with_substreams 8) (word 0x100802) → ⊥
unfolding opcode_named
no_prefetch_by_address_of_substream_256 legal = let had : false ≡ true = legal.accesses PrefetchAddr refl in cc

pub no_prefetch_of_each_substream : IsLegalFor (with_substreams 8) (word 0x100a01) → ⊥
unfolding opcode_named
no_prefetch_of_each_substream legal = let had : false ≡ true = legal.accesses PrefetchConfig refl in cc
