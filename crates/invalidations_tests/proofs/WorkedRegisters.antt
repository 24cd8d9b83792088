-- What single bits of the ID registers say.
use Rattle.std.proofs.Common.{◌≡◌, true, false, refl}
use Rattle.smmu_features.specs.IdRegisters.{smmu_of}

pub stage_2_is_bit_0 : (smmu_of 0x1 0 0 0).stage_2 ≡ true
stage_2_is_bit_0 = refl

pub stage_1_is_bit_1 : (smmu_of 0x2 0 0 0).stage_1 ≡ true
stage_1_is_bit_1 = refl

pub hypervisor_is_bit_9 : (smmu_of 0x200 0 0 0).hypervisor ≡ true
hypervisor_is_bit_9 = refl

pub ats_is_bit_10 : (smmu_of 0x400 0 0 0).ats ≡ true
ats_is_bit_10 = refl

pub asids_are_bit_12 : (smmu_of 0x1000 0 0 0).wide_asids ≡ true
asids_are_bit_12 = refl

pub vmids_are_bit_18 : (smmu_of 0x40000 0 0 0).wide_vmids ≡ true
vmids_are_bit_18 = refl

pub streams_are_bits_5_to_0 : (smmu_of 0 0x7df 0 0).stream_bits ≡ 31
streams_are_bits_5_to_0 = refl

pub substreams_are_bits_10_to_6 : (smmu_of 0 0x53f 0 0).substream_bits ≡ 20
substreams_are_bits_10_to_6 = refl

pub ranges_are_bit_10 : (smmu_of 0 0 0x400 0).range_invalidation ≡ true
ranges_are_bit_10 = refl

pub granules_are_bits_4_to_6 : (smmu_of 0 0 0 0x20).granules ≡ record { kib4 = false; kib16 = true; kib64 = false }
granules_are_bits_4_to_6 = refl

pub granule_of_64_kib_is_bit_6 : (smmu_of 0 0 0 0x40).granules ≡ record { kib4 = false; kib16 = false; kib64 = true }
granule_of_64_kib_is_bit_6 = refl

pub stall_model_1_is_no_stalls : (smmu_of 0x1000000 0 0 0).stalls ≡ false
stall_model_1_is_no_stalls = refl

pub stall_model_2_is_stalls_alone : (smmu_of 0x2000000 0 0 0).stalls ≡ true
stall_model_2_is_stalls_alone = refl
