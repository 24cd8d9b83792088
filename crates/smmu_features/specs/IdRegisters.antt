-- What the ID registers of an SMMU say.
use Rattle.std.specs.Prelude.{ℕ, Bool, ◌==◌, not}
use Rattle.cmdcodec.specs.Fields.{field}
use Rattle.smmu_features.specs.declared.smmu.Granules.{Granules}
use Rattle.smmu_features.specs.declared.smmu.Smmu.{Smmu}

-- A bit of a register is 1.
abbrev pub is_set : ℕ → ℕ → Bool
is_set register place = field register place place == 1

-- SMMU_IDR5: GRAN4K is bit 4, GRAN16K 5, GRAN64K 6
abbrev pub granules_of : ℕ → Granules
granules_of idr5 = record { kib4 = is_set idr5 4; kib16 = is_set idr5 5; kib64 = is_set idr5 6 }

-- SMMU_IDR0: S2P is bit 0, S1P 1, Hyp 9, ATS 10, ASID16 12, PRI 16, VMID16 18; STALL_MODEL is bits 25:24, 1 for no stalls
-- SMMU_IDR1: SIDSIZE is bits 5:0, SSIDSIZE 10:6
-- SMMU_IDR3: RIL is bit 10
abbrev pub smmu_of : ℕ → ℕ → ℕ → ℕ → Smmu
smmu_of idr0 idr1 idr3 idr5 = record {
  range_invalidation = is_set idr3 10;
  stage_1 = is_set idr0 1;
  stage_2 = is_set idr0 0;
  ats = is_set idr0 10;
  pri = is_set idr0 16;
  hypervisor = is_set idr0 9;
  stalls = not (field idr0 25 24 == 1);
  wide_asids = is_set idr0 12;
  wide_vmids = is_set idr0 18;
  substream_bits = field idr1 10 6;
  stream_bits = field idr1 5 0;
  granules = granules_of idr5;
}
