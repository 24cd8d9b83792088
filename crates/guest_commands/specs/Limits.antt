-- What fits the host's SMMU.
use Rattle.std.specs.Prelude.{ℕ, ◌^◌, ◌&&◌, nat_lt, Bool, true, false, Option, Some, None}
use Rattle.smmu_features.specs.declared.smmu.Smmu.{Smmu}

-- the bits of a VMID or an ASID (SMMU_IDR0.VMID16, SMMU_IDR0.ASID16)
abbrev pub bits_of : Bool → ℕ
bits_of true = 16
bits_of false = 8

abbrev pub has_vmid : Smmu → ℕ → Bool
has_vmid smmu vmid = nat_lt vmid (2 ^ bits_of smmu.wide_vmids)

abbrev pub has_asid : Smmu → ℕ → Bool
has_asid smmu asid = nat_lt asid (2 ^ bits_of smmu.wide_asids)

-- SMMU_IDR1.SIDSIZE
abbrev pub has_stream : Smmu → ℕ → Bool
has_stream smmu sid = nat_lt sid (2 ^ smmu.stream_bits)

-- SMMU_IDR1.SSIDSIZE. Without substreams a stream has the context descriptor of substream 0.
abbrev pub has_substream : Smmu → ℕ → Bool
has_substream smmu ssid = nat_lt ssid (2 ^ smmu.substream_bits)

-- the context descriptor of this substream. Without stage 1 there is none.
abbrev pub has_descriptor : Smmu → ℕ → Bool
has_descriptor smmu ssid = smmu.stage_1 && has_substream smmu ssid

abbrev pub has_substreams : Smmu → Bool
has_substreams smmu = nat_lt 0 smmu.substream_bits

-- accesses with this SubstreamID, or without one
abbrev pub has_accesses : Smmu → Option ℕ → Bool
has_accesses smmu None = true
has_accesses smmu (Some ssid) = has_substreams smmu && has_substream smmu ssid
