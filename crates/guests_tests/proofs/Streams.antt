-- Streams of the worked proofs.
use Rattle.std.proofs.Common.{◌≡◌, ℕ, true, false, refl}
use Rattle.smmu_features.specs.IdRegisters.{smmu_of}
use Rattle.detachment.specs.Commands.{Stream, has_ats}

-- of an SMMU with stage 1 and ATS, whose endpoint has ATS
abbrev pub stream : ℕ → Stream
stream sid = record { sid = sid; smmu = smmu_of 0x402 0x10 0 0x10; ats = true }

-- the same, whose endpoint has no ATS
abbrev pub without_ats : ℕ → Stream
without_ats sid = record { sid = sid; smmu = smmu_of 0x402 0x10 0 0x10; ats = false }

-- of an SMMU with stage 2 alone, and without ATS, whose endpoint has it
abbrev pub of_bare : ℕ → Stream
of_bare sid = record { sid = sid; smmu = smmu_of 0x1 0x10 0 0x10; ats = true }

pub both_have_ats : has_ats (stream 5) ≡ true
both_have_ats = refl

pub endpoint_has_none : has_ats (without_ats 5) ≡ false
endpoint_has_none = refl

pub smmu_has_none : has_ats (of_bare 5) ≡ false
smmu_has_none = refl
