-- Commands in a buffer of C.
use Rattle.std.specs.Prelude.{◌≡◌, ◌<◌, ◌/◌, ◌^◌, ℕ, Bool, false, List, [], ◌++◌, length, drop, map, Some, None, ◌⊎◌, if◌then◌else◌}
use Rattle.cmdcodec.specs.declared.raw.Raw.{Raw}
use Rattle.cmdcodec.specs.Fields.{bit}
use Rattle.cmdcodec.specs.Words.{encoding}
use Rattle.smmu_features.specs.declared.smmu.Smmu.{Smmu}
use Rattle.batch.specs.Ranges.{range_commands}
use Rattle.detachment.specs.Commands.{Stream, has_ats, configuration_words, endpoint_words}
use Rattle.batch.specs.Refusals.{range_refusal}
use Rattle.smmuq_c.specs.declared.status.Status.{Status}
use Rattle.smmuq_c.specs.declared.status.Status.TheVariants.{Done, Batch, BadField, ShortBuffer}

-- They come first in the buffer, and what is after them stays; or it is too short, and stays. Their number is told.
abbrev pub IsGiven : {X : Type 0} → List X → List X → List X → ℕ → Status → Type 0
IsGiven commands old new told Done = (told ≡ length commands) × (new ≡ commands ++ drop (length commands) old)
IsGiven commands old new told ShortBuffer = (told ≡ length commands) × (length old < length commands) × (new ≡ old)
IsGiven commands old new told other = ⊥

abbrev pub IsWide : ℕ → Type 0
IsWide field = ¬ (field < 2 ^ 16)

-- Those of a range are given; or it is refused.
abbrev pub HasRange : ℕ → ℕ → ℕ → ℕ → List Raw → List Raw → ℕ → Status → Type 0
HasRange vmid asid address pages old new told BadField = (IsWide vmid ⊎ IsWide asid) × (new ≡ old)
HasRange vmid asid address pages old new told (Batch fault) =
    (vmid < 2 ^ 16) × (asid < 2 ^ 16)
    × (range_refusal [] vmid asid (address / 4096) pages ≡ Some fault) × (new ≡ old)
HasRange vmid asid address pages old new told status =
    (vmid < 2 ^ 16) × (asid < 2 ^ 16)
    × (range_refusal [] vmid asid (address / 4096) pages ≡ None) × IsGiven (map encoding (range_commands vmid asid (address / 4096) pages)) old new told status

-- ---- a stream whose use ends

abbrev pub stream_of : Smmu → ℕ → Bool → Stream
stream_of smmu sid ats = record { sid = sid; smmu = smmu; ats = ats }

-- The commands for its configuration are given, which are the same with and without ATS.
abbrev pub HasDetach : Smmu → ℕ → List Raw → List Raw → ℕ → Status → Type 0
HasDetach smmu sid old new told status =
    IsGiven (configuration_words (stream_of smmu sid false)) old new told status

-- what its endpoint gets: nothing, where that or the SMMU has no ATS
abbrev pub words_for_endpoint : Stream → List Raw
words_for_endpoint stream = if has_ats stream then endpoint_words stream else []

-- Those for its endpoint are given; or nothing says whether that has ATS.
abbrev pub HasDetachedEndpoint : Smmu → ℕ → ℕ → List Raw → List Raw → ℕ → Status → Type 0
HasDetachedEndpoint smmu sid ats old new told BadField =
    ((has : Bool) → ¬ (ats ≡ bit has)) × (new ≡ old)
HasDetachedEndpoint smmu sid ats old new told status =
    (has : Bool) × (ats ≡ bit has)
    × IsGiven (words_for_endpoint (stream_of smmu sid has)) old new told status
