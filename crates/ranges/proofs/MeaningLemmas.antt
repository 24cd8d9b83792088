-- An SMMU that has all there is lacks nothing that an invalidation needs.
use Rattle.std.proofs.Common.{◌≡◌, true, refl}
use Rattle.cmdcodec.specs.declared.reach.Granule.{Granule}
use Rattle.cmdcodec.specs.declared.reach.Granule.TheVariants.{Kib4, Kib16, Kib64}
use Rattle.invalidations.specs.declared.space.Space.{Space}
use Rattle.invalidations.specs.declared.space.Space.TheVariants.{Stage1, Hypervisor, Stage2}
use Rattle.invalidations.specs.Plans.{has_granule, has_stage}
use Rattle.ranges.specs.declared.asked.Asked.{Asked}
use Rattle.ranges.specs.Meanings.{smmu_of}

has_every_stage : (asked : Asked) (space : Space) → has_stage (smmu_of asked) space ≡ true
has_every_stage asked (Stage1 vmid asid) = refl
has_every_stage asked (Hypervisor asid) = refl
has_every_stage asked (Stage2 vmid) = refl

has_every_granule : (asked : Asked) (granule : Granule) → has_granule (smmu_of asked) granule ≡ true
has_every_granule asked Kib4 = refl
has_every_granule asked Kib16 = refl
has_every_granule asked Kib64 = refl

pub has_all : (asked : Asked) (space : Space) (granule : Granule) → (has_stage (smmu_of asked) space ≡ true) × (has_granule (smmu_of asked) granule ≡ true)
has_all asked space granule = (has_every_stage asked space, has_every_granule asked granule)
