-- What is proved of the host's commands: whose entries they cover, that they cover all that they have to, and that the
-- host's SMMU has what they need.
use Rattle.std.specs.Prelude.{◌≡◌, ◌<◌, ◌⊎◌, ℕ, ◌+◌, Bool, true, false, List, Option, Some, None, Any}
use Rattle.cmdcodec.specs.declared.raw.Raw.{Raw}
use Rattle.cmdcodec.specs.declared.command.Command.{Command}
use Rattle.cmdcodec.specs.declared.command.Command.TheVariants.{CfgiSte, CfgiCd, CfgiCdAll, TlbiNhAll, TlbiNhAsid, TlbiNhVa, TlbiNhVaa, TlbiEl2Va, TlbiEl2Vaa, TlbiS2Ipa, AtcInv}
use Rattle.cmdcodec.specs.declared.reach.Granule.{Granule}
use Rattle.cmdcodec.specs.declared.reach.Granule.TheVariants.{Kib16}
use Rattle.cmdcodec.specs.declared.reach.Reach.{Reach}
use Rattle.cmdcodec.specs.declared.reach.Reach.TheVariants.{Page, Range}
use Rattle.cmdcodec.specs.Spelling.{Spells}
use Rattle.caches.specs.declared.tag.Tag.{Tag}
use Rattle.caches.specs.Covers.{covers}
use Rattle.range_hints.specs.declared.ttl.Ttl.{Ttl}
use Rattle.range_hints.specs.declared.ttl.Ttl.TheVariants.{AnyLevel, Level1}
use Rattle.range_hints.specs.Hints.{SpellsWithHint, ttl_number}
use Rattle.smmu_features.specs.declared.smmu.Smmu.{Smmu}
use Rattle.invalidations.specs.Plans.{has_granule}
use Rattle.guest_commands.specs.Limits.{has_vmid, has_asid, has_stream, has_substream, has_substreams, has_descriptor}
use Rattle.guest_commands.specs.Mappings.{Mapping}
use Rattle.guest_commands.specs.Entries.{IsImage, IsOfGuest}

-- ---- Isolation.

-- The words spell a command, and whatever it covers is the guest's.
pub record IsIsolated (mapping : Mapping) (raw : Raw) : Type 0 where
  pub host : Command
  pub spelled : Spells raw host
  pub own : (tag : Tag) → covers host tag ≡ true → IsOfGuest mapping tag

-- ---- What the SMMU has.

-- level 1 of 16 KiB granules has no leaves
abbrev pub IsLevelOf : Granule → Ttl → Type 0
IsLevelOf Kib16 Level1 = ⊥
IsLevelOf tg ttl = Unit {0}

-- A page has no hint. A range is of a granule that the SMMU has, with a hint of one of its levels, and not reserved.
abbrev pub HasReach : Smmu → Ttl → Reach → Type 0
HasReach smmu ttl Page = ttl ≡ AnyLevel
HasReach smmu ttl (Range tg num scale) =
    (smmu.range_invalidation ≡ true) × (has_granule smmu tg ≡ true) × IsLevelOf tg ttl × (0 < num + scale + ttl_number ttl)

-- SubstreamID and Global of CMD_ATC_INV with this SSV: 0 where they mean nothing
abbrev pub HasAccesses : Smmu → Bool → ℕ → Bool → Type 0
HasAccesses smmu false ssid global = (ssid ≡ 0) × (global ≡ false)
HasAccesses smmu true ssid true = (ssid ≡ 0) × (has_substreams smmu ≡ true)
HasAccesses smmu true ssid false = (has_substreams smmu ≡ true) × (has_substream smmu ssid ≡ true)

-- It is one of these seven commands, and the SMMU has what it names.
abbrev pub Has : Smmu → Ttl → Command → Type 0
Has smmu ttl (CfgiCd sid ssid leaf) = (has_stream smmu sid ≡ true) × (has_descriptor smmu ssid ≡ true)
Has smmu ttl (CfgiCdAll sid) = (has_stream smmu sid ≡ true) × (smmu.stage_1 ≡ true)
Has smmu ttl (TlbiNhAll vmid) = (smmu.stage_1 ≡ true) × (has_vmid smmu vmid ≡ true)
Has smmu ttl (TlbiNhAsid vmid asid) = (smmu.stage_1 ≡ true) × (has_vmid smmu vmid ≡ true) × (has_asid smmu asid ≡ true)
Has smmu ttl (TlbiNhVa vmid asid leaf page reach) =
    (smmu.stage_1 ≡ true) × (has_vmid smmu vmid ≡ true) × (has_asid smmu asid ≡ true) × HasReach smmu ttl reach
Has smmu ttl (TlbiNhVaa vmid leaf page reach) = (smmu.stage_1 ≡ true) × (has_vmid smmu vmid ≡ true) × HasReach smmu ttl reach
Has smmu ttl (AtcInv sid ssv ssid global size page) = (smmu.ats ≡ true) × (has_stream smmu sid ≡ true) × HasAccesses smmu ssv ssid global
Has smmu ttl other = ⊥

-- The words spell a command that the SMMU has, with a level hint.
pub record IsSupported (smmu : Smmu) (raw : Raw) : Type 0 where
  pub host : Command
  pub ttl : Ttl
  pub spelled : SpellsWithHint raw host ttl
  pub had : Has smmu ttl host

-- ---- Completeness.

-- Leaf
abbrev pub leaf_of : Command → Option Bool
leaf_of (CfgiSte sid leaf) = Some leaf
leaf_of (CfgiCd sid ssid leaf) = Some leaf
leaf_of (TlbiNhVa vmid asid leaf page reach) = Some leaf
leaf_of (TlbiNhVaa vmid leaf page reach) = Some leaf
leaf_of (TlbiEl2Va asid leaf page reach) = Some leaf
leaf_of (TlbiEl2Vaa leaf page reach) = Some leaf
leaf_of (TlbiS2Ipa vmid leaf page reach) = Some leaf
leaf_of other = None

-- TG of a range
abbrev pub granule_in : Reach → Option Granule
granule_in Page = None
granule_in (Range tg num scale) = Some tg

abbrev pub granule_of : Command → Option Granule
granule_of (TlbiNhVa vmid asid leaf page reach) = granule_in reach
granule_of (TlbiNhVaa vmid leaf page reach) = granule_in reach
granule_of other = None

-- Leaf and TTL narrow a command of the host only as they do the guest's: they are the same there, TTL beside the same
-- granule, or they aren't there, and leave out no table and no level.
pub record IsNarrowedAlike (command : Command) (ttl : Ttl) (host : Command) (host_ttl : Ttl) : Type 0 where
  pub leaf : (leaf_of host ≡ leaf_of command) ⊎ (leaf_of host ≡ None)
  pub level : (host_ttl ≡ AnyLevel) ⊎ ((host_ttl ≡ ttl) × (granule_of host ≡ granule_of command))

-- The words spell a command that covers this entry for a command of the guest.
pub record Reaches (command : Command) (ttl : Ttl) (image : Tag) (raw : Raw) : Type 0 where
  pub host : Command
  pub host_ttl : Ttl
  pub spelled : SpellsWithHint raw host host_ttl
  pub covered : covers host image ≡ true
  pub narrowed : IsNarrowedAlike command ttl host host_ttl

-- Some of these commands covers whatever the guest's command covers, as it is on the host.
abbrev pub IsReachedBy : Mapping → List Raw → Raw → Type 0
IsReachedBy mapping commands raw =
    (command : Command) (ttl : Ttl) (tag image : Tag) → SpellsWithHint raw command ttl → covers command tag ≡ true → IsImage mapping tag image
    → Any (Reaches command ttl image) commands
