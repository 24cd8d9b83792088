-- What the definitions say of single invalidations.
use Rattle.std.proofs.Common.{◌≡◌, ℕ, ◌*◌, ◌^◌, ◌≤◌, true, false, [], Option, Some, None, refl, sym, subst, arith}
use Rattle.cmdcodec.specs.declared.command.Command.TheVariants.{TlbiNhAll, TlbiNhVaa, TlbiEl2All, TlbiEl2Vaa, TlbiS12Vmall, TlbiS2Ipa}
use Rattle.cmdcodec.specs.declared.reach.Reach.TheVariants as reach
use Rattle.cmdcodec.specs.PageRuns.{run_from}
use Rattle.caches.specs.declared.tag.Scope.TheVariants.{Global}
use Rattle.caches.specs.declared.tag.Tag.TheVariants.{El2}
use Rattle.smmu_features.specs.declared.smmu.Smmu.{Smmu}
use Rattle.smmu_features.specs.IdRegisters.{smmu_of}
use Rattle.cmdcodec.specs.declared.reach.Granule.{Granule}
use Rattle.cmdcodec.specs.declared.reach.Granule.TheVariants.{Kib4, Kib16, Kib64}
use Rattle.invalidations.specs.declared.entries.Level.{Level}
use Rattle.invalidations.specs.declared.entries.Level.TheVariants.{One, Two, Three}
use Rattle.invalidations.specs.declared.entries.Entries.{Entries}
use Rattle.invalidations.specs.declared.entries.Entries.TheVariants.{Any, Leaves}
use Rattle.invalidations.specs.declared.space.Space.TheVariants.{Stage1, Hypervisor, Stage2}
use Rattle.invalidations.specs.declared.request.Target.{Target}
use Rattle.invalidations.specs.declared.invalidation.Bytes.TheVariants.{Range}
use Rattle.invalidations.specs.Targets.{leaf_bytes, hint_of}
use Rattle.invalidations.specs.Laws.{excess, IsWithin}
use Rattle.invalidations.specs.Reaching.{is_served, IsInLeafOf, BytesAreCovered}
use Rattle.invalidations.specs.Plans.{known_entries, granules_of, goes_past}

abbrev pub of_level : Granule → Level → Target
of_level granule level = record { space = Hypervisor None; granule = granule; entries = Leaves (Some level); ranged = true }

-- ---- Leaves.

pub pages_of_4_kib : leaf_bytes (of_level Kib4 Three) ≡ 4 * 2 ^ 10
pages_of_4_kib = refl

pub pages_of_16_kib : leaf_bytes (of_level Kib16 Three) ≡ 16 * 2 ^ 10
pages_of_16_kib = refl

pub pages_of_64_kib : leaf_bytes (of_level Kib64 Three) ≡ 64 * 2 ^ 10
pages_of_64_kib = refl

pub blocks_of_2_mib : leaf_bytes (of_level Kib4 Two) ≡ 2 * 2 ^ 20
blocks_of_2_mib = refl

pub blocks_of_32_mib : leaf_bytes (of_level Kib16 Two) ≡ 32 * 2 ^ 20
blocks_of_32_mib = refl

pub blocks_of_512_mib : leaf_bytes (of_level Kib64 Two) ≡ 512 * 2 ^ 20
blocks_of_512_mib = refl

pub blocks_of_1_gib : leaf_bytes (of_level Kib4 One) ≡ 2 ^ 30
blocks_of_1_gib = refl

pub blocks_of_4_tib : leaf_bytes (of_level Kib64 One) ≡ 4 * 2 ^ 40
blocks_of_4_tib = refl

pub no_leaves_at_level_1 : hint_of (known_entries Kib16 (Leaves (Some One))) ≡ 0
no_leaves_at_level_1 = refl

pub leaves_at_level_1 : hint_of (known_entries Kib64 (Leaves (Some One))) ≡ 1
leaves_at_level_1 = refl

-- ---- Rounding.

-- the last byte of a block of 2 MiB, and the first of the next
pub two_bytes_in_two_blocks : granules_of (of_level Kib4 Two) (record { first = 0x3fffff; length = 2 }) ≡ record { first = 512; count = 1024 }
two_bytes_in_two_blocks = refl

pub a_byte_in_a_block : granules_of (of_level Kib4 Two) (record { first = 0x3fffff; length = 1 }) ≡ record { first = 512; count = 512 }
a_byte_in_a_block = refl

pub no_byte_in_none : granules_of (of_level Kib4 Two) (record { first = 0x3fffff; length = 0 }) ≡ record { first = 0; count = 0 }
no_byte_in_none = refl

-- ---- Ends.

pub no_byte_behind_stage_2 : (vmid : ℕ) → goes_past (Stage2 vmid) (Range (record { first = 0x10000000000001; length = 0 })) ≡ false
no_byte_behind_stage_2 vmid = refl

pub byte_behind_stage_2 : (vmid : ℕ) → goes_past (Stage2 vmid) (Range (record { first = 0xfffffffffffff; length = 2 })) ≡ true
byte_behind_stage_2 vmid = refl

pub byte_in_stage_2 : (vmid : ℕ) → goes_past (Stage2 vmid) (Range (record { first = 0xfffffffffffff; length = 1 })) ≡ false
byte_in_stage_2 vmid = refl

pub byte_behind_all : (vmid : ℕ) (asid : Option ℕ) → goes_past (Stage1 vmid asid) (Range (record { first = 0xffffffffffffffff; length = 2 })) ≡ true
byte_behind_all vmid asid = refl

-- ---- In excess.

abbrev pub lone : Granule → Entries → Target
lone granule entries = record { space = Hypervisor None; granule = granule; entries = entries; ranged = true }

pub neighbour_of_16_kib : excess (lone Kib16 Any) 1 ≡ 1
neighbour_of_16_kib = refl

pub no_neighbour_with_ttl : excess (lone Kib16 (Leaves (Some Three))) 1 ≡ 0
no_neighbour_with_ttl = refl

pub no_neighbour_of_4_kib : excess (lone Kib4 Any) 1 ≡ 0
no_neighbour_of_4_kib = refl

pub no_neighbour_of_two : excess (lone Kib64 Any) 2 ≡ 0
no_neighbour_of_two = refl

-- ---- What an SMMU has.

-- with stage 1 and ranges of 4 KiB granules alone
abbrev pub plain : Smmu
plain = smmu_of 0x2 0 0x400 0x10

-- the same without ranges
abbrev pub without_ranges : Smmu
without_ranges = smmu_of 0x2 0 0 0x10

pub range_of_4_kib : (vmid page : ℕ) → is_served plain (TlbiNhVaa vmid true page (reach.Range Kib4 0 1)) ≡ true
range_of_4_kib vmid page = refl

pub no_range_of_16_kib : (vmid page : ℕ) → is_served plain (TlbiNhVaa vmid true page (reach.Range Kib16 0 1)) ≡ false
no_range_of_16_kib vmid page = refl

pub no_range : (vmid page : ℕ) → is_served without_ranges (TlbiNhVaa vmid true page (reach.Range Kib4 0 1)) ≡ false
no_range vmid page = refl

pub no_stage_2 : (vmid page : ℕ) → is_served plain (TlbiS2Ipa vmid true page reach.Page) ≡ false
no_stage_2 vmid page = refl

pub no_machines : (vmid : ℕ) → is_served plain (TlbiS12Vmall vmid) ≡ false
no_machines vmid = refl

pub no_hypervisor : is_served plain TlbiEl2All ≡ false
no_hypervisor = refl

pub no_stage_1 : (vmid : ℕ) → is_served (smmu_of 0x201 0 0 0x10) (TlbiNhAll vmid) ≡ false
no_stage_1 vmid = refl

-- ---- What isn't within, and what isn't covered.

pub beside_the_range : IsWithin (lone Kib4 Any) (record { first = 0; end = 1 }) (TlbiEl2Vaa false 5 reach.Page) → ⊥
beside_the_range (page, reached, is, leaf, begins, ends) =
    let at : 5 ≡ page = cc in
    let by : reach.Page ≡ reached = cc in
    let end : 6 ≤ 1 = subst (λ r. (run_from 5 r (2 ^ 52)).end ≤ 1) (sym by) (subst (λ p. (run_from p reached (2 ^ 52)).end ≤ 1) (sym at) ends) in
    omega (arith, end)

pub in_a_leaf : IsWithin (of_level Kib4 Two) (record { first = 0; end = 1024 }) (TlbiEl2Vaa true 1 reach.Page) → ⊥
in_a_leaf (page, reached, is, leaf, begins, ends) =
    let at : 1 ≡ page = cc in omega (arith, at, leaf)

pub in_the_next_leaf : IsInLeafOf (of_level Kib4 Two) (record { first = 0; length = 1 }) 512 → ⊥
in_the_next_leaf (byte, inside, same) = omega (arith, inside, same)

pub no_command : BytesAreCovered (lone Kib4 Any) (Range (record { first = 0; length = 1 })) (λ tag. Unit {0}) [] → ⊥
no_command covered =
    let none = covered 0 (omega arith, omega arith) (El2 Global 0 0) tt refl in omega (arith, none.2)
