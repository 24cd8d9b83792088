-- What a command line says of an invalidation.
use Rattle.std.specs.Prelude.{ℕ, ◌^◌, ◌==◌, nat_lt, List, Bool, true, false, Option, Some, None, option_map, Result, Ok, Err, codes, if◌then◌else◌}
use Rattle.std.specs.Borrow.{Bor}
use Rattle.std.specs.Str.{bytes_eq}
use Rattle.cmdcodec.specs.declared.reach.Granule.{Granule}
use Rattle.cmdcodec.specs.declared.reach.Granule.TheVariants.{Kib4, Kib16, Kib64}
use Rattle.script.specs.Words.{number_of}
use Rattle.script.specs.Fields.{◌>>=◌, guard}
use Rattle.smmu_features.specs.declared.smmu.Smmu.{Smmu}
use Rattle.smmu_features.specs.IdRegisters as id_registers
use Rattle.invalidations.specs.declared.entries.Level.{Level}
use Rattle.invalidations.specs.declared.entries.Level.TheVariants.{One, Two, Three}
use Rattle.invalidations.specs.declared.entries.Entries.{Entries}
use Rattle.invalidations.specs.declared.entries.Entries.TheVariants.{Any, Leaves}
use Rattle.invalidations.specs.declared.space.Space.{Space}
use Rattle.invalidations.specs.declared.space.Space.TheVariants as spaces
use Rattle.invalidations.specs.declared.invalidation.Bytes.TheVariants.{Range}
use Rattle.invalidations.specs.declared.invalidation.ByteRange.{ByteRange}
use Rattle.invalidations.specs.declared.invalidation.Invalidation.{Invalidation}
use Rattle.invalidations.specs.declared.policy.Policy.{Policy}
use Rattle.invalidations.specs.Plans.{Plan, goes_past, plan_of}
use Rattle.ranges.specs.declared.asked.Asked.{Asked}
use Rattle.ranges.specs.declared.asked.Regime.{Regime}
use Rattle.ranges.specs.declared.asked.Regime.TheVariants.{Stage1, Hypervisor, Stage2}
use Rattle.ranges.specs.declared.fault.RangeFault.{RangeFault}
use Rattle.ranges.specs.declared.fault.RangeFault.TheVariants.{BadVmid, BadAsid, BadAddress, BadLength, BadGranule, PastEnd}

-- ---- Whose translations.

-- a number of 16 bits, decimal or 0x and hexadecimal
abbrev pub id_named : List ℕ → Option ℕ
id_named text = do
  number ← number_of text
  guard (nat_lt number (2 ^ 16)) number

-- one that must be given
abbrev pub id_of : Option (Bor (List ℕ)) → Option ℕ
id_of None = None
id_of (Some text) = id_named text.now

-- one that may be left out
abbrev pub asid_of : Option (Bor (List ℕ)) → Option (Option ℕ)
asid_of None = Some None
asid_of (Some text) = option_map Some (id_named text.now)

abbrev pub space_with : Regime → Option ℕ → Option (Option ℕ) → Result Space RangeFault
space_with Stage1 None asid = Err BadVmid
space_with Stage1 (Some vmid) None = Err BadAsid
space_with Stage1 (Some vmid) (Some asid) = Ok (spaces.Stage1 vmid asid)
space_with Hypervisor vmid None = Err BadAsid
space_with Hypervisor vmid (Some asid) = Ok (spaces.Hypervisor asid)
space_with Stage2 None asid = Err BadVmid
space_with Stage2 (Some vmid) asid = Ok (spaces.Stage2 vmid)

abbrev pub space_of : Asked → Result Space RangeFault
space_of asked = space_with asked.regime (id_of asked.vmid) (asid_of asked.asid)

-- ---- Which bytes.

abbrev pub bytes_with : Option ℕ → Option ℕ → Result ByteRange RangeFault
bytes_with None length = Err BadAddress
bytes_with (Some first) None = Err BadLength
bytes_with (Some first) (Some length) = Ok (record { first = first; length = length })

abbrev pub bytes_of : Asked → Result ByteRange RangeFault
bytes_of asked = bytes_with (number_of asked.address.now) (number_of asked.length.now)

-- ---- Which tables, and which of their entries.

abbrev pub granule_named : List ℕ → Option Granule
granule_named text =
    if bytes_eq text (codes "4K") then Some Kib4
    else if bytes_eq text (codes "16K") then Some Kib16
    else if bytes_eq text (codes "64K") then Some Kib64
    else None

abbrev pub granule_of : Option (Bor (List ℕ)) → Option Granule
granule_of None = Some Kib4
granule_of (Some text) = granule_named text.now

abbrev pub level_of : Option ℕ → Option Level
level_of None = None
level_of (Some level) = Some (if level == 1 then One else if level == 2 then Two else Three)

abbrev pub entries_of : Asked → Entries
entries_of asked = if asked.leaf then Leaves (level_of asked.level) else Any

-- ---- All of it.

abbrev pub invalidation_with : Entries → Result Space RangeFault → Result ByteRange RangeFault → Option Granule → Result Invalidation RangeFault
invalidation_with entries (Err fault) bytes granule = Err fault
invalidation_with entries (Ok space) (Err fault) granule = Err fault
invalidation_with entries (Ok space) (Ok bytes) None = Err BadGranule
invalidation_with entries (Ok space) (Ok bytes) (Some granule) =
    Ok (record { space = space; bytes = Range bytes; granule = granule; entries = entries })

abbrev pub invalidation_of : Asked → Result Invalidation RangeFault
invalidation_of asked = invalidation_with (entries_of asked) (space_of asked) (bytes_of asked) (granule_of asked.granule)

-- SMMU_IDR3: RIL, if that is said
abbrev pub idr3_of : Bool → ℕ
idr3_of false = 0
idr3_of true = 0x400

-- SMMU_IDR0 has S2P, S1P and Hyp, SMMU_IDR5 each granule.
abbrev pub smmu_of : Asked → Smmu
smmu_of asked = id_registers.smmu_of 0x203 0 (idr3_of asked.range_invalidation) 0x70

abbrev pub limit_of : Option ℕ → ℕ
limit_of None = 512
limit_of (Some most) = most

-- No page is global.
abbrev pub policy_of : Asked → Policy
policy_of asked = record { most_commands = limit_of asked.most_commands; global_pages = false }

abbrev pub plan_with : Asked → Result Invalidation RangeFault → Result Plan RangeFault
plan_with asked (Err fault) = Err fault
plan_with asked (Ok invalidation) =
    if goes_past invalidation.space invalidation.bytes then Err PastEnd
    else Ok (plan_of invalidation (smmu_of asked) (policy_of asked))

-- what is sent for it, or why nothing is
abbrev pub plan_asked : Asked → Result Plan RangeFault
plan_asked asked = plan_with asked (invalidation_of asked)
