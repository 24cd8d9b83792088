-- Evicting all entries whose tags are of some kinds, of a stream, or of a virtual machine.
use Rattle.std.specs.Prelude.{◌≡◌, ◌<◌, ◌^◌, ℕ, Bool, Option, None, Some}
use Rattle.caches.specs.declared.tag.Tag.{Tag}
use Rattle.caches.specs.declared.tag_owner.OfMachine.{OfMachine}
use Rattle.caches.specs.Kinds.{AreKindsOf, is_of_kinds}
use Rattle.engine.specs.Units.{UnitValue, HasLost, HasLostOlder}
use Rattle.caches.specs.OwnerTests.{is_of_stream, is_of_machine}
use Rattle.smmuq_c.specs.declared.object.Object.{Object}
use Rattle.smmuq_c.specs.declared.status.Status.{Status}
use Rattle.smmuq_c.specs.declared.status.Status.TheVariants.{Done}
use Rattle.smmuq_c.specs.Calls.{OfAnyEviction, EvictsSaid}

-- The entries whose tags pass are gone, and their number is told.
pub record HasEvictedAll (passes : Tag → Bool) (told : ℕ) (old new : UnitValue) (status : Status) : Type 0 where
  pub lost : HasLost passes told old new
  pub status_is : status ≡ Done

-- The entries that were filled before this many commands were taken are gone, and their number is told.
pub record HasEvictedOlder (born told : ℕ) (old new : UnitValue) (status : Status) : Type 0 where
  pub lost : HasLostOlder born told old new
  pub status_is : status ≡ Done

-- The words say this virtual machine, or none.
abbrev pub IsMachineOf : ℕ → Option OfMachine → Type 0
IsMachineOf vmid None = ¬ (vmid < 2 ^ 16)
IsMachineOf vmid (Some machine) = (vmid < 2 ^ 16) × (machine ≡ record { 0 = vmid })

-- ---- what each call does to a unit or an engine

abbrev pub EvictsPassing : (Tag → Bool) → ℕ → Object → Object → Status → Type 0
EvictsPassing passes told = OfAnyEviction (HasEvictedAll passes told)

abbrev pub EvictsKinds : ℕ → ℕ → Object → Object → Status → Type 0
EvictsKinds kinds told = EvictsSaid (AreKindsOf kinds) (λ kinds. HasEvictedAll (is_of_kinds kinds) told)

abbrev pub EvictsStream : ℕ → ℕ → Object → Object → Status → Type 0
EvictsStream sid told = EvictsPassing (is_of_stream (record { 0 = sid })) told

abbrev pub EvictsMachine : ℕ → ℕ → Object → Object → Status → Type 0
EvictsMachine vmid told = EvictsSaid (IsMachineOf vmid) (λ m. HasEvictedAll (is_of_machine m) told)

abbrev pub EvictsOlder : ℕ → ℕ → Object → Object → Status → Type 0
EvictsOlder born told = OfAnyEviction (HasEvictedOlder born told)
