-- What is made, and into which handle.
use Rattle.std.specs.Prelude.{◌≡◌, ◌<◌, ◌^◌, ℕ, [], Option, Some}
use Rattle.caches.specs.declared.fault.CacheFault.TheVariants.{BadCapacity}
use Rattle.caches.specs.Stored.{Stored}
use Rattle.caches.specs.Held.{held}
use Rattle.engine.specs.Units.{UnitValue, new_unit}
use Rattle.transactions.specs.Tracking.{IsTracked}
use Rattle.transactions.specs.TrackedQueueUnits.{tracked_in, new_tracked_queue}
use Rattle.caches.specs.Limits.{IsCapacity}
use Rattle.smmuq_c.specs.declared.status.Status.{Status}
use Rattle.smmuq_c.specs.declared.status.Status.TheVariants.{Done, Cache, NoMemory, BadField}
use Rattle.smmuq_c.specs.declared.object.Object.{Object}
use Rattle.smmuq_c.specs.declared.object.Object.TheVariants.{Unit as UnitOf}

-- Empty caches of this capacity, which is in range.
pub record AreNewCaches (capacity : ℕ) (caches : Stored) : Type 0 where
  pub in_range : IsCapacity capacity
  pub capacity_is : caches.capacity ≡ capacity
  pub empty : caches.entries ≡ held []

-- A unit that has taken nothing, with empty caches of this capacity.
pub record IsNewUnit (capacity : ℕ) (unit : UnitValue) : Type 0 where
  pub caches : Stored
  pub caches_are : AreNewCaches capacity caches
  pub unit_is : unit ≡ new_unit caches

-- The handle holds a unit of this number that has taken nothing, with such caches and room for so many
-- transactions.
pub record HoldsNewUnit (number capacity room : ℕ) (new : Option Object) : Type 0 where
  pub caches : Stored
  pub caches_are : AreNewCaches capacity caches
  pub new_is : new ≡ Some (UnitOf (new_tracked_queue number caches room))
  pub tracked : IsTracked (tracked_in (new_tracked_queue number caches room)) []

-- It holds that, and what it held before is dropped; or it is as before.
abbrev pub HasMadeUnit : ℕ → ℕ → ℕ → Option Object → Option Object → Status → Type 0
HasMadeUnit number capacity room old new Done = HoldsNewUnit number capacity room new
HasMadeUnit number capacity room old new (Cache BadCapacity) = ¬ IsCapacity capacity × (new ≡ old)
HasMadeUnit number capacity room old new NoMemory = IsCapacity capacity × (new ≡ old)
HasMadeUnit number capacity room old new other = ⊥

-- The same if there may be room for so many.
abbrev pub HasMadeTrackingUnit : ℕ → ℕ → ℕ → Option Object → Option Object → Status → Type 0
HasMadeTrackingUnit number capacity room old new BadField =
    ¬ ((number < 2 ^ 8) × (room < 2 ^ 16)) × (new ≡ old)
HasMadeTrackingUnit number capacity room old new status =
    (number < 2 ^ 8) × (room < 2 ^ 16) × HasMadeUnit number capacity room old new status
