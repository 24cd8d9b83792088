-- Caches as callers see them, and what is true of them inside.
use Rattle.std.specs.Prelude.{◌≤◌}
use Rattle.std.specs.FinMap as finite
use Rattle.caches.specs.Limits.{most_entries}
use Rattle.caches.specs.declared.caches.Caches.TheInside.{Inside}
use Rattle.caches.specs.Stored.{Stored}

abbrev pub stored : Inside → Stored
stored inside = record { capacity = inside.capacity; entries = inside.held }

-- The capacity is within its limit and the number of entries within the capacity.
pub record AreCaches (inside : Inside) : Type 0 where
  pub limit : inside.capacity ≤ most_entries
  pub room : finite.len inside.held ≤ inside.capacity
