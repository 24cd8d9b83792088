-- The capacities that caches may have (own).
use Rattle.std.specs.Prelude.{ℕ, ◌<◌, ◌≤◌}

-- the most entries that caches may hold
abbrev pub most_entries : ℕ
most_entries = 65536

-- the most that are noted as removed while the map still has them
abbrev pub most_removed : ℕ
most_removed = 16

-- 1 to that many entries
abbrev pub IsCapacity : ℕ → Type 0
IsCapacity capacity = (0 < capacity) × (capacity ≤ most_entries)
