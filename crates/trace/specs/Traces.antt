-- What is kept between two lines of a log.
use Rattle.std.specs.Prelude.{◌≡◌, ℕ, ◌==◌, List, [], ◌∷◌, Option, Some, None, slice_get, take, if◌then◌else◌}
use Rattle.caches.specs.Held.{held}
use Rattle.transactions.specs.Tracking.{TrackedValue, new_tracked}
use Rattle.trace.specs.declared.access.OpenAccess.{OpenAccess}
use Rattle.trace.specs.declared.request.Conduct.{Conduct}
use Rattle.trace.specs.declared.walking.OpenWalk.{OpenWalk}

-- The unit; the last walks and the accesses that aren't over, the newest first; and what the model
-- should have done with the line before, if that can be judged.
pub record TraceValue : Type 0 where
  pub unit : TrackedValue
  pub walks : List OpenWalk
  pub accesses : List OpenAccess
  pub right : Option Conduct

-- before the first line: empty caches for 65,536 entries, and room for 1,024 accesses
abbrev pub new_trace : TraceValue
new_trace = record {
  unit = new_tracked 0 (record { capacity = 65536; entries = held [] }) 1024;
  walks = [];
  accesses = [];
  right = None;
}

-- ---- walks

-- the newest walk of this number in the log, by its own number on the unit
abbrev pub walk_of : ℕ → List OpenWalk → Option ℕ
walk_of number [] = None
walk_of number (w ∷ walks) = if w.number == number then Some w.walk else walk_of number walks

-- A walk begins. The last 1,024 are known.
abbrev pub with_walk : ℕ → ℕ → TraceValue → TraceValue
with_walk number walk t =
    record t { walks = take 1024 (record { number = number; walk = walk } ∷ t.walks) }

-- ---- accesses

-- An access of this number isn't over.
pub record IsOpenAt (number : ℕ) (accesses : List OpenAccess) (place : ℕ) (access : OpenAccess) : Type 0 where
  pub at : slice_get accesses place ≡ Some access
  pub number_is : access.number ≡ number

abbrev pub IsOpen : ℕ → List OpenAccess → Type 0
IsOpen number accesses = (place : ℕ) × (access : OpenAccess) × IsOpenAt number accesses place access

-- It stands at this place.
abbrev pub IsPlaceOf : ℕ → List OpenAccess → ℕ → Type 0
IsPlaceOf number accesses place = (access : OpenAccess) × IsOpenAt number accesses place access
