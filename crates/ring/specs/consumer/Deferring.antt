-- A consumer that acknowledges later: it takes commands first, and is told of each once it is settled.
use Rattle.std.specs.Prelude.{◌≡◌, ◌≤◌, ⊤, ℕ, List, [], ◌∷◌, take, drop}
use Rattle.ring.specs.Runs.{Raw, Trail, raws_by, taken_by, acknowledged_by, syncs_in}
use Rattle.ring.specs.table.{PortValue}
use Rattle.ring.specs.consumer.Consumers.{ConsumerValue}
use Rattle.ring.specs.consumer.Pendings.{PendingValue, IsPending}

-- a consumer, what it read and didn't take, and how many of the commands that it took are settled
pub record DeferringValue (D : Type 0) : Type 0 where
  pub consumer : ConsumerValue D
  pub raws : List Raw
  pub settled : ℕ

-- the consumer with what it read
abbrev pub pending_of : {D : Type 0} → DeferringValue D → PendingValue D
pending_of c = record { consumer = c.consumer; raws = c.raws }

-- Of the commands that it took, the first are settled,
abbrev pub settled_raws : {D : Type 0} → DeferringValue D → List Raw
settled_raws c = take c.settled (raws_by c.consumer.trail)

-- and these aren't.
abbrev pub unsettled_raws : {D : Type 0} → DeferringValue D → List Raw
unsettled_raws c = drop c.settled (raws_by c.consumer.trail)

-- It has acknowledged each closing sync among the first `settled` commands that it took, and no other.
pub record IsDeferring (trail : Trail) (settled : ℕ) : Type 0 where
  pub few : settled ≤ taken_by trail
  pub current : (s : ℕ) → acknowledged_by s trail ≡ syncs_in s (take settled (raws_by trail))

-- What it has read, if anything, was read from the head on.
abbrev pub AreRead : PortValue → List Raw → Type 0
AreRead port [] = ⊤
AreRead port (raw ∷ raws) = IsPending port (raw ∷ raws)

-- The consumer began with nothing read, and with all that it took settled.
abbrev pub deferring : {D : Type 0} → ConsumerValue D → DeferringValue D
deferring consumer = record { consumer = consumer; raws = []; settled = taken_by consumer.trail }
