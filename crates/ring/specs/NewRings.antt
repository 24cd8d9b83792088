-- A new ring.
use Rattle.std.specs.Prelude.{◌≡◌, ℕ, zero, suc, List, [], ◌∷◌, ◌++◌, None}
use Rattle.ring.specs.Runs.{Ring}
use Rattle.ringcore.specs.RingFaults.{number_fault}
use Rattle.ring.specs.Rings.{RingValue}
use Rattle.ring.specs.consumer.{ConsumerValue}
use Rattle.ring.specs.sender.{SenderValue}

-- a sender that has taken no step
abbrev pub new_sender : RingValue → ℕ → SenderValue
new_sender ring number = record { ring = ring; number = number; trail = []; history = [] }

-- those with numbers below n, in order
abbrev pub new_senders : RingValue → ℕ → List SenderValue
new_senders ring zero = []
new_senders ring (suc k) = new_senders ring k ++ new_sender ring k ∷ []

abbrev pub made_with : ℕ → ℕ → ℕ → Ring
made_with log2 senders max_batches = record { geometry = log2; senders = senders; max_batches = max_batches; flags = 64 }

-- A ring made with these numbers, with its senders and its consumer, before the first step.
pub record IsUnused {D : Type 0} (log2 senders max_batches : ℕ) (ring : RingValue) (all : List SenderValue) (consumer : ConsumerValue D) : Type 0 where
  pub made_is : ring.made_with ≡ made_with log2 senders max_batches
  pub senders_are : all ≡ new_senders ring senders
  pub consumer_is : consumer ≡ record { ring = ring; trail = []; history = []; lent = None }

pub record IsNewRing {D : Type 0} (log2 senders max_batches : ℕ) (ring : RingValue) (all : List SenderValue) (consumer : ConsumerValue D) : Type 0 where
  pub numbers : number_fault log2 senders max_batches ≡ None
  pub unused : IsUnused log2 senders max_batches ring all consumer
