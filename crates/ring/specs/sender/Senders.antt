-- What contracts see of a sender and its receipts.
use Rattle.std.specs.Prelude.{◌≡◌, ℕ, ◌+◌, ◌≤◌, Bool, true, false, [], ◌∷◌, nat_le}
use Rattle.ring.specs.Runs.{Sender, Ask, Trail, Run, IsSettled, batches_made, numbers_given}
use Rattle.ring.specs.declared.sender.tally.Tally.{Tally}
use Rattle.ring.specs.Rings.{RingValue}
use Rattle.ring.specs.table.{PortValue}

-- a sender: its ring, its number, its trail, and the run up to its newest step
pub record SenderValue : Type 0 where
  pub ring : RingValue
  pub number : ℕ
  pub trail : Trail
  pub history : Run

-- The tally is that of the trail.
pub record IsTallied (port : PortValue) (tally : Tally) : Type 0 where
  pub who_is : port.who ≡ Sender tally.sender
  pub batches_are : tally.batches ≡ batches_made port.trail
  pub numbers_are : tally.numbers ≡ numbers_given port.trail
  pub numbered : tally.numbers ≤ tally.batches
  pub most : tally.batches ≤ port.ring.made_with.max_batches

-- The sender is between two reservations.
pub record IsSender (port : PortValue) (tally : Tally) : Type 0 where
  pub tallied : IsTallied port tally
  pub settled : IsSettled port.trail

-- one more batch, which closes with a CMD_SYNC or doesn't
abbrev pub one_more : Bool → Tally → Tally
one_more true t = record t { batches = t.batches + 1; numbers = t.numbers + 1 }
one_more false t = record t { batches = t.batches + 1 }

-- ---- what it was told

-- a closing CMD_SYNC: its sender, and its number
pub record ReceiptValue : Type 0 where
  pub sender : ℕ
  pub number : ℕ

-- It asked, and the answer is whether the number that it found is at least this one.
abbrev pub HasAsked : ℕ → SenderValue → SenderValue → Bool → Type 0
HasAsked number old new answer = (found : ℕ) × (record new { history = [] } ≡ record old { trail = Ask found ∷ old.trail; history = [] }) × (answer ≡ nat_le number found)
