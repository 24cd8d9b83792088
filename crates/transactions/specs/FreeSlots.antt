-- How a free slot is found at once, and what is counted.
use Rattle.std.specs.Prelude.{◌≡◌, ◌≤◌, ◌<◌, ◌^◌, ℕ, List, length, Some, None, slice_get, count_by}
use Rattle.transactions.specs.declared.outstanding.OutstandingTransaction.{OutstandingTransaction}
use Rattle.transactions.specs.Outstanding.{Slots, is_outstanding, is_covered, UsesBlock}

-- The list has the slot at this place or behind it.
pub record IsListedFrom (free : List ℕ) (from slot : ℕ) : Type 0 where
  pub place : ℕ
  pub behind : from ≤ place
  pub at : slice_get free place ≡ Some slot

-- From this place on the list has each free slot once, and no other slot. What is ahead means
-- nothing.
pub record AreFree (slots : Slots) (free : List ℕ) (from : ℕ) : Type 0 where
  pub room : length free ≡ length slots
  pub are : (place slot : ℕ) → from ≤ place
      → slice_get free place ≡ Some slot → slice_get slots slot ≡ Some None
  pub all : (slot : ℕ) → slice_get slots slot ≡ Some None → IsListedFrom free from slot
  pub once : (first second slot : ℕ) → from ≤ first → from ≤ second
      → slice_get free first ≡ Some slot → slice_get free second ≡ Some slot → first ≡ second

-- Each of these first numbers stands at its own place.
abbrev pub AreOwnPlaces : ℕ → List ℕ → Type 0
AreOwnPlaces many numbers = (place : ℕ) → place < many → slice_get numbers place ≡ Some place

-- Each tag is that of a block.
abbrev pub HasBlocks : Slots → Type 0
HasBlocks slots =
    (slot : ℕ) (o : OutstandingTransaction) → slice_get slots slot ≡ Some (Some o) → UsesBlock o.used

-- There are fewer than 2^16 slots, each tag is that of a block, so many are outstanding and so many of
-- those covered, and the list has as many places ahead of the free slots as are outstanding.
pub record AreOutstanding (slots : Slots) (free : List ℕ) (count covered : ℕ) : Type 0 where
  pub few : length slots < 2 ^ 16
  pub blocks : HasBlocks slots
  pub count_is : count ≡ count_by is_outstanding slots
  pub covered_is : covered ≡ count_by is_covered slots
  pub free_are : AreFree slots free count
