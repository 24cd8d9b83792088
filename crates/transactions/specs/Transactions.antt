-- Transactions begin with an entry or a walk, and end.
use Rattle.std.specs.Prelude.{◌≡◌, ◌≤◌, ◌<◌, ◌+◌, ◌*◌, ◌/◌, ◌%◌, ◌^◌, ◌⊎◌, ◌↔◌, ℕ, true, false}
use Rattle.std.specs.Prelude.{cond, count_by, List, Option}
use Rattle.std.specs.Prelude.{Some, None, Result, Ok, Err, length, slice_get, slice_set}
use Rattle.std.specs.FinMap as finite
use Rattle.ringcore.specs.world.World.{Taken}
use Rattle.caches.specs.declared.tag.Tag.{Tag}
use Rattle.caches.specs.declared.fault.CacheFault.TheVariants.{BadBlock}
use Rattle.caches.specs.declared.tag.Entry.{Entry}
use Rattle.caches.specs.Blocks.{IsBlock}
use Rattle.transactions.specs.declared.outstanding.OutstandingTransaction.{OutstandingTransaction}
use Rattle.transactions.specs.declared.transaction.BeginFault.{BeginFault}
use Rattle.transactions.specs.declared.transaction.BeginFault.TheVariants.{NotHeld, Full, Walked}
use Rattle.transactions.specs.declared.transaction.Ended.{Ended}
use Rattle.transactions.specs.declared.transaction.Ended.TheVariants.{LastCovered}
use Rattle.transactions.specs.declared.walk.WalkFault.{WalkFault}
use Rattle.transactions.specs.declared.walk.WalkFault.TheVariants.{Overtaken, TooOld}
use Rattle.transactions.specs.declared.walk.WalkFault.TheVariants.{OtherUnit, Refused}
use Rattle.transactions.specs.Since.{HasCoveredSince}
use Rattle.transactions.specs.Walks.{AnswersWalk}
use Rattle.transactions.specs.Outstanding.{Slots, is_covered, HasNoRoom}
use Rattle.engine.specs.Counting.{taken}
use Rattle.transactions.specs.declared.used.Used.{Used}
use Rattle.transactions.specs.declared.used.Used.TheVariants.{Entry as EntryOf, Tables}
use Rattle.transactions.specs.Tracking.{TrackedValue, IsTracked, unit_of, number_after}

-- what a transaction's token says: its slot, and its number among all that began
pub record TransactionValue : Type 0 where
  pub slot : ℕ
  pub number : ℕ

-- a word of 64 bits that keeps it: the number in the upper 48 bits, the slot in the lower 16
abbrev pub bits_of : TransactionValue → ℕ
bits_of t = t.number * 65536 + t.slot

-- the transaction in a word
abbrev pub transaction_of : ℕ → TransactionValue
transaction_of bits = record { slot = bits % 65536; number = bits / 65536 }

-- so that they fit there
abbrev pub FitsBits : ℕ → ℕ → Type 0
FitsBits slot number = (slot < 2 ^ 16) × (number < 2 ^ 48)

-- It is of a unit's own, whose next transaction has this number.
abbrev pub IsOwn : ℕ → TransactionValue → Type 0
IsOwn next transaction = unit_of transaction.number ≡ unit_of next

-- It is the one that is outstanding in its slot.
pub record IsOutstandingIn (slots : Slots) (transaction : TransactionValue) : Type 0 where
  pub outstanding : OutstandingTransaction
  pub at : slice_get slots transaction.slot ≡ Some (Some outstanding)
  pub number : outstanding.number ≡ transaction.number

-- a transaction that uses this, which was born then
abbrev pub new_transaction : ℕ → Used → ℕ → OutstandingTransaction
new_transaction number used born =
    record { number = number; used = used; born = born; covered = false }

-- the tracked unit with one more outstanding in this slot
abbrev pub with_outstanding : TrackedValue → ℕ → Used → ℕ → TrackedValue
with_outstanding t slot used born = record t {
  outstanding = slice_set t.outstanding slot (Some (new_transaction t.next_number used born));
  next_number = number_after t.next_number;
}

-- It began in a slot that was free, and uses this, which was born then.
pub record IsBegun (old : TrackedValue) (used : Used) (born : ℕ)
    (new : TrackedValue) (token : TransactionValue) : Type 0 where
  pub free : slice_get old.outstanding token.slot ≡ Some None
  pub number : token.number ≡ old.next_number
  pub new_is : new ≡ with_outstanding old token.slot used born

-- It began with the entry that is held. Not held: nothing is held under the tag. Full: no slot is
-- free.
abbrev pub IsBeginAnswer :
    TrackedValue → Tag → TrackedValue → Result (Entry × TransactionValue) BeginFault → Type 0
IsBeginAnswer old tag new (Ok both) =
    (finite.get old.unit.caches.entries tag ≡ Some both.0) × (both.0.tag ≡ tag)
    × IsBegun old (EntryOf tag) both.0.born new both.1
IsBeginAnswer old tag new (Err NotHeld) =
    (new ≡ old) × ((finite.get old.unit.caches.entries tag ≡ None) ⊎ ¬ IsBlock tag)
IsBeginAnswer old tag new (Err Full) =
    (new ≡ old) × (entry : Entry) × (finite.get old.unit.caches.entries tag ≡ Some entry)
    × HasNoRoom old.outstanding
IsBeginAnswer old tag new (Err (Walked fault)) = ⊥

-- Nothing that was taken since the walk began covers the tag.
abbrev pub IsGoodWalk : TrackedValue → ℕ → Tag → Type 0
IsGoodWalk old walk tag =
    (list : List Taken) → IsTracked old list
    → (walk ≤ length list) × ¬ HasCoveredSince list walk tag

-- The caches refuse it only for a bad block; the walk's own faults are those of a block.
abbrev pub IsRefusedFor : Tag → WalkFault → Type 0
IsRefusedFor tag Overtaken = IsBlock tag
IsRefusedFor tag TooOld = IsBlock tag
IsRefusedFor tag OtherUnit = IsBlock tag
IsRefusedFor tag (Refused fault) = (fault ≡ BadBlock) × ¬ IsBlock tag

-- It began with what a good walk read. Refused otherwise, as an entry would be. Full: no slot is
-- free.
abbrev pub IsBeginWalkedAnswer :
    TrackedValue → ℕ → Tag → TrackedValue → Result TransactionValue BeginFault → Type 0
IsBeginWalkedAnswer old walk tag new (Ok token) =
    IsBegun old (EntryOf tag) walk new token × IsGoodWalk old walk tag
IsBeginWalkedAnswer old walk tag new (Err NotHeld) = ⊥
IsBeginWalkedAnswer old walk tag new (Err Full) = (new ≡ old) × HasNoRoom old.outstanding
IsBeginWalkedAnswer old walk tag new (Err (Walked fault)) =
    (new ≡ old) × AnswersWalk old walk tag (Err fault) × IsRefusedFor tag fault

-- A walk of this number began, and a transaction that uses the tables. None: no slot is free.
abbrev pub IsOutstandingWalk :
    ℕ → TrackedValue → TrackedValue → Option (ℕ × TransactionValue) → Type 0
IsOutstandingWalk number old new (Some both) =
    (both.0 ≡ number) × IsBegun old Tables (taken old.unit.counts) new both.1
IsOutstandingWalk number old new None = (new ≡ old) × HasNoRoom old.outstanding

-- Its slot is free again, nothing else changed, and if it was covered, there is one fewer to wait
-- for.
pub record IsEnded (old : TrackedValue) (token : TransactionValue)
    (new : TrackedValue) : Type 0 where
  pub own : IsOwn old.next_number token
  pub was : IsOutstandingIn old.outstanding token
  pub new_is : new ≡ record old { outstanding = slice_set old.outstanding token.slot None }
  pub fewer :
      count_by is_covered new.outstanding + cond was.outstanding.covered 1 0
      ≡ count_by is_covered old.outstanding

-- It was covered, and none that is outstanding now is.
abbrev pub WasLastCovered : OutstandingTransaction → Slots → Type 0
WasLastCovered was now = (was.covered ≡ true) × (count_by is_covered now ≡ 0)

-- It ended, and the answer tells whether it was the last covered one; or the token isn't of a
-- transaction that is outstanding here, and is given back.
abbrev pub IsEndAnswer :
    TrackedValue → TransactionValue → TrackedValue → Result Ended TransactionValue → Type 0
IsEndAnswer old token new (Ok ended) =
    (done : IsEnded old token new)
    × ((ended ≡ LastCovered) ↔ WasLastCovered done.was.outstanding new.outstanding)
IsEndAnswer old token new (Err back) =
    ¬ (IsOwn old.next_number token × IsOutstandingIn old.outstanding token)
    × (back ≡ token) × (new ≡ old)
