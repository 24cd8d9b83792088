-- What the calls of a unit's walks and transactions do to it, and what C gets of them.
use Rattle.std.specs.Prelude.{◌≡◌, ◌<◌, ℕ, [], Result, Ok, Err, IfOk, OnOk, OnErr}
use Rattle.std.specs.Prelude.{Option, Some, None, IfSome}
use Rattle.caches.specs.declared.tag.Tag.{Tag}
use Rattle.caches.specs.declared.tag.Entry.{Entry}
use Rattle.transactions.specs.declared.transaction.BeginFault.{BeginFault}
use Rattle.transactions.specs.declared.transaction.BeginFault.TheVariants.{NotHeld, Full, Walked}
use Rattle.transactions.specs.declared.transaction.Ended.{Ended}
use Rattle.transactions.specs.declared.transaction.Ended.TheVariants.{LastCovered, Other}
use Rattle.transactions.specs.declared.transaction.OutstandingCounts.{OutstandingCounts}
use Rattle.transactions.specs.declared.walk.WalkFault.{WalkFault}
use Rattle.transactions.specs.declared.walk.WalkFault.TheVariants as walk
use Rattle.transactions.specs.Outstanding.{AreCountsOf}
use Rattle.transactions.specs.Tracking.{StaysTracked}
use Rattle.transactions.specs.Transactions.{TransactionValue, bits_of, transaction_of}
use Rattle.transactions.specs.Transactions.{IsBeginAnswer, IsBeginWalkedAnswer, IsEndAnswer}
use Rattle.transactions.specs.Transactions.{IsOutstandingWalk}
use Rattle.transactions.specs.Walks.{WalkAnswer, AnswersWalk, IsCachesAnswer, with_walked}
use Rattle.transactions.specs.TrackedQueueUnits.{TrackedQueueValue, tracked_in, KeepsQueue}
use Rattle.transactions.specs.TrackedQueueUnits.{with_its_unit, walk_now, began_in}
use Rattle.smmuq_c.specs.declared.object.Object.{Object}
use Rattle.smmuq_c.specs.declared.status.Status.{Status}
use Rattle.smmuq_c.specs.declared.status.Status.TheVariants as status
use Rattle.smmuq_c.specs.declared.status.Status.TheVariants.{Done}
use Rattle.smmuq_c.specs.declared.tags.TagWords.{TagWords}
use Rattle.smmuq_c.specs.declared.words.Held.{Held}
use Rattle.smmuq_c.specs.declared.words.TransactionCounts.{TransactionCounts}
use Rattle.smmuq_c.specs.Calls.{OfUnit, DoesSaid}
use Rattle.smmuq_c.specs.Entries.{entry_words}
use Rattle.smmuq_c.specs.Tags.{IsTagOf}

-- ---- statuses

abbrev pub walk_status : WalkFault → Status
walk_status walk.Overtaken = status.Overtaken
walk_status walk.TooOld = status.TooOld
walk_status walk.OtherUnit = status.OtherWalk
walk_status (walk.Refused fault) = status.Cache fault

abbrev pub fill_walked_status : WalkAnswer → Status
fill_walked_status (Ok was) = Done
fill_walked_status (Err fault) = walk_status fault

abbrev pub begin_status : BeginFault → Status
begin_status NotHeld = status.NotHeld
begin_status Full = status.TransactionsFull
begin_status (Walked fault) = walk_status fault

abbrev pub begun_status : {A : Type 0} → Result A BeginFault → Status
begun_status (Ok begun) = Done
begun_status (Err fault) = begin_status fault

abbrev pub outstanding_walk_status : Option (ℕ × TransactionValue) → Status
outstanding_walk_status (Some both) = Done
outstanding_walk_status None = status.TransactionsFull

abbrev pub end_status : Result Ended TransactionValue → Status
end_status (Ok ended) = Done
end_status (Err back) = status.NotOutstanding

-- ---- walks

-- It told the number of a walk that begins now, and changed nothing.
pub record HasBegunWalk (told : ℕ) (old new : TrackedQueueValue) (status : Status) : Type 0 where
  pub told_is : told ≡ walk_now old
  pub new_is : new ≡ old
  pub status_is : status ≡ Done

-- What the walk of this number read was filled, born when that began; or it was refused, by what
-- was taken since or by the caches, and nothing changed.
pub record HasFilledWalked (number : ℕ) (tag : Tag) (value : ℕ) (old new : TrackedQueueValue)
    (status : Status) : Type 0 where
  pub answer : WalkAnswer
  pub answered : AnswersWalk (tracked_in old) (began_in old number) tag answer
  pub caches : IsCachesAnswer old.queue.unit.caches tag answer
  pub ok : OnOk answer (tracked_in new
      ≡ with_walked (began_in old number) tag value (tracked_in old))
  pub err : OnErr answer (new ≡ old)
  pub rest : new ≡ with_its_unit new.queue.unit old
  pub tracked : StaysTracked (tracked_in old) (tracked_in new) []
  pub status_is : status ≡ fill_walked_status answer

-- ---- transactions

-- The queue and its walks stay, and so does what was taken.
pub record OnlyTransactions (old new : TrackedQueueValue) : Type 0 where
  pub queue : KeepsQueue old new
  pub tracked : StaysTracked (tracked_in old) (tracked_in new) []

-- One began with the entry that is held, and both are told; or it was refused. Its number isn't 0.
pub record HasBegun (tag : Tag) (held : Held) (told : ℕ) (old new : TrackedQueueValue)
    (status : Status) : Type 0 where
  pub answer : Result (Entry × TransactionValue) BeginFault
  pub begun : IsBeginAnswer (tracked_in old) tag (tracked_in new) answer
  pub only : OnlyTransactions old new
  pub held_is : IfOk answer (λ both. held ≡ entry_words both.0)
  pub told_is : IfOk answer (λ both. told ≡ bits_of both.1)
  pub some : IfOk answer (λ both. 0 < told)
  pub status_is : status ≡ begun_status answer

-- One began with what a walk read, and is told; or it was refused. Its number isn't 0.
pub record HasBegunWalked (number : ℕ) (tag : Tag) (told : ℕ) (old new : TrackedQueueValue)
    (status : Status) : Type 0 where
  pub answer : Result TransactionValue BeginFault
  pub begun :
      IsBeginWalkedAnswer (tracked_in old) (began_in old number) tag (tracked_in new) answer
  pub only : OnlyTransactions old new
  pub told_is : IfOk answer (λ transaction. told ≡ bits_of transaction)
  pub some : IfOk answer (λ transaction. 0 < told)
  pub status_is : status ≡ begun_status answer

-- A walk began now, and a transaction that uses the tables, and both are told; or there was no
-- room. The transaction's number isn't 0.
pub record HasBegunOutstandingWalk (walk told : ℕ) (old new : TrackedQueueValue)
    (status : Status) : Type 0 where
  pub answer : Option (ℕ × TransactionValue)
  pub begun : IsOutstandingWalk (walk_now old) (tracked_in old) (tracked_in new) answer
  pub only : OnlyTransactions old new
  pub walk_is : IfSome answer (λ both. walk ≡ both.0)
  pub told_is : IfSome answer (λ both. told ≡ bits_of both.1)
  pub some : IfSome answer (λ both. 0 < told)
  pub status_is : status ≡ outstanding_walk_status answer

-- 1 if it was the last that a CMD_SYNC waits for
abbrev pub last_word : Ended → ℕ
last_word LastCovered = 1
last_word Other = 0

-- The one of this number ended, and whether it was the last is told; or none of it is outstanding.
pub record HasEnded (number last : ℕ) (old new : TrackedQueueValue) (status : Status) : Type 0 where
  pub answer : Result Ended TransactionValue
  pub ended : IsEndAnswer (tracked_in old) (transaction_of number) (tracked_in new) answer
  pub only : OnlyTransactions old new
  pub last_is : IfOk answer (λ ended. last ≡ last_word ended)
  pub status_is : status ≡ end_status answer

abbrev pub transaction_counts : OutstandingCounts → TransactionCounts
transaction_counts counts = record { outstanding = counts.outstanding; covered = counts.covered }

-- It told how many are outstanding, and changed nothing.
pub record HasToldOutstanding (told : TransactionCounts) (old new : TrackedQueueValue)
    (status : Status) : Type 0 where
  pub counts : OutstandingCounts
  pub counted : AreCountsOf old.outstanding counts
  pub told_is : told ≡ transaction_counts counts
  pub new_is : new ≡ old
  pub status_is : status ≡ Done

-- ---- what each call does to a unit

abbrev pub BeginsWalk : ℕ → Object → Object → Status → Type 0
BeginsWalk told = OfUnit (HasBegunWalk told)

abbrev pub BeginsOutstandingWalk : ℕ → ℕ → Object → Object → Status → Type 0
BeginsOutstandingWalk walk told = OfUnit (HasBegunOutstandingWalk walk told)

abbrev pub FillsWalked : ℕ → TagWords → ℕ → Object → Object → Status → Type 0
FillsWalked number tag value = OfUnit (DoesSaid (IsTagOf tag) (λ t. HasFilledWalked number t value))

abbrev pub Begins : TagWords → Held → ℕ → Object → Object → Status → Type 0
Begins tag held told = OfUnit (DoesSaid (IsTagOf tag) (λ t. HasBegun t held told))

abbrev pub BeginsWalked : ℕ → TagWords → ℕ → Object → Object → Status → Type 0
BeginsWalked number tag told = OfUnit (DoesSaid (IsTagOf tag) (λ t. HasBegunWalked number t told))

abbrev pub Ends : ℕ → ℕ → Object → Object → Status → Type 0
Ends number last = OfUnit (HasEnded number last)

abbrev pub TellsOutstanding : TransactionCounts → Object → Object → Status → Type 0
TellsOutstanding told = OfUnit (HasToldOutstanding told)
