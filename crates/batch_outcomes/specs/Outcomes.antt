-- What is remembered of batches, and what is answered of one.
use Rattle.std.specs.Prelude.{◌≡◌, ◌<◌, ◌≤◌, ◌+◌, ◌-◌, Bool, true, false, ◌^◌, ℕ, zero, suc, min, List, length, None, Some, slice_get}
use Rattle.batch_outcomes.specs.declared.settled.Settled.{Settled}
use Rattle.batch_outcomes.specs.declared.told.Told.{Told}
use Rattle.batch_outcomes.specs.declared.batch_outcome.BatchOutcome.{BatchOutcome}
use Rattle.batch_outcomes.specs.declared.batch_outcome.BatchOutcome.TheVariants as answer
use Rattle.batch_outcomes.specs.Settled.{lost_behind, losses_of, last_of, AreNumbered}

-- what was settled, the newest first, and of how many senders
pub record OutcomesValue : Type 0 where
  pub settled : List Settled
  pub senders : ℕ

-- a count of 32 bits, which stays at its greatest value
abbrev pub counted : ℕ → ℕ
counted n = min n (2 ^ 32 - 1)

-- ---- what is answered

-- So many were lost, at least one.
pub record IsLost (sender number count : ℕ) (settled : List Settled) : Type 0 where
  pub lost : ℕ
  pub some : 1 ≤ lost
  pub losses : losses_of sender number settled ≡ Some lost
  pub count_is : count ≡ counted lost

-- This batch of a sender lost a command.
pub record LostSome (sender number : ℕ) (settled : List Settled) : Type 0 where
  pub lost : ℕ
  pub some : 1 ≤ lost
  pub losses : losses_of sender number settled ≡ Some lost

-- It is settled. It or a later batch of this sender lost a command, and one behind that, too.
pub record IsForgotten (sender number : ℕ) (settled : List Settled) : Type 0 where
  pub lost : ℕ
  pub losses : losses_of sender number settled ≡ Some lost
  pub first : ℕ
  pub not_ahead : number ≤ first
  pub first_lost : LostSome sender first settled
  pub second : ℕ
  pub behind : first < second
  pub second_lost : LostSome sender second settled

abbrev pub IsOutcome : List Settled → ℕ → ℕ → BatchOutcome → Type 0
IsOutcome settled sender number answer.Complete = losses_of sender number settled ≡ Some 0
IsOutcome settled sender number (answer.Lost count) = IsLost sender number count settled
IsOutcome settled sender number answer.Unknown = IsForgotten sender number settled
IsOutcome settled sender number answer.NotYet = losses_of sender number settled ≡ None

-- ---- what is remembered

-- one more command of a body
abbrev pub lost_then : ℕ → Bool → ℕ
lost_then lost true = lost
lost_then lost false = counted (lost + 1)

-- one more batch of a sender
abbrev pub told_then : Told → ℕ → ℕ → Told
told_then t number zero = record t { last = number }
told_then t number (suc lost) = record { last = number; losing = number; count = suc lost; earlier = t.losing }

-- Of a sender it is known how far its batches are settled, which of them was the last that lost a command, with how many,
-- and which was the one before that.
pub record IsTold (sender : ℕ) (t : Told) (settled : List Settled) : Type 0 where
  pub last : t.last ≡ last_of sender settled
  pub losing : t.losing ≤ t.last
  pub earlier : t.earlier ≤ t.losing
  pub apart : 1 ≤ t.earlier → t.earlier < t.losing
  pub its : 1 ≤ t.losing → IsLost sender t.losing t.count settled
  pub its_earlier : 1 ≤ t.earlier → LostSome sender t.earlier settled
  pub none_later : (k lost : ℕ) → losses_of sender k settled ≡ Some (suc lost) → k ≤ t.losing
  pub none_between : (k lost : ℕ) → losses_of sender k settled ≡ Some (suc lost) → k < t.losing → k ≤ t.earlier

pub record IsRemembered (settled : List Settled) (all : List Told) (lost : ℕ) : Type 0 where
  pub lost_is : lost ≡ counted (lost_behind settled)
  pub numbered : AreNumbered settled
  pub each : (s : ℕ) (t : Told) → slice_get all s ≡ Some t → IsTold s t settled
