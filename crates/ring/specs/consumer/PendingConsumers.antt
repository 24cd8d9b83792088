-- A consumer with the run that it read last, and what its calls do.
use Rattle.std.specs.Prelude.{◌≡◌, ◌<◌, ◌≤◌, ◌++◌, ◌⊎◌, ⊤, ℕ, true, false, List, [], ◌∷◌}
use Rattle.std.specs.Prelude.{length, take, map, Option, None, Some, MatchOption, Result, Ok, Err, slice_get}
use Rattle.cmdcodec.specs.declared.ill.Ill.{Ill}
use Rattle.cmdcodec.specs.Legality.{first_ill}
use Rattle.ring.specs.Runs.{Raw, Consumer, Outcome, Applied, Replaced, Taken, Trail}
use Rattle.ring.specs.table.{Grew}
use Rattle.ring.specs.declared.consumer.taken.Found.{Found}
use Rattle.ring.specs.declared.consumer.taken.Found.TheVariants.{Empty, Drained, Unwritten, Ready}
use Rattle.ring.specs.declared.consumer.uncompleted.Uncompleted.{Uncompleted}
use Rattle.ring.specs.declared.consumer.uncompleted.Uncompleted.TheVariants.{Count, Illegal}
use Rattle.ring.specs.declared.consumer.pending_consumer.Held.{Held}
use Rattle.ring.specs.declared.consumer.pending_consumer.Held.TheVariants as held
use Rattle.ring.specs.consumer.Consumers.{ConsumerValue}
use Rattle.ring.specs.consumer.Pendings.{PendingValue, HasSeen}
use Rattle.ring.specs.consumer.Taking.{TookNone, TookUnwritten, TookRun}
use Rattle.ring.specs.consumer.Completing.{completed, unknowing, taken_of, with_outcome, HasOutcome}

-- Nothing is pending.
abbrev pub with_none : {D : Type 0} → ConsumerValue D → PendingValue D
with_none consumer = record { consumer = consumer; raws = [] }

-- ---- what is pending stays in the ring

abbrev pub IsFirst : Raw → List Raw → Type 0
IsFirst raw raws = (rest : List Raw) × (raws ≡ raw ∷ rest)

-- The first of these was read at the head, and not taken.
abbrev pub FirstIsSeen : List Raw → Trail → Type 0
FirstIsSeen raws trail = (raw : Raw) → IsFirst raw raws → HasSeen trail raw

-- What came first comes first again.
abbrev pub BeginsAgain : List Raw → List Raw → Type 0
BeginsAgain old new = (raw : Raw) → IsFirst raw old → IsFirst raw new

-- What was read at the head, and not taken, comes first.
abbrev pub BeginsWithSeen : Trail → List Raw → Type 0
BeginsWithSeen trail raws = (raw : Raw) → HasSeen trail raw → IsFirst raw raws

-- ---- taking a run

-- What a take found at the head: commands, which are pending then, or why there are none.
abbrev pub HasFoundRun : {D : Type 0} → ℕ → PendingValue D → PendingValue D → Found → Type 0
HasFoundRun most old new Empty = TookNone false old.consumer new.consumer × (new.raws ≡ [])
HasFoundRun most old new Drained = TookNone true old.consumer new.consumer × (new.raws ≡ [])
HasFoundRun most old new Unwritten = TookUnwritten most old.consumer new.consumer × (new.raws ≡ [])
HasFoundRun most old new Ready = TookRun most old.consumer new

-- ---- completing

-- all that is taken once the first `count` are, with this outcome
abbrev pub taken_with : {D : Type 0} → ℕ → Outcome → PendingValue D → List Taken
taken_with count outcome p =
    taken_of p.consumer.trail ++ map (with_outcome outcome) (take count p.raws)

-- What is settled is so for that, with each outcome that the first `count` allow.
abbrev pub IsSettledOnceTaken : {D : Type 0} → (List Taken → Type 0) → ℕ → PendingValue D → Type 0
IsSettledOnceTaken settled count p =
    (o : Outcome) → HasOutcome o (take count p.raws) → settled (taken_with count o p)

-- The first `count` pending commands were taken, all with this outcome, while this device was
-- lent, and then each CMD_SYNC among them was acknowledged. None is pending then.
pub record HasCompleted {D : Type 0} (count : ℕ) (outcome : Outcome) (device : D)
    (old new : PendingValue D) : Type 0 where
  pub some : 1 ≤ count
  pub within : count ≤ length old.raws
  pub outcome_is : HasOutcome outcome (take count old.raws)
  pub consumer_is : record new.consumer { history = [] } ≡ completed count device (unknowing old)
  pub grew :
      Grew Consumer old.consumer.trail new.consumer.trail old.consumer.history new.consumer.history
  pub taken_are : taken_of new.consumer.trail ≡ taken_with count outcome old
  pub none_pending : new.raws ≡ []

-- the first `count` commands are legal
abbrev pub AreLegal : ℕ → List Raw → Type 0
AreLegal count raws =
    (i : ℕ) (raw : Raw) → i < count → slice_get raws i ≡ Some raw → first_ill raw ≡ None

-- This is illegal in one of the first `count` commands, and those before that one are legal.
pub record IsFirstIllegal (count : ℕ) (raws : List Raw) (ill : Ill) : Type 0 where
  pub place : ℕ
  pub raw : Raw
  pub early : place < count
  pub at : slice_get raws place ≡ Some raw
  pub ill_is : first_ill raw ≡ Some ill
  pub legal : AreLegal place raws

-- The fault of the first illegal one of these, or None if all are legal.
abbrev pub IsFirstFault : ℕ → List Raw → Option Ill → Type 0
IsFirstFault count raws found =
    MatchOption found (HasOutcome Applied (take count raws)) (λ ill. IsFirstIllegal count raws ill)

abbrev pub IsBadCount : ℕ → List Raw → Type 0
IsBadCount count raws = (count ≡ 0) ⊎ (length raws < count)

-- `count` commands were completed: legal ones, or one illegal one, without effect. An illegal one
-- among several is refused, as is a count of 0 or above that of the pending commands.
abbrev pub HasCompletedFor : {D : Type 0}
    → ℕ → D → PendingValue D → PendingValue D → Result Outcome Uncompleted → Type 0
HasCompletedFor count device old new (Ok Applied) = HasCompleted count Applied device old new
HasCompletedFor count device old new (Ok Replaced) =
    (count ≡ 1) × HasCompleted count Replaced device old new
HasCompletedFor count device old new (Err Count) = IsBadCount count old.raws × (new ≡ old)
HasCompletedFor count device old new (Err (Illegal ill)) =
    (1 < count) × (count ≤ length old.raws) × IsFirstIllegal count old.raws ill × (new ≡ old)

-- ---- in between: the consumer is there between two calls

abbrev pub nobody : {D : Type 0} → ConsumerValue D
nobody = record {
  ring = record {
    table = record {
      words = 0;
      slots = 0;
      views_name = 0;
      atom = 0;
      block = 0;
      offset = 0;
      slot_names = [];
    };
    made_with = record { geometry = 0; senders = 0; max_batches = 0; flags = 0 };
  };
  trail = [];
  history = [];
  lent = None;
}

abbrev pub held_as : {D : Type 0} → Held D → PendingValue D
held_as (held.Idle consumer) = with_none consumer
held_as (held.Pending run) = run

abbrev pub held_in : {D : Type 0} → Option (Held D) → PendingValue D
held_in None = with_none nobody
held_in (Some held) = held_as held

abbrev pub IsHeld : {D : Type 0} → Option (Held D) → Type 0
IsHeld None = ⊥
IsHeld (Some held) = ⊤
