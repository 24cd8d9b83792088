-- The queue by a keeper: what is left of each sender between two calls, and the result of a try to reserve.
use Rattle.std.specs.Prelude.{◌≡◌, ℕ, ◌<◌, Bool, List, [], length, slice_index_or, Option, None, Result, Ok, Err}
use Rattle.ring.specs.Runs.{Raw, trail_of, Ring, Consumer, Sender}
use Rattle.qindex.specs.Positions.{IndexValue}
use Rattle.ring.specs.declared.sender.cause.Cause.{Cause}
use Rattle.ring.specs.declared.sender.tally.Tally.{Tally}
use Rattle.ring.specs.sender.Reservations.{number_when}
use Rattle.ring.specs.Rings.{RingValue}
use Rattle.ring.specs.Keepers.{KeeperValue, IdleReservationValue, KeepsOthers, IsIdleSender, IsIdleReservation, IsIdleConsumer}
use Rattle.simulator.specs.declared.queue.reserved.Reserved.{Reserved}
use Rattle.simulator.specs.declared.queue.Seat.{Seat}
use Rattle.simulator.specs.declared.queue.Seat.TheVariants.{Idle, Open}
use Rattle.simulator.specs.queue.Reserving.{Try, try_to_reserve, sent_by}

-- ---- one seat

-- The sender has no reservation.
pub record IsIdleSeat (keeper : KeeperValue) (s : ℕ) (tally : Tally) : Type 0 where
  pub sender_is : tally.sender ≡ s
  pub idle : IsIdleSender keeper tally

-- The sender's reservation is of a batch of this body, and nothing of it is written.
pub record IsOpenSeat (keeper : KeeperValue) (s : ℕ) (body : List Raw) (idle : IdleReservationValue) : Type 0 where
  pub sender_is : idle.tally.sender ≡ s
  pub open_is : IsIdleReservation keeper body idle
  pub unwritten : idle.written ≡ 0
  pub unflipped : idle.flipped ≡ 0

abbrev pub IsSeatOf : KeeperValue → ℕ → Seat → Type 0
IsSeatOf keeper s (Idle tally) = IsIdleSeat keeper s tally
IsSeatOf keeper s (Open idle body) = IsOpenSeat keeper s body idle

abbrev pub IsIdle : Seat → Type 0
IsIdle seat = (tally : Tally) × (seat ≡ Idle tally)

-- ---- all of them

-- a queue as contracts see it
pub record QueueValue : Type 0 where
  pub keeper : KeeperValue
  pub seats : List Seat

abbrev pub ring_in : QueueValue → Ring
ring_in queue = queue.keeper.ring.made_with

-- The ring is the keeper's, who has all seats, and there is one seat for each sender.
pub record IsQueue (ring : RingValue) (queue : QueueValue) : Type 0 where
  pub ring_is : queue.keeper.ring ≡ ring
  pub whole : queue.keeper.lent ≡ None
  pub many : length queue.seats ≡ (ring_in queue).senders
  pub each : (s : ℕ) (other : Seat) → s < length queue.seats → IsSeatOf queue.keeper s (slice_index_or queue.seats s other)

-- It is a sender's seat with any keeper, before the first step.
abbrev pub IsNewSeat : ℕ → Seat → Type 0
IsNewSeat s seat = (keeper : KeeperValue) → keeper.run ≡ [] → IsSeatOf keeper s seat

-- So many of them, in the order of their senders.
pub record AreNew (senders : ℕ) (seats : List Seat) : Type 0 where
  pub many : length seats ≡ senders
  pub each : (s : ℕ) (other : Seat) → s < length seats → IsNewSeat s (slice_index_or seats s other)

-- ---- around a call

-- A sender's seat may be lent: the keeper is the ring's and has all seats, and the sender is one of the ring's.
pub record MayLend (ring : RingValue) (keeper : KeeperValue) (s : ℕ) : Type 0 where
  pub ring_is : keeper.ring ≡ ring
  pub whole : keeper.lent ≡ None
  pub known : s < keeper.ring.made_with.senders

-- A sender's seat was lent and is back: the ring stays, and so does what is left of the others.
pub record IsBack (s : ℕ) (old new : KeeperValue) : Type 0 where
  pub ring_is : new.ring ≡ old.ring
  pub whole : new.lent ≡ None
  pub others : KeepsOthers (Sender s) old new

-- A sender took steps: the ring stays, and so does what is left of the consumer.
pub record LeavesConsumer (old new : KeeperValue) : Type 0 where
  pub ring_is : new.ring ≡ old.ring
  pub left : (head : IndexValue) (taken : ℕ) → IsIdleConsumer old head taken → IsIdleConsumer new head taken
  pub trail_is : trail_of Consumer new.run ≡ trail_of Consumer old.run

-- ---- the result of a try to reserve

-- a try by a sender of the keeper's ring
abbrev pub tried_by : KeeperValue → ℕ → List Raw → Bool → Try
tried_by keeper s body closes = try_to_reserve keeper.ring.made_with s body closes keeper.run

-- the first slot and the number of a reservation
abbrev pub reserved_as : IdleReservationValue → Reserved
reserved_as idle = record { first = idle.start; number = number_when idle.closes idle.tally.numbers }

-- The answer is a reservation, which is left of the sender.
pub record IsTriedWell (old new : KeeperValue) (s : ℕ) (body : List Raw) (closes : Bool) (idle : IdleReservationValue) : Type 0 where
  pub run_is : new.run ≡ (tried_by old s body closes).run
  pub answer_is : (tried_by old s body closes).answer ≡ Ok (reserved_as idle)
  pub closes_is : idle.closes ≡ closes
  pub seat : IsOpenSeat new s body idle

-- The answer is a cause, and the sender is idle.
pub record IsTriedInVain (old new : KeeperValue) (s : ℕ) (body : List Raw) (closes : Bool) (tally : Tally) (cause : Cause) : Type 0 where
  pub run_is : new.run ≡ (tried_by old s body closes).run
  pub answer_is : (tried_by old s body closes).answer ≡ Err cause
  pub seat : IsIdleSeat new s tally

abbrev pub HasTried : KeeperValue → KeeperValue → ℕ → List Raw → Bool → Result IdleReservationValue (Tally × Cause) → Type 0
HasTried old new s body closes (Ok idle) = IsTriedWell old new s body closes idle
HasTried old new s body closes (Err refused) = IsTriedInVain old new s body closes refused.0 refused.1

-- ---- the result of a try that is published at once

-- The answer and the run are those of a try that is published at once, and the seat is back.
pub record HasSent (old new : KeeperValue) (s : ℕ) (body : List Raw) (closes : Bool) (tally : Tally) (answer : Result (Option ℕ) Cause) : Type 0 where
  pub run_is : new.run ≡ (sent_by old.ring.made_with s body closes old.run).run
  pub answer_is : answer ≡ (sent_by old.ring.made_with s body closes old.run).answer
  pub back : IsBack s old new
  pub seat : IsIdleSeat new s tally
