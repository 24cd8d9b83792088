-- What contracts see of a keeper, which has all seats and so knows the whole run.
use Rattle.std.specs.Prelude.{◌≡◌, ◌≢◌, ◌⊎◌, ℕ, zero, suc, ◌≤◌, Bool, true, false, cond, List, [], ◌∷◌, ◌++◌, Option, Some, None}
use Rattle.ring.specs.table.{TableId, Participant, Holding, WentOn, Any, ring_of, history_of_first, RunStands, AllKnow, run_by, grown_run, PortValue}
use Rattle.ring.specs.Runs.{Raw, Who, Consumer, Sender, Event, Trail, Run, same, trail_of, IsOne, Ring}
use Rattle.qindex.specs.Positions.{IndexValue}
use Rattle.ring.specs.sender.{Tally, SenderValue, IsSender, ReservationValue, IsOpen}
use Rattle.ring.specs.Rings.{RingValue}
use Rattle.ring.specs.NewRings.{made_with}
use Rattle.ring.specs.consumer.{ConsumerValue, IsConsumer}

-- a keeper: its ring, to whom a seat is lent, and the run up to the lending
pub record KeeperValue : Type 0 where
  pub ring : RingValue
  pub lent : Option Who
  pub run : Run

-- ---- who sits at the keeper's seat

abbrev pub sits : Who → List Participant → Bool
sits who [] = false
sits who (p ∷ ps) = cond (same p.who who) true (sits who ps)

-- the first who doesn't sit there, of `more` senders from the k-th on and the consumer
abbrev pub missing_from : ℕ → ℕ → List Participant → Option Who
missing_from k zero all = cond (sits Consumer all) None (Some Consumer)
missing_from k (suc more) all = cond (sits (Sender k) all) (missing_from (suc k) more all) (Some (Sender k))

abbrev pub missing : List Participant → Option Who
missing all = missing_from 0 (ring_of all).senders all

abbrev pub keeper_of : TableId → List Participant → KeeperValue
keeper_of table all = record { ring = record { table = table; made_with = ring_of all }; lent = missing all; run = history_of_first all }

-- All but the one to whom a seat is lent sit there and know this run, which stands.
pub record AllBut (lent : Option Who) (ring : Ring) (run : Run) (all : List Participant) : Type 0 where
  pub some : 1 ≤ ring.senders
  pub each : AllKnow ring run all
  pub others : (who : Who) → IsOne ring.senders who → Some who ≢ lent → Any (λ p. p.who ≡ who) all
  pub stands : RunStands ring run

pub record IsKeeper (me : Holding) : Type 0 where
  pub no_slots : me.1 ≡ []
  pub knows : AllBut (missing me.0) (ring_of me.0) (history_of_first me.0) me.0

-- ---- a seat is lent, and comes back

-- a participant's part of what the keeper knows
abbrev pub own_port : Who → KeeperValue → PortValue
own_port who k = record { ring = k.ring; who = who; trail = trail_of who k.run; history = k.run }

abbrev pub has_lent : Who → KeeperValue → KeeperValue
has_lent who k = record k { lent = Some who }

-- The seat comes back with this trail.
abbrev pub has_back : Who → Trail → KeeperValue → KeeperValue
has_back who trail k = record k { lent = None; run = grown_run who k.run trail }

-- The run has grown at its end by exactly these events of this participant.
pub record HasAdded (who : Who) (added : Trail) (old new : Run) : Type 0 where
  pub run_is : new ≡ run_by who added ++ old
  pub trail_is : trail_of who new ≡ added ++ trail_of who old

-- The added events are those by which the trail is longer than in the old run.
abbrev pub Adds : Who → Trail → Run → Run → Type 0
Adds who trail old new = (added : Trail) → trail ≡ added ++ trail_of who old → HasAdded who added old new

-- The new run has this trail. It is the run that the participant knew last, or the old run.
pub record IsNews (who : Who) (trail : Trail) (history old new : Run) : Type 0 where
  pub trail_is : trail_of who new ≡ trail
  pub went_on : WentOn who history new
  pub newest : (history ≡ new) ⊎ (old ≡ new)

-- ---- what is left of one while the keeper has its seat

abbrev pub own_sender : ℕ → KeeperValue → SenderValue
own_sender s k = record { ring = k.ring; number = s; trail = trail_of (Sender s) k.run; history = k.run }

-- A sender between two calls: its tally is that of the run.
abbrev pub IsIdleSender : KeeperValue → Tally → Type 0
IsIdleSender k tally = IsSender (own_port (Sender tally.sender) k) tally

-- the consumer between two calls: its head, how many were taken, and the device that was lent last
pub record IdleConsumerValue (D : Type 0) : Type 0 where
  pub head : IndexValue
  pub taken : ℕ
  pub lent : Option D

abbrev pub own_consumer : {D : Type 0} → Option D → KeeperValue → ConsumerValue D
own_consumer lent k = record { ring = k.ring; trail = trail_of Consumer k.run; history = k.run; lent = lent }

-- The head and the count of commands taken are those of the run.
abbrev pub IsIdleConsumer : KeeperValue → IndexValue → ℕ → Type 0
IsIdleConsumer k head taken = IsConsumer (own_port Consumer k) head taken

-- a reservation between two calls, without its batch
pub record IdleReservationValue : Type 0 where
  pub tally : Tally
  pub closes : Bool
  pub start : IndexValue
  pub written : ℕ
  pub flipped : ℕ

abbrev pub own_reservation : List Raw → IdleReservationValue → KeeperValue → ReservationValue
own_reservation body idle k = record {
  ring = k.ring;
  sender = idle.tally.sender;
  body = body;
  closes = idle.closes;
  trail = trail_of (Sender idle.tally.sender) k.run;
  history = k.run;
  written = idle.written;
  flipped = idle.flipped;
}

-- It is the reservation of a batch with this body in the run.
abbrev pub IsIdleReservation : KeeperValue → List Raw → IdleReservationValue → Type 0
IsIdleReservation k body idle = IsOpen (own_port (Sender idle.tally.sender) k) idle.tally body idle.closes idle.start idle.written idle.flipped

-- What is left of a reservation: whose it is, how it closes, and how far it has come.
pub record IsLeftOf (r : ReservationValue) (idle : IdleReservationValue) : Type 0 where
  pub sender_is : idle.tally.sender ≡ r.sender
  pub closes_is : idle.closes ≡ r.closes
  pub written_is : idle.written ≡ r.written
  pub flipped_is : idle.flipped ≡ r.flipped

-- Only this participant took steps, and what is left of the others stays as it was.
pub record KeepsOthers (who : Who) (old new : KeeperValue) : Type 0 where
  pub trails : (other : Who) → other ≢ who → trail_of other new.run ≡ trail_of other old.run
  pub senders : (tally : Tally) → Sender tally.sender ≢ who → IsIdleSender old tally → IsIdleSender new tally
  pub reservations : (body : List Raw) (idle : IdleReservationValue) → Sender idle.tally.sender ≢ who → IsIdleReservation old body idle → IsIdleReservation new body idle
  pub consumer : (head : IndexValue) (taken : ℕ) → Consumer ≢ who → IsIdleConsumer old head taken → IsIdleConsumer new head taken

-- ---- one step of a sender

-- The run with this event of this participant added at its end.
abbrev pub with_step : Who → Event → KeeperValue → KeeperValue
with_step who e k = record k { run = (who, e) ∷ k.run }

-- What is left of anyone stays as it was, including the one who took the step.
pub record KeepsAll (old new : KeeperValue) : Type 0 where
  pub senders : (tally : Tally) → IsIdleSender old tally → IsIdleSender new tally
  pub reservations : (body : List Raw) (idle : IdleReservationValue) → IsIdleReservation old body idle → IsIdleReservation new body idle
  pub consumer : (head : IndexValue) (taken : ℕ) → IsIdleConsumer old head taken → IsIdleConsumer new head taken

-- ---- a new keeper

-- A ring made with these numbers, whose seats the keeper has, before the first step.
pub record IsKept {D : Type 0} (log2 senders max_batches : ℕ) (ring : RingValue) (keeper : KeeperValue) (consumer : IdleConsumerValue D) : Type 0 where
  pub made_is : ring.made_with ≡ made_with log2 senders max_batches
  pub keeper_is : keeper ≡ record { ring = ring; lent = None; run = [] }
  pub consumer_is : IsIdleConsumer keeper consumer.head consumer.taken
  pub nothing_lent : consumer.lent ≡ None
