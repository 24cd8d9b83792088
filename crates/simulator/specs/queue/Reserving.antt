-- A try to reserve a batch, and its publication: how they are answered, and which events they are.
use Rattle.std.specs.Prelude.{ℕ, ◌+◌, Bool, nat_lt, nat_le, List, ◌∷◌, ◌++◌, Option, Some, None, Result, Ok, Err, if◌then◌else◌}
use Rattle.ring.specs.Runs.{Raw, Who, Sender, Look, Won, Trail, Run, trail_of, batches_made, World, tail, head, world, control, Ring, length_with}
use Rattle.qindex.specs.Positions.{size, index_of}
use Rattle.ringcore.specs.machine.StepAnswers.{next_number}
use Rattle.ring.specs.table.Keeping.{run_by}
use Rattle.ring.specs.sender.Publishing.{handing_over}
use Rattle.ring.specs.sender.Reservations.{reserved_number}
use Rattle.ring.specs.declared.sender.cause.Cause.{Cause}
use Rattle.ring.specs.declared.sender.cause.Cause.TheVariants.{TooLong, Exhausted, Closed, Full}
use Rattle.simulator.specs.declared.queue.reserved.Reserved.{Reserved}

-- a seat looks at the control word
abbrev pub looked_by : Who → ℕ → Run → Run
looked_by who geometry run = (who, Look (control geometry (world run))) ∷ run

-- Why a batch of so many commands isn't reserved, before a look: the ring is too short for it, or the sender has no
-- batch left.
abbrev pub cause_ahead : Ring → Trail → ℕ → Option Cause
cause_ahead ring mine many =
    if nat_lt (size ring.geometry) many then Some TooLong
    else if nat_le ring.max_batches (batches_made mine) then Some Exhausted
    else None

-- And after a look: the ring is closed, or has too little room.
abbrev pub cause_seen : Ring → World → ℕ → Option Cause
cause_seen ring w many =
    if w.closed then Some Closed
    else if nat_lt (head w + size ring.geometry) (tail w + many) then Some Full
    else None

-- the answer to a sender's call, and the run after it
pub record Ran (Answer : Type 0) : Type 0 where
  pub answer : Answer
  pub run : Run

abbrev pub Try : Type 0
Try = Ran (Result Reserved Cause)

abbrev pub refused_for : Cause → Run → Try
refused_for cause run = record { answer = Err cause; run = run }

-- The batch begins at the tail; if it closes, it has its sender's next number.
abbrev pub won : Ring → ℕ → List Raw → Bool → Run → Run → Try
won ring s body closes before run =
    let number = next_number (trail_of (Sender s) before) closes in
    record {
      answer = Ok (record { first = index_of ring.geometry (tail (world before)); number = number });
      run = (Sender s, Won body number) ∷ run;
    }

abbrev pub unless_seen : Ring → ℕ → List Raw → Bool → Run → Option Cause → Try
unless_seen ring s body closes run (Some cause) = refused_for cause (looked_by (Sender s) ring.geometry run)
unless_seen ring s body closes run None = won ring s body closes run (looked_by (Sender s) ring.geometry run)

abbrev pub unless_ahead : Ring → ℕ → List Raw → Bool → Run → Option Cause → Try
unless_ahead ring s body closes run (Some cause) = refused_for cause run
unless_ahead ring s body closes run None = unless_seen ring s body closes run (cause_seen ring (world run) (length_with closes body))

-- A sender tries to reserve a batch of this body, closed with a CMD_SYNC or not.
unfoldable pub try_to_reserve : Ring → ℕ → List Raw → Bool → Run → Try
try_to_reserve ring s body closes run =
    unless_ahead ring s body closes run (cause_ahead ring (trail_of (Sender s) run) (length_with closes body))

-- The sender publishes its open reservation, of which nothing is written or flipped yet.
unfoldable pub published : ℕ → ℕ → Run → Run
published geometry s run = run_by (Sender s) (handing_over geometry (trail_of (Sender s) run) 0 0) ++ run

-- What a try reserved is published.
abbrev pub handed_over : Ring → ℕ → Result Reserved Cause → Run → Ran (Result (Option ℕ) Cause)
handed_over ring s (Ok told) run = record { answer = Ok (reserved_number (trail_of (Sender s) run)); run = published ring.geometry s run }
handed_over ring s (Err cause) run = record { answer = Err cause; run = run }

-- A sender tries once, and publishes at once what it reserved.
abbrev pub sent_by : Ring → ℕ → List Raw → Bool → Run → Ran (Result (Option ℕ) Cause)
sent_by ring s body closes run = let tried = try_to_reserve ring s body closes run in handed_over ring s tried.answer tried.run
