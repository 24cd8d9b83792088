-- The events that a try to reserve added, by its answer.
use Rattle.std.specs.Prelude.{◌≡◌, ◌≢◌, ℕ, ◌+◌, ◌<◌, ◌≤◌, Bool, true, false, List, [], ◌∷◌}
use Rattle.ring.specs.Runs.{Raw, Control, Look, Won, Lost, Sender, Trail, Run, batches_made, World, head, tail, world, control, length_with}
use Rattle.qindex.specs.Positions.{size}
use Rattle.qindex.specs.Indexes.{distance}
use Rattle.ringcore.specs.machine.StepAnswers.{next_number}
use Rattle.progress.specs.Contention.{WasOvertaken}
use Rattle.ring.specs.table.{GrewBy}
use Rattle.ring.specs.declared.sender.cause.Cause.{Cause}
use Rattle.ring.specs.declared.sender.cause.Cause.TheVariants.{TooLong, Exhausted, Closed, Full, Contended}
use Rattle.ring.specs.sender.Senders.{SenderValue}
use Rattle.ring.specs.sender.Reservations.{ReservationValue}

-- the same sender, with this trail
abbrev pub with_trail : SenderValue → Trail → SenderValue
with_trail s trail = record s { trail = trail }

-- ---- what is tested

abbrev pub ring_size : SenderValue → ℕ
ring_size s = size s.ring.made_with.geometry

-- The batch has no more commands than the ring has slots.
abbrev pub Fits : List Raw → Bool → SenderValue → Type 0
Fits body closes s = length_with closes body ≤ ring_size s

-- The sender may reserve one more batch.
abbrev pub HasBatchLeft : SenderValue → Type 0
HasBatchLeft s = batches_made s.trail < s.ring.made_with.max_batches

-- According to what was seen, the ring is open and has room for the batch.
pub record HasRoom (body : List Raw) (closes : Bool) (s : SenderValue) (seen : Control) : Type 0 where
  pub unclosed : seen.closed ≡ false
  pub room : distance seen.prod seen.cons + length_with closes body ≤ ring_size s

-- what a look finds in a run of the sender's ring
abbrev pub control_in : SenderValue → Run → Control
control_in s run = control s.ring.made_with.geometry (world run)

-- In this world there is no room for `many` commands after those that are reserved and not taken.
abbrev pub HasNoRoom : ℕ → ℕ → World → Type 0
HasNoRoom slots many w = head w + slots < tail w + many

-- If a look finds too little room, there is too little.
abbrev pub TellsRoom : ℕ → World → Type 0
TellsRoom geometry w =
    (slots many : ℕ) → slots < distance (control geometry w).prod (control geometry w).cons + many → HasNoRoom slots many w

-- ---- what was seen and reserved

abbrev pub has_looked : SenderValue → Control → SenderValue
has_looked s seen = with_trail s (Look seen ∷ s.trail)

-- the reservation of a batch, by one exchange
abbrev pub opened : List Raw → Bool → SenderValue → ReservationValue
opened body closes s = record {
  ring = s.ring;
  sender = s.number;
  body = body;
  closes = closes;
  trail = Won body (next_number s.trail closes) ∷ s.trail;
  history = s.history;
  written = 0;
  flipped = 0;
}

-- The exchange is last in the run, and right before it a look would have found what was looked at.
pub record IsWon (body : List Raw) (closes : Bool) (seen : Control) (s : SenderValue) (r : ReservationValue) : Type 0 where
  pub trail_is : record r { history = [] } ≡ opened body closes (record s { history = [] })
  pub grew : GrewBy (Sender s.number) (Won body (next_number s.trail closes)) s.history r.history
  pub stood : seen ≡ control_in s grew.before

-- The exchange is last in the run, and found something other than what was looked at.
pub record IsLost (body : List Raw) (closes : Bool) (seen : Control) (s t : SenderValue) : Type 0 where
  pub found : Control
  pub other : found ≢ seen
  pub trail_is : record t { history = [] } ≡ with_trail (record s { history = [] }) (Lost body closes found ∷ s.trail)
  pub grew : GrewBy (Sender s.number) (Lost body closes found) s.history t.history
  pub found_is : found ≡ control_in s t.history

-- It looked, and what it saw is as in the run that it knew from then on.
pub record HasLookedAt (seen : Control) (s t : SenderValue) : Type 0 where
  pub trail_is : record t { history = [] } ≡ has_looked (record s { history = [] }) seen
  pub grew : GrewBy (Sender s.number) (Look seen) s.history t.history
  pub seen_is : seen ≡ control_in s t.history

-- ---- the answers

-- a look that found the ring open with room, and then the whole batch
pub record IsReserved (body : List Raw) (closes : Bool) (s : SenderValue) (r : ReservationValue) : Type 0 where
  pub fits : Fits body closes s
  pub left : HasBatchLeft s
  pub seen : Control
  pub room : HasRoom body closes s seen
  pub after : SenderValue
  pub looked : HasLookedAt seen s after
  pub won : IsWon body closes seen after r

-- The batch has more commands than the ring has slots: no step.
pub record IsTooLong (body : List Raw) (closes : Bool) (s t : SenderValue) : Type 0 where
  pub long : ring_size s < length_with closes body
  pub stays : t ≡ s

-- It fits, but all the sender's batches were reserved: no step.
pub record IsExhausted (body : List Raw) (closes : Bool) (s t : SenderValue) : Type 0 where
  pub fits : Fits body closes s
  pub all : batches_made s.trail ≡ s.ring.made_with.max_batches
  pub stays : t ≡ s

-- a look that found the ring closed, as it is in the run known then
pub record IsClosed (body : List Raw) (closes : Bool) (s t : SenderValue) : Type 0 where
  pub fits : Fits body closes s
  pub left : HasBatchLeft s
  pub seen : Control
  pub closed : seen.closed ≡ true
  pub looked : HasLookedAt seen s t
  pub closed_then : (world t.history).closed ≡ true

-- a look that found the ring open with too little room, as it is in the run known then
pub record IsFull (body : List Raw) (closes : Bool) (s t : SenderValue) : Type 0 where
  pub fits : Fits body closes s
  pub left : HasBatchLeft s
  pub seen : Control
  pub unclosed : seen.closed ≡ false
  pub full : ring_size s < distance seen.prod seen.cons + length_with closes body
  pub looked : HasLookedAt seen s t
  pub full_then : HasNoRoom (ring_size s) (length_with closes body) (world t.history)

-- a look that found the ring open with room, and an exchange that found something else: in between a step of
-- somebody else changed the control word
pub record IsContended (body : List Raw) (closes : Bool) (s t : SenderValue) : Type 0 where
  pub fits : Fits body closes s
  pub left : HasBatchLeft s
  pub seen : Control
  pub room : HasRoom body closes s seen
  pub after : SenderValue
  pub looked : HasLookedAt seen s after
  pub lost : IsLost body closes seen after t
  pub overtaken : WasOvertaken s.ring.made_with.geometry (Sender s.number) after.history t.history

abbrev pub IsRefused : List Raw → Bool → SenderValue → Cause → SenderValue → Type 0
IsRefused body closes s TooLong t = IsTooLong body closes s t
IsRefused body closes s Exhausted t = IsExhausted body closes s t
IsRefused body closes s Closed t = IsClosed body closes s t
IsRefused body closes s Full t = IsFull body closes s t
IsRefused body closes s Contended t = IsContended body closes s t
