-- The events that write a reservation and hand it over, and the reservation after them.
use Rattle.std.specs.Prelude.{◌≡◌, ℕ, zero, suc, ◌+◌, ◌-◌, min, [], ◌∷◌, ◌++◌}
use Rattle.qindex.specs.Positions.{index_of}
use Rattle.ring.specs.Runs.{Lo, Hi, Write, Flip, Trail, reserved_length, start_index, numbers_given, own_batches}
use Rattle.ringcore.specs.memory.Flags.{shared_word}
use Rattle.ring.specs.sender.Senders.{SenderValue}
use Rattle.ring.specs.sender.Reservations.{ReservationValue}

-- ---- the events, newest first

-- writes of both halves of k slots, in order, starting with this one
abbrev pub writes_from : ℕ → ℕ → Trail
writes_from slot zero = []
writes_from slot (suc k) = Write (slot + k) Hi ∷ Write (slot + k) Lo ∷ writes_from slot k

-- one flip of k slots, starting with this one, or none if k is 0
abbrev pub flips_from : ℕ → ℕ → Trail
flips_from slot zero = []
flips_from slot (suc k) = Flip slot (suc k) ∷ []

-- how many of the slots from this one up to `end` have their flags in the same word as this one
abbrev pub run_up_to : ℕ → Trail → ℕ → ℕ → ℕ
run_up_to geometry trail slot end = min (shared_word geometry (index_of geometry ((start_index geometry trail).number + slot)).number) (end - slot)

-- What hands over a reservation with `written` slots written and `flipped` of them flipped: all that is
-- left is written in order, and then flipped by one step for each flag word, of which there are at most two.
abbrev pub handing_over : ℕ → Trail → ℕ → ℕ → Trail
handing_over geometry trail written flipped =
    let all = reserved_length trail in
    let first = run_up_to geometry trail flipped all in
    flips_from (flipped + first) (all - (flipped + first)) ++ (flips_from flipped first ++ writes_from written (all - written))

-- ---- a reservation after them

-- with both halves of the next slot written
abbrev pub wrote_one : ReservationValue → ReservationValue
wrote_one r = record r { trail = Write r.written Hi ∷ Write r.written Lo ∷ r.trail; written = r.written + 1 }

abbrev pub wrote_many : ℕ → ReservationValue → ReservationValue
wrote_many k r = record r { trail = writes_from r.written k ++ r.trail; written = r.written + k }

abbrev pub flipped_one : ReservationValue → ReservationValue
flipped_one r = record r { trail = Flip r.flipped 1 ∷ r.trail; flipped = r.flipped + 1 }

-- how many of the slots that are written and not flipped have their flags in the same word as the first of
-- them
abbrev pub next_run : ReservationValue → ℕ
next_run r = run_up_to r.ring.made_with.geometry r.trail r.flipped r.written

-- with those in the next flag word flipped, if any are left
abbrev pub flipped_left : ReservationValue → ReservationValue
flipped_left r = record r { trail = flips_from r.flipped (next_run r) ++ r.trail; flipped = r.flipped + next_run r }

-- with all of it written and flipped
abbrev pub published : ReservationValue → ReservationValue
published r =
    let all = reserved_length r.trail in
    record r { trail = handing_over r.ring.made_with.geometry r.trail r.written r.flipped ++ r.trail; written = all; flipped = all }

-- the sender of a reservation, with its trail
abbrev pub sender_of : ReservationValue → SenderValue
sender_of r = record { ring = r.ring; number = r.sender; trail = r.trail; history = r.history }

-- No batch was reserved in between.
pub record ReservesNone (old new : Trail) : Type 0 where
  pub batches : (s : ℕ) → own_batches s new ≡ own_batches s old
  pub numbers : numbers_given new ≡ numbers_given old
