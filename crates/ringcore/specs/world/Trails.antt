-- Runs and trails, both newest event first, and what a seat's own trail says.
use Rattle.std.specs.Prelude.{◌≡◌, ℕ, suc, ◌+◌, ◌<◌, Bool, true, false, cond, ◌==◌, ◌||◌, ◌&&◌, nat_le, nat_lt, List, [], ◌∷◌, ◌++◌, length, Option, Some, None}
use Rattle.cmdcodec.specs.declared.raw.Raw.{Raw}
use Rattle.qindex.specs.declared.control.Control.{Control}
use Rattle.qindex.specs.Positions.{IndexValue}
use Rattle.ringcore.specs.declared.world.event.Who.{Who}
use Rattle.ringcore.specs.declared.world.event.Who.TheVariants.{Consumer, Sender}
use Rattle.ringcore.specs.declared.world.event.Half.{Half}
use Rattle.ringcore.specs.declared.world.event.Half.TheVariants.{Lo, Hi}
use Rattle.ringcore.specs.declared.world.event.Event.{Event}
use Rattle.ringcore.specs.declared.world.event.Event.TheVariants.{Look, Won, Lost, Write, Flip, Test, Read, Advance, Acknowledge}

-- the events of one seat
abbrev pub Trail : Type 0
Trail = List Event

-- the events of all seats, in one order
abbrev pub Run : Type 0
Run = List (Who × Event)

-- whether two seats, or two halves, are the same
abbrev pub same : Who → Who → Bool
same Consumer Consumer = true
same Consumer (Sender t) = false
same (Sender s) Consumer = false
same (Sender s) (Sender t) = s == t

abbrev pub same_half : Half → Half → Bool
same_half Lo Lo = true
same_half Lo Hi = false
same_half Hi Lo = false
same_half Hi Hi = true

-- a seat's trail: its own events in a run
abbrev pub trail_of : Who → Run → Trail
trail_of who [] = []
trail_of who (x ∷ xs) = cond (same who x.0) (x.1 ∷ trail_of who xs) (trail_of who xs)

-- ---- what a sender's trail says

-- what its last look found, if no exchange came after it
abbrev pub looked : Trail → Option Control
looked [] = None
looked (Look found ∷ es) = Some found
looked (Won body number ∷ es) = None
looked (Lost body closes found ∷ es) = None
looked (e ∷ es) = looked es

-- how many batches it reserved, and how many of them have a closing sync
abbrev pub batches_made : Trail → ℕ
batches_made [] = 0
batches_made (Won body number ∷ es) = suc (batches_made es)
batches_made (e ∷ es) = batches_made es

abbrev pub numbers_given : Trail → ℕ
numbers_given [] = 0
numbers_given (Won body None ∷ es) = numbers_given es
numbers_given (Won body (Some number) ∷ es) = suc (numbers_given es)
numbers_given (e ∷ es) = numbers_given es

-- how many commands a batch has: its body, and the closing sync if it has a number
abbrev pub batch_length : List Raw → Option ℕ → ℕ
batch_length body None = length body
batch_length body (Some number) = length body + 1

-- how many commands its last reservation has
abbrev pub reserved_length : Trail → ℕ
reserved_length [] = 0
reserved_length (Won body number ∷ es) = batch_length body number
reserved_length (e ∷ es) = reserved_length es

-- whether offset is one of count numbers from first on
abbrev pub is_among : ℕ → ℕ → ℕ → Bool
is_among first count offset = nat_le first offset && nat_lt offset (first + count)

-- whether this offset of its last reservation is written, and whether it is flipped
abbrev pub has_written : ℕ → Half → Trail → Bool
has_written offset half [] = false
has_written offset half (Won body number ∷ es) = false
has_written offset half (Write at which ∷ es) = (offset == at && same_half half which) || has_written offset half es
has_written offset half (e ∷ es) = has_written offset half es

abbrev pub has_flipped : ℕ → Trail → Bool
has_flipped offset [] = false
has_flipped offset (Won body number ∷ es) = false
has_flipped offset (Flip first count ∷ es) = is_among first count offset || has_flipped offset es
has_flipped offset (e ∷ es) = has_flipped offset es

-- It has no open reservation: all of the last one is flipped.
abbrev pub IsSettled : Trail → Type 0
IsSettled es = (offset : ℕ) → offset < reserved_length es → has_flipped offset es ≡ true

-- the index of the first slot of its last reservation: prod as it was looked at
abbrev pub prod_of : ℕ → Option Control → IndexValue
prod_of geometry None = record { geometry = geometry; number = 0 }
prod_of geometry (Some found) = found.prod

abbrev pub start_index : ℕ → Trail → IndexValue
start_index geometry [] = record { geometry = geometry; number = 0 }
start_index geometry (Won body number ∷ es) = prod_of geometry (looked es)
start_index geometry (e ∷ es) = start_index geometry es

-- ---- what the consumer's trail says

-- how many from the head on the last test found, if no advance came after it
abbrev pub found_ready : Trail → ℕ
found_ready [] = 0
found_ready (Test limit found ∷ es) = found
found_ready (Advance raws ∷ es) = 0
found_ready (e ∷ es) = found_ready es

-- what was read since that test of the command at an offset from the head
abbrev pub half_read : ℕ → Half → Trail → Option ℕ
half_read offset half [] = None
half_read offset half (Test limit found ∷ es) = None
half_read offset half (Advance raws ∷ es) = None
half_read offset half (Read at which word ∷ es) = cond (offset == at && same_half half which) (Some word) (half_read offset half es)
half_read offset half (e ∷ es) = half_read offset half es

-- what was read of the command at the head, since the last advance
abbrev pub head_read : Half → Trail → Option ℕ
head_read half [] = None
head_read half (Advance raws ∷ es) = None
head_read half (Read at which word ∷ es) = cond (at == 0 && same_half half which) (Some word) (head_read half es)
head_read half (e ∷ es) = head_read half es

-- the commands that it took, in order, and how many there are
abbrev pub raws_by : Trail → List Raw
raws_by [] = []
raws_by (Advance raws ∷ es) = raws_by es ++ raws
raws_by (e ∷ es) = raws_by es

abbrev pub taken_by : Trail → ℕ
taken_by [] = 0
taken_by (Advance raws ∷ es) = taken_by es + length raws
taken_by (e ∷ es) = taken_by es

-- the last number that it acknowledged to a sender
abbrev pub acknowledged_by : ℕ → Trail → ℕ
acknowledged_by s [] = 0
acknowledged_by s (Acknowledge sender number ∷ es) = cond (s == sender) number (acknowledged_by s es)
acknowledged_by s (e ∷ es) = acknowledged_by s es
