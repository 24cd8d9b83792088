-- What contracts see of an open reservation.
use Rattle.std.specs.Prelude.{◌≡◌, ℕ, ◌≤◌, Bool, true, false, nat_lt, List, [], ◌∷◌, Option, Some, None}
use Rattle.ring.specs.Runs.{Raw, Half, Won, Trail, Run, reserved_length, has_written, has_flipped, start_index, commands, length_with}
use Rattle.cmdcodec.specs.Bodies.{IsBody}
use Rattle.qindex.specs.Positions.{IndexValue, size}
use Rattle.ringcore.specs.memory.StepLaws.{reserved_commands}
use Rattle.ring.specs.declared.sender.tally.Tally.{Tally}
use Rattle.ring.specs.Rings.{RingValue}
use Rattle.ring.specs.table.{PortValue}
use Rattle.ring.specs.sender.Senders.{IsTallied, ReceiptValue}

-- a reservation: its ring and sender, its batch, and how many of its slots are written and flipped
pub record ReservationValue : Type 0 where
  pub ring : RingValue
  pub sender : ℕ
  pub body : List Raw
  pub closes : Bool
  pub trail : Trail
  pub history : Run
  pub written : ℕ
  pub flipped : ℕ

-- Exactly the slots below `written` are written, both halves of each; exactly those below `flipped` are
-- flipped.
abbrev pub IsWrittenUpTo : ℕ → Trail → Type 0
IsWrittenUpTo written trail = (slot : ℕ) (half : Half) → has_written slot half trail ≡ nat_lt slot written

abbrev pub IsFlippedUpTo : ℕ → Trail → Type 0
IsFlippedUpTo flipped trail = (slot : ℕ) → has_flipped slot trail ≡ nat_lt slot flipped

-- the number of the last batch reserved
abbrev pub reserved_number : Trail → Option ℕ
reserved_number [] = None
reserved_number (Won body number ∷ es) = number
reserved_number (e ∷ es) = reserved_number es

-- its commands, without its closing CMD_SYNC
abbrev pub reserved_body : Trail → List Raw
reserved_body [] = []
reserved_body (Won body number ∷ es) = body
reserved_body (e ∷ es) = reserved_body es

abbrev pub number_when : Bool → ℕ → Option ℕ
number_when true number = Some number
number_when false number = None

-- Its slots are written and flipped in order.
pub record IsOpen (port : PortValue) (tally : Tally) (body : List Raw) (closes : Bool) (start : IndexValue) (written flipped : ℕ) : Type 0 where
  pub tallied : IsTallied port tally
  pub body_is : IsBody body
  pub reserved : reserved_body port.trail ≡ body
  pub number_is : reserved_number port.trail ≡ number_when closes tally.numbers
  pub commands_are : reserved_commands tally.sender port.trail ≡ commands tally.sender (number_when closes tally.numbers) body
  pub many : reserved_length port.trail ≡ length_with closes body
  pub geometry_is : start.geometry ≡ port.ring.made_with.geometry
  pub start_is : start ≡ start_index port.ring.made_with.geometry port.trail
  pub in_written : IsWrittenUpTo written port.trail
  pub in_flipped : IsFlippedUpTo flipped port.trail
  pub within : written ≤ length_with closes body
  pub behind : flipped ≤ written
  pub fits : length_with closes body ≤ size port.ring.made_with.geometry

-- The receipt names the closing CMD_SYNC of the batch.
pub record IsReceiptOf (r : ReservationValue) (receipt : ReceiptValue) : Type 0 where
  pub sender_is : receipt.sender ≡ r.sender
  pub number_is : reserved_number r.trail ≡ Some receipt.number
