-- How far the host's commands for a guest's have come, by the run of a ring: newest event first.
use Rattle.std.specs.Prelude.{◌≡◌, ◌≤◌, ⊤, ℕ, List, [], ◌++◌, length, Option, Some, None, All}
use Rattle.cmdcodec.specs.Legality.{first_ill}
use Rattle.ring.specs.Runs.{Raw, Run, batches, joined}
use Rattle.ring.specs.sender.Senders.{SenderValue, ReceiptValue}
use Rattle.detachment.specs.Order.{HasReserved, HasApplied}
use Rattle.guest_commands.specs.Theorems.{IsReachedBy}
use Rattle.guest_forwarding.specs.Consumed.{Consumed}
use Rattle.guest_forwarding.specs.Values.{ForwardingValue}

-- ---- reserved

-- Behind the run `known` the sender reserved a batch of these words, whose CMD_SYNC has this number.
pub record IsReservedBehind (known : Run) (words : List Raw) (number : ℕ) (s : SenderValue) : Type 0 where
  pub between : Run
  pub reserved : HasReserved s.number words number (between ++ known) s.history

-- It is the last batch or an earlier one.
abbrev pub IsUpTo : Option ReceiptValue → ℕ → Type 0
IsUpTo None number = ⊥
IsUpTo (Some receipt) number = number ≤ receipt.number

-- These words, if any, were sent behind the run `known`, in the last batch or an earlier one.
abbrev pub AreOnTheirWay : ForwardingValue → Run → List Raw → Type 0
AreOnTheirWay f known [] = ⊤
AreOnTheirWay f known words = (number : ℕ) × IsUpTo f.last number × IsReservedBehind known words number f.sender

-- Legal commands of the host that cover whatever the guest's command covers, as it is on the host, were sent behind the run
-- that was known when it was consumed, or none are needed.
pub record HasConsumed (f : ForwardingValue) (c : Consumed) : Type 0 where
  pub words : List Raw
  pub legal : All (λ raw. first_ill raw ≡ None) words
  pub reached : IsReachedBy c.mapping words c.raw
  pub sent : AreOnTheirWay f c.known words

-- ---- carried out

-- how many commands were reserved in a run
abbrev pub reserved_in : Run → ℕ
reserved_in run = length (joined (batches run))

-- the place of an applied batch among all commands that were taken: behind those of the batches ahead of it
abbrev pub place_of : {sender : ℕ} {words : List Raw} {number : ℕ} {run : Run} → HasApplied sender words number run → ℕ
place_of applied = length (joined applied.sync.completed.ahead)

-- Such a batch is applied, with all that was reserved before it, and so is its CMD_SYNC. It was taken behind all that was
-- reserved in the run `known`.
pub record IsAppliedBehind (known : Run) (words : List Raw) (s : SenderValue) : Type 0 where
  pub number : ℕ
  pub reserved : IsReservedBehind known words number s
  pub applied : HasApplied s.number words number s.history
  pub late : reserved_in known ≤ place_of applied

abbrev pub AreCarriedOut : Run → List Raw → SenderValue → Type 0
AreCarriedOut known [] s = ⊤
AreCarriedOut known words s = IsAppliedBehind known words s

-- Commands of the host that cover whatever the guest's command covers, as it is on the host, were reserved after it was
-- consumed, and applied in the run that the sender knows; or none are needed.
pub record IsCarriedOut (s : SenderValue) (c : Consumed) : Type 0 where
  pub words : List Raw
  pub reached : IsReachedBy c.mapping words c.raw
  pub done : AreCarriedOut c.known words s

-- All that was consumed is carried out.
abbrev pub IsAllCarriedOut : ForwardingValue → SenderValue → Type 0
IsAllCarriedOut f s = (c : Consumed) → HasConsumed f c → IsCarriedOut s c
