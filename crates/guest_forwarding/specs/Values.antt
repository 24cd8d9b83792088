-- What contracts see of a guest's commands on their way.
use Rattle.std.specs.Prelude.{◌≡◌, ◌≤◌, Option, Some, None, IfSome}
use Rattle.ring.specs.Runs.{numbers_given}
use Rattle.ring.specs.sender.Senders.{SenderValue, ReceiptValue}

-- the receipt of the last batch, if any, and the sender as it was when it had sent that, or at first
pub record ForwardingValue : Type 0 where
  pub last : Option ReceiptValue
  pub sender : SenderValue

abbrev pub forwarding_value : Option ReceiptValue → SenderValue → ForwardingValue
forwarding_value last sender = record { last = last; sender = sender }

-- no batch was sent
abbrev pub before_any : SenderValue → ForwardingValue
before_any sender = forwarding_value None sender

-- the last batch is that of this receipt
abbrev pub behind_batch : ReceiptValue → SenderValue → ForwardingValue
behind_batch receipt sender = forwarding_value (Some receipt) sender

-- The receipt is one of the sender's own.
pub record IsReceiptOfSender (s : SenderValue) (receipt : ReceiptValue) : Type 0 where
  pub own : receipt.sender ≡ s.number
  pub given : receipt.number ≤ numbers_given s.trail

abbrev pub IsForwarding : ForwardingValue → Type 0
IsForwarding f = IfSome f.last (IsReceiptOfSender f.sender)
