-- How a sender asks for the last batch, and what it is told.
use Rattle.std.specs.Prelude.{◌≡◌, Bool, true, Option, Some, None, IfSome}
use Rattle.ring.specs.table.Histories.{AreApplied}
use Rattle.ring.specs.sender.Senders.{SenderValue, ReceiptValue, HasAsked}

-- Without a batch it asks nothing, and the answer is yes. Else it asks once, and the answer is whether the number that it
-- found is at least that of the last one.
abbrev pub HasAskedFor : Option ReceiptValue → SenderValue → SenderValue → Bool → Type 0
HasAskedFor None old new answer = (new ≡ old) × (answer ≡ true)
HasAskedFor (Some receipt) old new answer = HasAsked receipt.number old new answer

-- All of the sender's batches with a CMD_SYNC are applied, up to the last one, with all that was reserved before them.
abbrev pub AreToldFor : Option ReceiptValue → SenderValue → Type 0
AreToldFor last s = IfSome last (λ receipt. AreApplied s.history s.number receipt.number)
