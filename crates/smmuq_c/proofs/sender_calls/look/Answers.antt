use Rattle.smmuq_c.proofs.Objects.{of_sender}
use Rattle.smmuq_c.proofs.sender_calls.look.Goals as goal

pub returns-in-Sender-clause-called : goal.returns-in-Sender-clause-called
returns-in-Sender-clause-called c = of_sender _ c.in-Sender.is c.look.ensures.looked
