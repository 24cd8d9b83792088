use Rattle.ring.proofs.SenderLemmas.GoingOn.{handed_over}
use Rattle.ring.proofs.sender.Sender.send_borrowed_bare.Goals as goal

pub returns-in-Ok-clause-went_on : goal.returns-in-Ok-clause-went_on
returns-in-Ok-clause-went_on c = handed_over c.in-Ok.ensures.opened c.publish.ensures.history c.publish.ensures.ring c.publish.ensures.id
