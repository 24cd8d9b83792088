use Rattle.detachment.proofs.GoingOn.{not_at_all}
use Rattle.detachment.proofs.detachment.Detachment.send.Goals as goal

pub returns-in-Ok-clause-may_look : goal.returns-in-Ok-clause-may_look
returns-in-Ok-clause-may_look c = rw c.configuring-configuring.ensures (not_at_all _)
