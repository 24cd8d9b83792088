use Rattle.std.proofs.Common.{subst}
use Rattle.hardware_queue.specs.Owners.{OwnerValue}
use Rattle.hardware_queue.specs.Queues.{SyncsComplete}
use Rattle.hardware_queue.proofs.owner.Owner.syncs_complete.Goals as goal

pub returns : goal.returns
returns g c = subst (λ (w : OwnerValue g.row.Q.Denot). SyncsComplete (g.Q.CommandQueue.has_effect w.queue) (g.Q.CommandQueue.queue w.queue)) c.self.view_is c.syncs_complete.ensures
