use Rattle.ring.proofs.TableLemmas.Histories.{knows_its_steps}
use Rattle.ring.proofs.table.port.Port.knows_its_steps.Goals as goal

pub returns-clause-steps : goal.returns-clause-steps
returns-clause-steps c =
    knows_its_steps c.counts_law.ensures.short c.consumer_trail.ensures.head c.consumer_trail.ensures.ready c.consumer_trail.ensures.order c.consumer_trail.ensures.steady _ _ _ c.self.view_is c.self.invariant
