use Rattle.std.proofs.Common.{subst}
use Rattle.batch_outcomes.specs.declared.batch_outcome.BatchOutcome.{BatchOutcome}
use Rattle.batch_outcomes.specs.Outcomes.{IsOutcome}
use Rattle.hardware_queue.proofs.FateLemmas.{whole}
use Rattle.hardware_queue.proofs.forwarder.Forwarder.outcome_of.Given.{Over}
use Rattle.hardware_queue.proofs.forwarder.Forwarder.outcome_of.Goals.{After-outcome}
use Rattle.hardware_queue.proofs.forwarder.Forwarder.outcome_of.Goals as goal

found : (g : Over) (c : After-outcome g) → IsOutcome c.self.inside.fates.settled c.args.sender c.args.number c.outcome.result
found g c = c.outcome.ensures

pub returns-clause-outcome : goal.returns-clause-outcome
returns-clause-outcome g c =
    rw (← c.self.view_is) (c.self.inside.fates.settled, c.self.invariant.1.fates, found g (goal.at.returns-clause-outcome g c).After-outcome)

pub returns-clause-whole : goal.returns-clause-whole
returns-clause-whole g c complete =
    rw (← c.self.view_is)
    (whole c.counts_law.ensures.words _ _ c.self.inside.fates.settled _ _ c.self.invariant.1.fates
    (subst (λ (o : BatchOutcome). IsOutcome c.self.inside.fates.settled c.args.sender c.args.number o) complete (found g (goal.at.returns-clause-whole g c).After-outcome)))
