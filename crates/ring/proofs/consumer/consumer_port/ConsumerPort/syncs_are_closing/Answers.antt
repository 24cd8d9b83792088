use Rattle.std.proofs.Common.{subst}
use Rattle.ring.specs.Runs.{raws_by}
use Rattle.ring.specs.table.{PortValue}
use Rattle.ring.specs.consumer.{AreClosingSyncs}
use Rattle.ring.proofs.ConsumerLemmas.ClosingSyncs.{all_closing}
use Rattle.ring.proofs.consumer.consumer_port.ConsumerPort.syncs_are_closing.Goals as goal

pub returns : goal.returns
returns c =
    subst (λ (p : PortValue). AreClosingSyncs (raws_by p.trail)) c.self.view_is
    (all_closing c.counts_law.ensures.words _ c.knows_its_steps.ensures.limits.senders _ (c.knows_its_steps.ensures.steps c.self.invariant.who_is).order)
