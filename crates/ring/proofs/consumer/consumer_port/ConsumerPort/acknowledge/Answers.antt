use Rattle.std.proofs.Common.{ap, subst}
use Rattle.ring.specs.Runs.{Consumer}
use Rattle.ring.specs.table.{PortValue, Grew}
use Rattle.ring.proofs.TableLemmas.Grown.{grew_step}
use Rattle.ring.proofs.consumer.consumer_port.ConsumerPort.acknowledge.Goals as goal

pub returns-then-is_sync-clause-history : goal.returns-then-is_sync-clause-history
returns-then-is_sync-clause-history c =
    let new : PortValue = c.acknowledge_sync.new.self in
    subst (λ (p : PortValue). Grew Consumer p.trail new.trail p.history new.history) c.self.view_is
    (grew_step Consumer _ _ _ _ _ (ap (λ (p : PortValue). p.trail) c.acknowledge_sync.ensures.trail) c.acknowledge_sync.ensures.history)
