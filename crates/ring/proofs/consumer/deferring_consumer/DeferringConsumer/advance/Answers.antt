use Rattle.std.proofs.Common.{ap, subst}
use Rattle.ring.specs.Runs.{Consumer}
use Rattle.ring.specs.table.{PortValue, Grew}
use Rattle.ring.specs.consumer.{DeferringValue}
use Rattle.ring.proofs.TableLemmas.Grown.{grew_step}
use Rattle.ring.proofs.consumer.deferring_consumer.DeferringConsumer.advance.Goals as goal

pub returns-clause-history : goal.returns-clause-history
returns-clause-history g c =
    let new : PortValue = c.advance.new.self in
    subst (λ (v : DeferringValue g.row.D.Denot). Grew Consumer v.consumer.trail new.trail v.consumer.history new.history) c.self.view_is
    (grew_step Consumer _ _ _ _ _ (ap (λ (p : PortValue). p.trail) c.advance.ensures.trail) c.advance.ensures.history)
