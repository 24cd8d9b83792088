use Rattle.std.proofs.Common.{ap, subst, ◌∙◌}
use Rattle.ring.specs.Finishing.{IsDeferredEnd}
use Rattle.ring.specs.consumer.{DeferringValue}
use Rattle.ring.proofs.FinishLemmas.Settled.{deferred_end}
use Rattle.ring.proofs.consumer.deferring_consumer.DeferringConsumer.finish.Goals as goal

pub returns : goal.returns
returns g c =
    subst (λ (v : DeferringValue g.row.D.Denot). IsDeferredEnd c.args.ring c.args.senders.items v c.join.result) c.self.view_is
    (deferred_end c.counts_law.ensures.words c.consumer_trail.ensures.advanced c.consumer_trail.ensures.acknowledged c.consumer_trail.ensures.order c.args.ring c.args.senders.items c.self.inside.port c.self.inside.lent c.self.inside.commands c.self.inside.settled
    c.join.result (ap (λ (v : DeferringValue g.row.D.Denot). v.consumer.ring) c.self.view_is ∙ c.requires.consumer) c.self.invariant.0 c.join.ensures)
