use Rattle.std.proofs.Common.{sym, ap, subst, ◌∙◌}
use Rattle.caches.specs.Stored.{Stored}
use Rattle.ring.specs.consumer.Consumers.{ConsumerValue}
use Rattle.ring.specs.consumer.Completing.{taken_of}
use Rattle.ring.specs.Finishing.{IsEnd}
use Rattle.engine.specs.Settled.{IsSettled}
use Rattle.engine.specs.Counting.{taken, AreCountsOf}
use Rattle.engine.specs.Units.{UnitValue}
use Rattle.engine.proofs.Ending.{ends}
use Rattle.engine.proofs.engine.Engine.finish.Goals as goal

pub returns-clause-end : goal.returns-clause-end
returns-clause-end c =
    ends _ _ c.args.self c.finish.result _ _
    (subst (λ (d : ConsumerValue UnitValue). IsEnd c.args.ring c.args.senders.items d c.finish.result) c.into_parts-consumer.ensures.consumer c.finish.ensures)
    (subst (λ (s : Stored). IsSettled s.entries (taken_of c.args.self.consumer.trail)) (sym c.into_parts-consumer.ensures.caches) c.is_settled.ensures.settled)
    (ap taken c.counts-counts.ensures ∙ c.is_settled.ensures.many)
    (subst (AreCountsOf (taken_of c.args.self.consumer.trail)) (sym c.counts-counts.ensures) c.is_settled.ensures.counted)
