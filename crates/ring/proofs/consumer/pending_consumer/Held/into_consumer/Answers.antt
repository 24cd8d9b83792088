use Rattle.std.proofs.Common.{sym, ap, ◌∙◌}
use Rattle.ring.specs.declared.consumer.pending_consumer.Held.{Held}
use Rattle.ring.specs.consumer.PendingConsumers.{held_as}
use Rattle.ring.proofs.consumer.pending_consumer.Held.into_consumer.Goals as goal

pub returns-in-Pending-clause-seen : goal.returns-in-Pending-clause-seen
returns-in-Pending-clause-seen g c raw first =
    c.put_back.ensures.seen raw first.0 (sym (ap (λ (h : Held g.row.D.Denot). (held_as h).raws) c.in-Pending.is) ∙ first.1)
