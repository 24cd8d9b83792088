use Rattle.std.proofs.Common.{subst}
use Rattle.ring.specs.Finishing.{IsEnd}
use Rattle.ring.specs.consumer.{ConsumerValue}
use Rattle.ring.proofs.FinishLemmas.Settled.{with_device}
use Rattle.ring.proofs.ring.Ring.finish.Goals as goal

pub returns : goal.returns
returns g c =
    subst (λ (v : ConsumerValue g.row.D.Denot). IsEnd c.args.self c.args.senders.items v c.join.result) c.consumer.view_is
    (with_device c.args.self c.args.senders.items c.consumer.inside.port c.consumer.inside.lent c.join.result c.join.ensures)
