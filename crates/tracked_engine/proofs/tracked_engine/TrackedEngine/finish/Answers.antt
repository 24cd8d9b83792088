use Rattle.std.proofs.Common.{subst}
use Rattle.ring.specs.Finishing.{IsEnd}
use Rattle.ring.specs.consumer.Completing.{taken_of}
use Rattle.transactions.specs.Tracking.{IsTracked}
use Rattle.transactions.specs.Together.{TrackedConsumer}
use Rattle.tracked_engine.proofs.Ending.{ends}
use Rattle.tracked_engine.proofs.tracked_engine.TrackedEngine.finish.Goals as goal

pub returns-clause-end : goal.returns-clause-end
returns-clause-end c =
    let consumer_is = c.into_parts-consumer.ensures.consumer in
    ends _ _ c.args.self c.finish.result c.into_parts-consumer.result.1 c.requires.senders
    (subst (λ (d : TrackedConsumer). IsEnd c.args.ring c.args.senders.items d c.finish.result) consumer_is c.finish.ensures)
    (subst (λ (d : TrackedConsumer). IsTracked c.into_parts-consumer.result.1 (taken_of d.trail)) consumer_is c.into_parts-consumer.ensures.together.tracked_is)
