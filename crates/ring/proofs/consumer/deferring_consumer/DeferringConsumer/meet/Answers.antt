use Rattle.std.proofs.Common.{rules}
use Rattle.ring.specs.Runs.{Consumer, Sender}
use Rattle.ring.specs.table.{IsHistory}
use Rattle.ring.proofs.FinishLemmas.Told.{was_told_all}
use Rattle.ring.proofs.FinishLemmas.Settled.{all_told_of_settled}
use Rattle.ring.proofs.consumer.deferring_consumer.DeferringConsumer.meet.Goals as goal

pub returns-clause-told : goal.returns-clause-told
returns-clause-told g c =
    let of_sender : IsHistory c.args.sender.now.ring.made_with (Sender c.args.sender.now.number) c.args.sender.now.trail c.meet-control.new.self.history = search rules in
    let of_consumer : IsHistory c.args.self.now.consumer.ring.made_with Consumer c.args.self.now.consumer.trail c.meet-control.new.self.history = search rules in
    all_told_of_settled c.counts_law.ensures.words c.consumer_trail.ensures.advanced c.consumer_trail.ensures.acknowledged c.consumer_trail.ensures.order
    c.args.self.now.consumer.ring.made_with c.meet-control.new.self.history c.args.self.now.consumer.trail c.args.self.now.settled
    of_consumer.stands.after.run_is of_consumer.stands.only of_consumer.stands.trail_is (search rules) _ _
    (was_told_all c.world_law.ensures.told_of_all _ _ _ _ of_sender)
