use Rattle.std.proofs.Common.{rules}
use Rattle.ring.specs.Runs.{Sender}
use Rattle.ring.specs.table.{IsHistory}
use Rattle.ring.proofs.FinishLemmas.Told.{was_told_all}
use Rattle.ring.proofs.consumer.Consumer.meet.Goals as goal

pub returns-clause-told : goal.returns-clause-told
returns-clause-told g c =
    let of_sender : IsHistory c.args.sender.now.ring.made_with (Sender c.args.sender.now.number) c.args.sender.now.trail c.meet-control.new.self.history = search rules in
    was_told_all c.world_law.ensures.told_of_all _ _ _ _ of_sender
