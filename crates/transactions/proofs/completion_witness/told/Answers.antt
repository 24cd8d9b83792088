use Rattle.transactions.proofs.Ahead.{told_fully}
use Rattle.transactions.proofs.Together.{still_known}
use Rattle.transactions.proofs.completion_witness.told.Goals as goal

pub returns-clause-told : goal.returns-clause-told
returns-clause-told c = told_fully c.consumer_trail.ensures.taken _ _ _ c.args.tracked.now c.meet.ensures.of_consumer c.requires.together.tracked_is c.args.sender.now c.meet.ensures.told

pub returns-clause-together : goal.returns-clause-together
returns-clause-together c = still_known _ _ _ c.requires.together c.meet.ensures.consumer
