use Rattle.std.proofs.Common.{refl}
use Rattle.renewal.proofs.AllTaken.{all_taken}
use Rattle.renewal.proofs.ending.join.Goals as goal

pub returns-clause-taken : goal.returns-clause-taken
returns-clause-taken c =
    let known = c.requires.none in
    all_taken _ _ _ _ c.finish.ensures.end.end_is c.requires.senders known.known c.world_law.ensures.within c.indexes_tell_the_queue.ensures.queue c.batches_law.ensures.all
    c.consumer_trail.ensures.head c.consumer_trail.ensures.count known.sized _ refl known.at_one_place
