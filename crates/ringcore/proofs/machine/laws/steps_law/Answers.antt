use Rattle.ringcore.proofs.MachineLemmas.FaultlessIsAllowed.{allowed, are_runs}
use Rattle.ringcore.proofs.MachineLemmas.AllowedIsFaultless.{taken}
use Rattle.ringcore.proofs.machine.laws.steps_law.Goals as goal

pub returns-clause-allowed : goal.returns-clause-allowed
returns-clause-allowed c =
    allowed c.control_words_say_their_control.ensures.said c.indexes_tell_the_queue.ensures.control c.indexes_tell_the_queue.ensures.queue

pub returns-clause-played : goal.returns-clause-played
returns-clause-played c =
    are_runs (allowed c.control_words_say_their_control.ensures.said c.indexes_tell_the_queue.ensures.control c.indexes_tell_the_queue.ensures.queue)

pub returns-clause-taken : goal.returns-clause-taken
returns-clause-taken c =
    taken c.control_words_say_their_control.ensures.said c.indexes_tell_the_queue.ensures.control c.indexes_tell_the_queue.ensures.queue
