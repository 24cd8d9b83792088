use Rattle.qindex.proofs.QueueLemmas.{queue}
use Rattle.qindex.proofs.WordLemmas.{control}
use Rattle.qindex.proofs.laws.indexes_tell_the_queue.Goals as goal

pub returns-clause-queue : goal.returns-clause-queue
returns-clause-queue c = queue

pub returns-clause-control : goal.returns-clause-control
returns-clause-control c = control
