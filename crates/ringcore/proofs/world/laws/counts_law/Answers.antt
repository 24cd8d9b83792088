use Rattle.ringcore.proofs.WorldLemmas.Bound.{reserved_bound}
use Rattle.ringcore.proofs.WorldLemmas.SyncCounts.{syncs_append, tells_its_batch, syncs_counted}
use Rattle.ringcore.proofs.WorldLemmas.FewNumbers.{numbers_few}
use Rattle.ringcore.proofs.WorldLemmas.SyncOrder.{come_in_order}
use Rattle.ringcore.proofs.WorldLemmas.Owners.{lists_are_short}
use Rattle.ringcore.proofs.world.laws.counts_law.Goals as goal

pub returns-clause-bound : goal.returns-clause-bound
returns-clause-bound c = reserved_bound

pub returns-clause-syncs : goal.returns-clause-syncs
returns-clause-syncs c = syncs_counted

pub returns-clause-few : goal.returns-clause-few
returns-clause-few c = numbers_few

pub returns-clause-short : goal.returns-clause-short
returns-clause-short c = lists_are_short

pub returns-clause-words : goal.returns-clause-words
returns-clause-words c = tells_its_batch

pub returns-clause-sum : goal.returns-clause-sum
returns-clause-sum c = syncs_append

pub returns-clause-order : goal.returns-clause-order
returns-clause-order c = come_in_order
