use Rattle.std.proofs.Common.{rules, ap₂, ◌∙◌}
use Rattle.qindex.specs.Indexes.{distance}
use Rattle.qindex.proofs.QueueLemmas.{distance_in_queue}
use Rattle.qindex.proofs.index.Index.distance.Goals as goal

pub returns-clause-value : goal.returns-clause-value
returns-clause-value c = search rules

pub returns-clause-positions : goal.returns-clause-positions
returns-clause-positions c =
    λ g t h q. returns-clause-value c ∙ ap₂ distance q.prod_is q.cons_is ∙ distance_in_queue g t h q.order q.within
