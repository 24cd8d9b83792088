use Rattle.std.proofs.Common.{rules, ap₂, ◌∙◌}
use Rattle.qindex.specs.Indexes.{is_full}
use Rattle.qindex.proofs.QueueLemmas.{full_between}
use Rattle.qindex.proofs.index.Index.is_full.Goals as goal

pub returns-then-place-clause-value : goal.returns-then-place-clause-value
returns-then-place-clause-value c = search rules

pub returns-then-place-clause-positions : goal.returns-then-place-clause-positions
returns-then-place-clause-positions c =
    λ g t h q. returns-then-place-clause-value c ∙ ap₂ is_full q.prod_is q.cons_is ∙ full_between g t h q.order q.within

pub returns-else-place-clause-value : goal.returns-else-place-clause-value
returns-else-place-clause-value c = search rules

pub returns-else-place-clause-positions : goal.returns-else-place-clause-positions
returns-else-place-clause-positions c =
    λ g t h q. returns-else-place-clause-value c ∙ ap₂ is_full q.prod_is q.cons_is ∙ full_between g t h q.order q.within
