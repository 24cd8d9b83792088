use Rattle.std.proofs.Common.{ap, ap₂, sym, ◌∙◌}
use Rattle.qindex.specs.Positions.{IndexValue}
use Rattle.qindex.specs.Indexes.{is_empty}
use Rattle.qindex.proofs.QueueLemmas.{one_number, empty_between}
use Rattle.qindex.proofs.index.Index.is_empty.Goals as goal

pub returns-clause-value : goal.returns-clause-value
returns-clause-value c =
    one_number c.self.inside.geometry c.cons.inside.geometry c.self.inside.number c.cons.inside.number
    (ap (λ (i : IndexValue). i.geometry) c.self.view_is ∙ c.requires.one_ring ∙ sym (ap (λ (i : IndexValue). i.geometry) c.cons.view_is))
    c.self.invariant.number c.cons.invariant.number
    ∙ ap₂ is_empty c.self.view_is c.cons.view_is

pub returns-clause-positions : goal.returns-clause-positions
returns-clause-positions c =
    λ g t h q. returns-clause-value c ∙ ap₂ is_empty q.prod_is q.cons_is ∙ empty_between g t h q.order q.within
