use Rattle.std.proofs.Common.{ap, ◌∙◌}
use Rattle.qindex.specs.Positions.{IndexValue, place}
use Rattle.qindex.proofs.PositionLemmas.{masked_place, place_of_number}
use Rattle.qindex.proofs.index.Index.place.Goals as goal

pub returns-clause-value : goal.returns-clause-value
returns-clause-value c =
    masked_place c.self.inside.geometry c.self.inside.number c.size.result c.size.ensures.value
    ∙ ap (λ (i : IndexValue). place i.geometry i.number) c.self.view_is

pub returns-clause-position : goal.returns-clause-position
returns-clause-position c =
    λ g p is. returns-clause-value c ∙ ap (λ (i : IndexValue). place i.geometry i.number) is ∙ place_of_number g p
