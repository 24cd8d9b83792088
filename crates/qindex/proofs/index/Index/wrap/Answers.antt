use Rattle.std.proofs.Common.{ap, ◌∙◌}
use Rattle.std.specs.Prelude.{nat_le, ◌==◌}
use Rattle.qindex.specs.Positions.{IndexValue, wrap_bit}
use Rattle.qindex.proofs.PositionLemmas.{wrap_seen, wrap_bit_of_number}
use Rattle.qindex.proofs.index.Index.wrap.Goals as goal

pub returns-clause-value : goal.returns-clause-value
returns-clause-value c =
    ap (λ n. nat_le n c.self.inside.number) c.size.ensures.value
    ∙ wrap_seen c.self.inside.geometry c.self.inside.number c.self.invariant.number
    ∙ ap (λ (i : IndexValue). wrap_bit i.geometry i.number == 1) c.self.view_is

pub returns-clause-position : goal.returns-clause-position
returns-clause-position c =
    λ g p is. returns-clause-value c ∙ ap (λ (i : IndexValue). wrap_bit i.geometry i.number == 1) is ∙ ap (λ n. n == 1) (wrap_bit_of_number g p)
