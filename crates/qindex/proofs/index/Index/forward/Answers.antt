use Rattle.std.proofs.Common.{rules, ◌≤◌, ◌+◌, ap, sym, subst, ◌∙◌, arith}
use Rattle.qindex.specs.Positions.{IndexValue, size, index_of}
use Rattle.qindex.proofs.PositionLemmas.{size_fits, forward_of}
use Rattle.qindex.proofs.index.Index.forward.Goals as goal

pub overflow_add-self-inside : goal.overflow_add-self-inside
overflow_add-self-inside c =
    let most = size_fits c.self.inside.geometry c.self.invariant.geometry in
    let steps = subst (λ (i : IndexValue). c.args.steps ≤ size i.geometry) (sym c.self.view_is) c.requires.steps in
    omega (arith, most, steps, c.self.invariant.number)

pub returns-clause-value : goal.returns-clause-value
returns-clause-value c = search rules

pub returns-clause-position : goal.returns-clause-position
returns-clause-position c =
    λ g p is. returns-clause-value c ∙ ap (λ (i : IndexValue). index_of i.geometry (i.number + c.args.steps)) is ∙ forward_of g p c.args.steps
