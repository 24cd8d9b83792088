use Rattle.std.proofs.Common.{ℕ, ◌*◌, ◌%◌, ap, ◌∙◌, arith}
use Rattle.qindex.specs.Positions.{size}
use Rattle.qindex.proofs.PositionLemmas.{some_slots, numbers_shifted, masked_number}
use Rattle.qindex.proofs.geometry.Geometry.wrapped.Goals as goal

pub overflow_sub-result : goal.overflow_sub-result
overflow_sub-result c =
    let some = some_slots c.self.inside.log2 in
    rw (numbers_shifted c.self.inside.log2 c.self.invariant) (omega (arith, some))

pub returns : goal.returns
returns c = masked_number c.self.inside.log2 c.args.number c.self.invariant ∙ ap (λ (g : ℕ). c.args.number % (2 * size g)) c.self.view_is
