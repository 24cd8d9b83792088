use Rattle.std.proofs.Common.{◌≤◌, ◌<◌, ℕ, ◌+◌, ◌%◌, subst, sym}
use Rattle.stress.proofs.Bodies.{most_positive, length_few}
use Rattle.stress.proofs.plan.Plan.body_length.Goals as goal

pub nonzero_rem-result : goal.nonzero_rem-result
nonzero_rem-result c = subst (λ (m : ℕ). 0 < m) (sym c.min-most.ensures) (most_positive c.self.inside.log2 c.self.invariant.some_slots c.self.invariant.few_slots)

pub returns-clause-few : goal.returns-clause-few
returns-clause-few c =
    subst (λ (m : ℕ). 1 + (c.args.sender + c.args.k) % m ≤ 4) (sym c.min-most.ensures)
    (length_few c.self.inside.log2 (c.args.sender + c.args.k) (most_positive c.self.inside.log2 c.self.invariant.some_slots c.self.invariant.few_slots))
