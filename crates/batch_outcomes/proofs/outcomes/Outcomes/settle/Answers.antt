use Rattle.std.proofs.Common.{ℕ, List, sym, subst}
use Rattle.batch_outcomes.specs.declared.settled.Settled.{Settled}
use Rattle.batch_outcomes.specs.Outcomes.{IsRemembered}
use Rattle.batch_outcomes.proofs.Remembering.{remembered_command}
use Rattle.batch_outcomes.proofs.outcomes.Outcomes.settle.Goals as goal

pub invariant_of-self : goal.invariant_of-self
invariant_of-self c =
    subst (λ (x : List Settled × ℕ). IsRemembered x.0 c.self.inside.told.items x.1) (λ k. (sym c.add.ensures k, sym c.count_lost-lost.ensures k))
    (remembered_command c.self.inside.settled c.self.inside.told.items c.self.inside.lost c.args.carried_out c.self.invariant)
