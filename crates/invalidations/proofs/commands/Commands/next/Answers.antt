use Rattle.std.proofs.Common.{◌≡◌, ◌∷◌, subst}
use Rattle.invalidations.specs.Plans.{Plan, commands_of}
use Rattle.invalidations.proofs.PlanLemmas.{by_address_next}
use Rattle.invalidations.proofs.commands.Commands.next.Goals as goal

pub returns-in-Some-clause-commands : goal.returns-in-Some-clause-commands
returns-in-Some-clause-commands c =
    let old : Plan = record { request = c.self.inside.by_address; whole = c.self.inside.whole } in
    let new : Plan = record { request = c.take.new.self; whole = c.self.inside.whole } in
    subst (λ plan. commands_of plan ≡ c.in-Some.command ∷ commands_of new) c.self.view_is
    (by_address_next old c.in-Some.command c.take.new.self c.in-Some.ensures.commands)
