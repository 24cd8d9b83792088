use Rattle.std.proofs.Common.{◌∷◌, ap, ◌∙◌}
use Rattle.trace.proofs.Slots.{begun_so}
use Rattle.trace.proofs.state.Trace.begin.Goals as goal

pub invariant_of-self-in-Ok : goal.invariant_of-self-in-Ok
invariant_of-self-in-Ok c =
    begun_so c.self.inside.unit c.begin.new.self _ c.in-Ok.entry.born c.in-Ok.transaction c.args.number c.self.inside.accesses.items c.insert.new.self.items
    c.in-Ok.ensures.begun.2 c.self.invariant (c.in-Ok-insert.ensures.items ∙ ap (λ xs. record { number = c.args.number; transaction = c.in-Ok.transaction } ∷ xs) c.reserve.ensures.items)
