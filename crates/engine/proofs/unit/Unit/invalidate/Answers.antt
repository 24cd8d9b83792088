use Rattle.std.proofs.Common.{sym, subst}
use Rattle.caches.specs.Held.{Entries}
use Rattle.engine.specs.Settled.{IsSettled}
use Rattle.engine.specs.Units.{UnitValue}
use Rattle.engine.proofs.Settlings.{settled_as_before, settled_without}
use Rattle.engine.proofs.unit.Unit.invalidate.Goals as goal

pub returns-clause-settled : goal.returns-clause-settled
returns-clause-settled c list many s =
    let before = subst (λ (u : UnitValue). IsSettled u.caches.entries list) (sym c.self.view_is) s in
    settled_as_before c.apply.new.self.entries list (subst (λ (e : Entries). IsSettled e list) (sym c.apply.ensures.after) (settled_without _ list _ before))
