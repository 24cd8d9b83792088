use Rattle.std.proofs.Common.{sym, subst}
use Rattle.caches.specs.Held.{Entries}
use Rattle.engine.specs.Settled.{IsSettled}
use Rattle.engine.specs.Units.{UnitValue}
use Rattle.engine.proofs.Settlings.{settled_evict, settled_as_before}
use Rattle.engine.proofs.unit.Unit.evict.Goals as goal

pub returns-clause-settled : goal.returns-clause-settled
returns-clause-settled c list many s =
    let before = subst (λ (u : UnitValue). IsSettled u.caches.entries list) (sym c.self.view_is) s in
    settled_as_before c.evict.new.self.entries list (subst (λ (e : Entries). IsSettled e list) (sym c.evict.ensures.after) (settled_evict _ list _ before))
