use Rattle.std.proofs.Common.{sym, subst}
use Rattle.engine.specs.Settled.{IsSettled}
use Rattle.engine.specs.Units.{UnitValue}
use Rattle.engine.proofs.Settlings.{settled_as_before}
use Rattle.engine.proofs.unit.Unit.acknowledge.Goals as goal

pub returns-clause-settled : goal.returns-clause-settled
returns-clause-settled c list many s =
    settled_as_before c.self.inside.caches.entries list (subst (λ (u : UnitValue). IsSettled u.caches.entries list) (sym c.self.view_is) s)
