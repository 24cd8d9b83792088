use Rattle.std.proofs.Common.{sym, subst}
use Rattle.engine.specs.Settled.{IsSettled}
use Rattle.engine.specs.Units.{UnitValue}
use Rattle.engine.proofs.Settlings.{settled_replaced}
use Rattle.engine.proofs.unit.Unit.replace_awaited.Goals as goal

pub returns-clause-settled : goal.returns-clause-settled
returns-clause-settled c list many s =
    settled_replaced _ list c.args.awaited (subst (λ (u : UnitValue). IsSettled u.caches.entries list) (sym c.self.view_is) s)
