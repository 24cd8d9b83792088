use Rattle.std.proofs.Common.{sym, subst}
use Rattle.engine.specs.Settled.{IsSettled}
use Rattle.engine.specs.Units.{UnitValue}
use Rattle.engine.proofs.Settlings.{settled_as_before, settled_replaced}
use Rattle.engine.proofs.Running.{applied_settled}
use Rattle.engine.proofs.unit.Unit.judge.Goals as goal

pub returns-in-Ok-clause-settled : goal.returns-in-Ok-clause-settled
returns-in-Ok-clause-settled c = applied_settled _ _ _ _ _ c.apply-removed.ensures

pub returns-then-is_replacing-clause-settled : goal.returns-then-is_replacing-clause-settled
returns-then-is_replacing-clause-settled c list many s =
    settled_replaced _ list c.args.raw (subst (λ (u : UnitValue). IsSettled u.caches.entries list) (sym c.self.view_is) s)

pub returns-else-is_replacing-clause-settled : goal.returns-else-is_replacing-clause-settled
returns-else-is_replacing-clause-settled c list many s =
    settled_as_before c.self.inside.caches.entries list (subst (λ (u : UnitValue). IsSettled u.caches.entries list) (sym c.self.view_is) s)
