use Rattle.std.proofs.Common.{sym, subst, []}
use Rattle.caches.specs.Held.{Entries}
use Rattle.engine.specs.Settled.{IsSettled}
use Rattle.engine.proofs.Settlings.{settled_empty}
use Rattle.engine.proofs.unit.Unit.new.Goals as goal

pub returns-clause-settled : goal.returns-clause-settled
returns-clause-settled c = subst (λ (e : Entries). IsSettled e []) (sym c.requires.empty) settled_empty
