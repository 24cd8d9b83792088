use Rattle.std.proofs.Common.{sym, subst}
use Rattle.caches.specs.Stored.{Stored}
use Rattle.ring.specs.consumer.Completing.{taken_of}
use Rattle.engine.specs.Settled.{IsSettled}
use Rattle.engine.proofs.Stepping.{engine_has}
use Rattle.engine.proofs.engine.Engine.into_parts.Goals as goal

pub returns-clause-settled : goal.returns-clause-settled
returns-clause-settled c =
    let together = engine_has _ _ c.self.inside.unit c.unwrap.ensures c.self.invariant in
    subst (λ (s : Stored). IsSettled s.entries (taken_of c.unwrap.result.trail)) (sym c.into_caches.ensures) together.settled
