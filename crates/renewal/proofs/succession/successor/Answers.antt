use Rattle.std.proofs.Common.{sym, ap, subst, ◌∙◌}
use Rattle.ring.specs.consumer.Consumers.{ConsumerValue}
use Rattle.ring.specs.NewRings.{IsNewRing}
use Rattle.engine.specs.Engines.{EngineValue}
use Rattle.engine.specs.Units.{UnitValue}
use Rattle.renewal.proofs.Wholes.{new_whole}
use Rattle.renewal.proofs.succession.successor.Goals as goal

pub returns-in-Ok-carry-clause-whole : goal.returns-in-Ok-carry-clause-whole
returns-in-Ok-carry-clause-whole c =
    let parts = c.in-Ok-new.parts in
    let its = c.carry.ensures.consumer ∙ ap (λ (e : EngineValue). e.consumer) c.new-engine.ensures in
    new_whole _ _ _ _ (subst (λ (d : ConsumerValue UnitValue). IsNewRing c.args.sizes.log2 c.args.senders c.args.sizes.max_batches parts.0 parts.1.items d) (sym its) c.in-Ok-new.ensures.made)
