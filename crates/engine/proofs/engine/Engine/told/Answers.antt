use Rattle.std.proofs.Common.{sym, ◌∙◌}
use Rattle.engine.proofs.Ending.{settled_in_run, told_all_truly}
use Rattle.engine.proofs.Stepping.{engine_has, still_known}
use Rattle.engine.proofs.engine.Engine.told.Goals as goal

pub invariant_of-self : goal.invariant_of-self
invariant_of-self c =
    let together = engine_has _ _ c.self.inside.unit (sym c.take.ensures.value ∙ c.unwrap-consumer.ensures) c.self.invariant in
    still_known _ _ _ together c.meet-control.ensures.consumer

pub returns-clause-told : goal.returns-clause-told
returns-clause-told c =
    let together = engine_has _ _ c.self.inside.unit (sym c.take.ensures.value ∙ c.unwrap-consumer.ensures) c.self.invariant in
    told_all_truly c.consumer_trail.ensures.taken _ _ _ _ c.meet-control.ensures.of_consumer together.settled _ _ c.meet-control.ensures.told

pub returns-clause-settled : goal.returns-clause-settled
returns-clause-settled c =
    let together = engine_has _ _ c.self.inside.unit (sym c.take.ensures.value ∙ c.unwrap-consumer.ensures) c.self.invariant in
    settled_in_run c.consumer_trail.ensures.taken _ _ _ _ c.meet-control.ensures.of_consumer together.settled
