use Rattle.std.proofs.Common.{◌∙◌, ◌∷◌, ◌++◌, []}
use Rattle.hardware_queue.proofs.Settlements.{settled_then}
use Rattle.hardware_queue.proofs.settling.settle_all.Goals as goal

pub loop-rest-preserved : goal.loop-rest-preserved
loop-rest-preserved g c =
    let so_far = c.loop-rest.invariant.settled in
    let one = c.in-Some.ensures.settled in
    record {
      ring = c.settle_first.ensures.ring ∙ c.loop-rest.invariant.ring;
      flight = c.in-Some.ensures.flight;
      settled = (so_far.0 ++ one.0 ∷ [], settled_then so_far.0 one.0 _ _ _ so_far.1 one.1);
      fates = c.in-Some.ensures.fates;
      history = c.growth_adds_up.ensures.sum _ _ _ _ _ _ _ c.loop-rest.invariant.history c.in-Some.ensures.history;
    }
