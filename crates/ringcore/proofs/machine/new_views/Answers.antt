use Rattle.std.proofs.Common.{◌∷◌, [], length, length-append, sym, ap, subst, arith}
use Rattle.ringcore.specs.machine.Core.{AllKnow}
use Rattle.ringcore.proofs.MachineLemmas.PlayedSteps.{one_more_knows}
use Rattle.ringcore.proofs.machine.new_views.Goals as goal

pub loop-preserved : goal.loop-preserved
loop-preserved c =
    let before = c.loop.invariant.0 in
    let more = length-append c.loop.views.items (c.new.result ∷ []) in
    let items = ap length c.in_ok-push.ensures.items in (
      omega (arith, before, more, items),
      subst (AllKnow []) (sym c.in_ok-push.ensures.items) (one_more_knows c.loop.views.items c.new.result c.loop.invariant.1 c.new.ensures),
    )
