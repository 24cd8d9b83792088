use Rattle.std.proofs.Common.{◌≡◌, ◌∙◌, sym, ap, subst}
use Rattle.std.proofs.lemmas.List.{drop_all}
use Rattle.ringcore.specs.machine.Played.{played}
use Rattle.ringcore.specs.machine.Core.{ring_with, ring_of, StandsAfter}
use Rattle.ringcore.proofs.MachineLemmas.PlayedSteps.{reaches_further, stops_there, ends, delivered}
use Rattle.ringcore.proofs.machine.run.Goals as goal

pub returns-in-Err-clause-played : goal.returns-in-Err-clause-played
returns-in-Err-clause-played c =
    let ring = ring_with c.args.log2 c.args.senders in
    let at = stops_there ring c.args.steps.now c.loop-place.core c.loop-place.place c.loop-place.invariant c.loop-place-test.true c.index-steps-place.result c.index-steps-place.is c.in-Err.fault c.in-Err.ensures.0 in
    let same : c.take.new.self ≡ c.loop-place.core = c.in-Err.ensures.1 in record {
      numbers = c.in_ok-core.ensures.made.numbers;
      ring = ap ring_of same ∙ c.loop-place.invariant.ring_is;
      stands = subst (λ m. StandsAfter m (played ring c.args.steps.now).run) (sym same) at.stands;
      refused_is = at.refused;
    }

pub returns-in-Err-clause-delivery : goal.returns-in-Err-clause-delivery
returns-in-Err-clause-delivery c =
    let ring = ring_with c.args.log2 c.args.senders in
    let at = stops_there ring c.args.steps.now c.loop-place.core c.loop-place.place c.loop-place.invariant c.loop-place-test.true c.index-steps-place.result c.index-steps-place.is c.in-Err.fault c.in-Err.ensures.0 in
    delivered c.world_law.ensures.taken c.world_law.ensures.numbered c.world_law.ensures.closed c.world_law.ensures.told c.loop-place.core (played ring c.args.steps.now).run at.stands

pub loop-place-preserved : goal.loop-place-preserved
loop-place-preserved c =
    reaches_further (ring_with c.args.log2 c.args.senders) c.args.steps.now c.loop-place.core c.loop-place.place c.loop-place.invariant c.loop-place-test.true
    c.index-steps-place.result c.index-steps-place.is c.take.new.self c.in_default.field-0 c.in_default.ensures.0 c.in_default.ensures.1

pub returns-clause-delivery : goal.returns-clause-delivery
returns-clause-delivery c =
    let ring = ring_with c.args.log2 c.args.senders in
    let at = ends ring c.args.steps.now c.loop-place.core c.loop-place.place c.loop-place.invariant (drop_all c.loop-place.place c.args.steps.now c.loop-place-test.false) in
    delivered c.world_law.ensures.taken c.world_law.ensures.numbered c.world_law.ensures.closed c.world_law.ensures.told c.loop-place.core (played ring c.args.steps.now).run at.stands
