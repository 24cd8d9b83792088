use Rattle.std.proofs.Common.{◌≡◌, ◌+◌, [], ◌∷◌, ◌++◌, take, true, rules, sym, ap, subst, ◌∙◌}
use Rattle.std.specs.Prelude.{drop}
use Rattle.cmdcodec.specs.Opcodes.{is_sync}
use Rattle.ring.specs.Runs.{Trail, raws_by}
use Rattle.ring.specs.Rings.{RingValue}
use Rattle.ring.specs.table.{PortValue}
use Rattle.ring.specs.consumer.{DeferringValue, IsDue, IsFirst, IsDeferring, acknowledged, settled_raws, unsettled_raws}
use Rattle.ring.proofs.ConsumerLemmas.Settling.{is_due, still_deferring, settled_more, unsettled_less}
use Rattle.ring.proofs.consumer.deferring_consumer.DeferringConsumer.settle.Given.{Over}
use Rattle.ring.proofs.consumer.deferring_consumer.DeferringConsumer.settle.Goals.{After-is_within_limits, After-acknowledge}
use Rattle.ring.proofs.consumer.deferring_consumer.DeferringConsumer.settle.Goals as goal

-- the next command, as the fields have it
next_is : (g : Over) (c : After-is_within_limits g) → IsFirst c.args.raw (drop c.self.inside.settled (raws_by c.self.inside.port.trail))
next_is g c = subst (λ (v : DeferringValue g.row.D.Denot). IsFirst c.args.raw (unsettled_raws v)) (sym c.self.view_is) c.requires.next

ring_is : (g : Over) (c : After-is_within_limits g) → c.self.inside.port.ring ≡ c.args.ring.now
ring_is g c = ap (λ (v : DeferringValue g.row.D.Denot). v.consumer.ring) c.self.view_is ∙ c.requires.ring

trail_is : (g : Over) (c : After-acknowledge g) → c.acknowledge.new.self.trail ≡ acknowledged c.args.raw c.self.inside.port.trail
trail_is g c = ap (λ (p : PortValue). p.trail) c.acknowledge.ensures.trail

pub acknowledge-requires-clause-due : goal.acknowledge-requires-clause-due
acknowledge-requires-clause-due g c =
    let at = (goal.at.acknowledge-requires-clause-due g c).After-is_within_limits in
    subst (λ (r : RingValue). is_sync c.args.raw ≡ true → IsDue r.made_with.senders c.self.inside.port.trail c.args.raw) (ring_is g at)
    (is_due c.counts_law.ensures.sum c.consumer_trail.ensures.syncs c.consumer_trail.ensures.count c.counts_law.ensures.words _ c.is_within_limits.ensures.senders _ c.self.inside.settled c.args.raw
    c.self.invariant.0 c.knows_its_steps.ensures.order (next_is g at))

pub invariant_of-self : goal.invariant_of-self
invariant_of-self g c =
    let at = (goal.at.invariant_of-self g c).After-is_within_limits in
    let next = (goal.at.invariant_of-self g c).After-acknowledge in (
      subst (λ (t : Trail). IsDeferring t (c.self.inside.settled + 1)) (sym (trail_is g next))
          (still_deferring c.counts_law.ensures.sum c.consumer_trail.ensures.syncs c.consumer_trail.ensures.count c.counts_law.ensures.words _ c.is_within_limits.ensures.senders _ c.self.inside.settled c.args.raw
          c.self.invariant.0 c.knows_its_steps.ensures.order (next_is g at)),
      search rules,
    )

pub returns-clause-settled_raws : goal.returns-clause-settled_raws
returns-clause-settled_raws g c =
    let at = (goal.at.returns-clause-settled_raws g c).After-is_within_limits in
    let next = (goal.at.returns-clause-settled_raws g c).After-acknowledge in
    ap (λ (t : Trail). take (c.self.inside.settled + 1) (raws_by t)) (trail_is g next)
    ∙ settled_more c.counts_law.ensures.sum c.consumer_trail.ensures.syncs c.consumer_trail.ensures.count c.counts_law.ensures.words _ c.is_within_limits.ensures.senders c.self.inside.port.trail c.self.inside.settled c.args.raw
    c.self.invariant.0 c.knows_its_steps.ensures.order (next_is g at)
    ∙ ap (λ (v : DeferringValue g.row.D.Denot). settled_raws v ++ c.args.raw ∷ []) c.self.view_is

pub returns-clause-unsettled : goal.returns-clause-unsettled
returns-clause-unsettled g c =
    let at = (goal.at.returns-clause-unsettled g c).After-is_within_limits in
    let next = (goal.at.returns-clause-unsettled g c).After-acknowledge in
    ap (λ (v : DeferringValue g.row.D.Denot). unsettled_raws v) (sym c.self.view_is)
    ∙ unsettled_less c.counts_law.ensures.sum c.consumer_trail.ensures.syncs c.consumer_trail.ensures.count c.counts_law.ensures.words _ c.is_within_limits.ensures.senders c.self.inside.port.trail c.self.inside.settled c.args.raw
    c.self.invariant.0 c.knows_its_steps.ensures.order (next_is g at)
    ∙ ap (λ (t : Trail). c.args.raw ∷ drop (c.self.inside.settled + 1) (raws_by t)) (sym (trail_is g next))
