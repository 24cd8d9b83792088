use Rattle.std.proofs.Common.{ℕ, ap, subst, sym, ◌∙◌, arith}
use Rattle.std.proofs.Common.{List, [], ◌∷◌, ◌++◌, ◌<◌, refl}
use Rattle.cmdcodec.specs.declared.raw.Raw.{Raw}
use Rattle.ringcore.specs.world.Trails.{raws_by}
use Rattle.ringcore.specs.world.Laws.{SyncsAreInOrder}
use Rattle.ring.specs.consumer.Consumers.{ConsumerValue}
use Rattle.ring.specs.consumer.Completing.{sync_sender}
use Rattle.ring.specs.consumer.PendingConsumers.{IsFirst}
use Rattle.ring.specs.consumer.Deferring.{settled_raws, unsettled_raws}
use Rattle.hardware_queue.specs.Fates.{FatesValue, IsKnown}
use Rattle.hardware_queue.proofs.Forwards.{in_two}
use Rattle.hardware_queue.proofs.FateLemmas.{known_more, known_still, is_closing, is_known, is_next, is_itself}
use Rattle.hardware_queue.proofs.Settlements.{oldest, outcome_is, may_settle, one_settled, none_left, waits}
use Rattle.hardware_queue.proofs.settling.settle_first.Given.{Over}
use Rattle.hardware_queue.proofs.settling.settle_first.Goals.{After-trail_stands_in_a_run}
use Rattle.hardware_queue.proofs.settling.settle_first.Goals as goal

-- the next command is the next of the ring
next_is : (g : Over) (c : After-trail_stands_in_a_run g) → IsFirst c.in-Some.first.raw (unsettled_raws c.args.consumer.now)
next_is g c = oldest _ _ _ c.args.left c.in-Some.first c.requires.flight (sym c.front.ensures ∙ c.in-Some.is)

order_is : (g : Over) (c : After-trail_stands_in_a_run g) → SyncsAreInOrder c.args.consumer.now.consumer.ring.made_with.senders (settled_raws c.args.consumer.now ++ c.in-Some.first.raw ∷ (next_is g c).0)
order_is g c =
    let stands = c.trail_stands_in_a_run.ensures.history.stands in
    subst (SyncsAreInOrder c.args.consumer.now.consumer.ring.made_with.senders)
    (ap raws_by stands.trail_is ∙ in_two c.args.consumer.now ∙ ap (λ (l : List Raw). settled_raws c.args.consumer.now ++ l) (next_is g c).1)
    (c.consumer_trail.ensures.order _ _ _ stands.only stands.after.run_is)

pub settle-requires-2-clause-next : goal.settle-requires-2-clause-next
settle-requires-2-clause-next g c =
    oldest _ _ _ _ c.in-Some.first c.requires.flight (sym c.front.ensures ∙ c.in-Some.is)

pub settle-requires-2-clause-settled : goal.settle-requires-2-clause-settled
settle-requires-2-clause-settled g c =
    let enough = c.if-left-shown.false in
    let n = c.count_shown-shown.ensures in
    may_settle _ _ _ c.args.left c.in-Some.first c.requires.flight (sym c.front.ensures ∙ c.in-Some.is) (omega (arith, enough, n))

pub returns-clause-flight : goal.returns-clause-flight
returns-clause-flight g c =
    let enough = c.if-left-shown.false in
    let n = c.count_shown-shown.ensures in
    one_settled _ _ _ _ _ c.args.left _ c.in-Some.first c.requires.flight (sym c.front.ensures ∙ c.in-Some.is) (omega (arith, enough, n)) c.settle-2.ensures.settled_raws c.settle-2.ensures.unsettled c.pop.ensures

pub returns-in_default-clause-none : goal.returns-in_default-clause-none
returns-in_default-clause-none g c =
    none_left _ _ _ c.args.left c.requires.flight c.requires.order (sym c.in_default.is ∙ c.front.ensures)

pub returns-then-left-shown-clause-none : goal.returns-then-left-shown-clause-none
returns-then-left-shown-clause-none g c =
    let few = c.if-left-shown.true in
    let n = c.count_shown-shown.ensures in
    waits _ _ _ c.args.left c.in-Some.first c.requires.flight (sym c.front.ensures ∙ c.in-Some.is) (omega (arith, few, n))

pub settle-requires-clause-closing : goal.settle-requires-clause-closing
settle-requires-clause-closing g c sync =
    let at = (goal.at.settle-requires-clause-closing g c).After-trail_stands_in_a_run in
    is_closing c.counts_law.ensures.words c.counts_law.ensures.sum _ c.trail_stands_in_a_run.ensures.history.stands.limits.senders _ (next_is g at).0 c.in-Some.first.raw (order_is g at) sync

pub settle-requires-clause-known : goal.settle-requires-clause-known
settle-requires-clause-known g c sync =
    let at = (goal.at.settle-requires-clause-known g c).After-trail_stands_in_a_run in
    subst (λ (n : ℕ). sync_sender c.in-Some.first.raw < n) (sym c.requires.fates.senders_are)
    (is_known c.counts_law.ensures.words c.counts_law.ensures.sum _ c.trail_stands_in_a_run.ensures.history.stands.limits.senders _ (next_is g at).0 c.in-Some.first.raw (order_is g at) sync)

pub settle-requires-clause-next : goal.settle-requires-clause-next
settle-requires-clause-next g c sync =
    let at = (goal.at.settle-requires-clause-next g c).After-trail_stands_in_a_run in
    is_next c.counts_law.ensures.words c.counts_law.ensures.sum _ c.trail_stands_in_a_run.ensures.history.stands.limits.senders _ (next_is g at).0 c.in-Some.first.raw (order_is g at) sync
    _ c.args.fates.now.settled c.are_numbered.ensures c.requires.fates.fates

pub returns-clause-fates : goal.returns-clause-fates
returns-clause-fates g c =
    let at = (goal.at.returns-clause-fates g c).After-trail_stands_in_a_run in
    let old = known_more _ (settled_raws c.args.consumer.now) _ c.args.fates.now c.in-Some.first (outcome_is _ _ _ c.args.left c.in-Some.first c.requires.flight (sym c.front.ensures ∙ c.in-Some.is))
    (λ sync. is_itself c.counts_law.ensures.words c.counts_law.ensures.sum _ c.trail_stands_in_a_run.ensures.history.stands.limits.senders _ (next_is g at).0 c.in-Some.first.raw (order_is g at) sync)
    c.requires.fates in
    known_still _ _ _ _ _ _ _ refl c.settle-2.ensures.settled_raws
    (ap (λ (x : ConsumerValue _). x.ring.made_with.senders) c.settle-2.ensures.consumer)
    (subst (λ (f : FatesValue). IsKnown (g.Q.CommandQueue.queue c.args.owner.now.queue).lost (settled_raws c.args.consumer.now ++ c.in-Some.first.raw ∷ []) c.args.consumer.now.consumer.ring.made_with.senders f) (sym c.settle.ensures) old)
