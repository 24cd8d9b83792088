use Rattle.std.proofs.Common.{ℕ, List, ap, sym, subst, ◌∙◌}
use Rattle.ring.specs.consumer.Deferring.{settled_raws}
use Rattle.hardware_queue.specs.Queues.{QueueValue}
use Rattle.hardware_queue.specs.Fates.{IsKnown}
use Rattle.hardware_queue.specs.Steps.{ForwarderValue}
use Rattle.hardware_queue.specs.Supplying.{AreSupplied}
use Rattle.hardware_queue.proofs.Supplies.{looked, supplied_still}
use Rattle.hardware_queue.proofs.forwarder.Forwarder.poll_words.Goals as goal

pub invariant_of-self-else-not-supply : goal.invariant_of-self-else-not-supply
invariant_of-self-else-not-supply g c =
    let new = c.supply.ensures.supplied c.if-not-supply.false in (
      supplied_still _ (g.Q.CommandQueue.queue c.self.inside.owner.queue) _ _ _ c.self.inside.consumer c.self.inside.flight c.self.inside.lost new (c.supply.ensures.state c.if-not-supply.false) c.self.invariant.0,
      subst (λ (l : List ℕ). IsKnown l (settled_raws c.self.inside.consumer) c.self.inside.consumer.consumer.ring.made_with.senders c.self.inside.fates) (sym (ap (λ (q : QueueValue). q.lost) new)) c.self.invariant.1,
    )

pub returns-clause-looked : goal.returns-clause-looked
returns-clause-looked g c unbroken =
    rw (← c.self.view_is) (looked c.args.words (g.Q.CommandQueue.queue c.self.inside.owner.queue) (g.Q.CommandQueue.queue c.supply.new.self.queue) _ c.poll-found.result
    (c.supply.ensures.can c.if-not-supply.false) (c.supply.ensures.supplied c.if-not-supply.false)
    (c.poll-found.ensures.polled (λ broken. c.in_default.not-Broken broken.0 (c.state.ensures ∙ sym (c.supply.ensures.state c.if-not-supply.false) ∙ broken.1)))
    (subst (λ (f : ForwarderValue g.row.Q.Denot). AreSupplied (g.Q.CommandQueue.queue f.owner.queue)) c.self-2.view_is c.answers_are_supplied.ensures))

pub returns-clause-broken : goal.returns-clause-broken
returns-clause-broken g c word is = absurd (c.in_default.not-Broken word (c.state.ensures ∙ ap (λ (f : ForwarderValue g.row.Q.Denot). f.owner.state) c.self.view_is ∙ is))
