use Rattle.std.proofs.Common.{ℕ, ◌+◌, ◌-◌, ◌^◌, ap, subst, sym, ◌∙◌}
use Rattle.std.specs.Prelude.{min}
use Rattle.hardware_queue.specs.Queues.{QueueValue}
use Rattle.hardware_queue.specs.Steps.{ForwarderValue}
use Rattle.hardware_queue.specs.Forwarders.{IsStoppedAt}
use Rattle.hardware_queue.proofs.Losses.{forwarder_after_stop}
use Rattle.ring.specs.consumer.Deferring.{settled_raws}
use Rattle.hardware_queue.specs.Fates.{FatesValue, IsKnown}
use Rattle.hardware_queue.proofs.FateLemmas.{known_remedied}
use Rattle.hardware_queue.proofs.forwarder.Forwarder.acknowledge.Goals as goal

pub invariant_of-self-2 : goal.invariant_of-self-2
invariant_of-self-2 g c =
    let q : QueueValue = g.Q.CommandQueue.queue c.self.inside.owner.queue in (
      forwarder_after_stop c.args.remedy c.in-Some.stopped q _ _ _ _ _ _ _ c.self.invariant.0
          (subst (λ (f : ForwarderValue g.row.Q.Denot). IsStoppedAt (g.Q.CommandQueue.queue f.owner.queue) f.owner.state c.in-Some.stopped) (sym c.self.view_is) c.in-Some.ensures.some)
          c.in_ok-acknowledge.ensures.done (sym c.refusal.ensures ∙ c.in_default-refusal.is) c.in_ok-acknowledge.ensures.running
          (c.saturating_add-self-inside.ensures ∙ ap (λ (k : ℕ). min (c.self.inside.lost + k) (2 ^ 64 - 1)) c.lost.ensures),
      subst (λ (f : FatesValue). IsKnown (g.Q.CommandQueue.queue c.acknowledge.new.self.queue).lost (settled_raws c.self.inside.consumer) c.self.inside.consumer.consumer.ring.made_with.senders f) (sym c.remedy.ensures)
          (known_remedied c.args.remedy c.in_ok-acknowledge.ensures.done.0 q _ (settled_raws c.self.inside.consumer) _ c.self.inside.fates c.in_ok-acknowledge.ensures.done.2 c.self.invariant.0.in_flight.consumed c.self.invariant.1),
    )
