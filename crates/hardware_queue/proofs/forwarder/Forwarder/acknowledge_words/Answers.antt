use Rattle.std.proofs.Common.{◌≡◌, ℕ, ◌/◌, List, refl, ap, sym, subst, ◌∙◌}
use Rattle.ring.specs.consumer.Deferring.{settled_raws}
use Rattle.hardware_queue.specs.declared.state.QueueState.{QueueState}
use Rattle.hardware_queue.specs.Queues.{QueueValue, command_queue_error}
use Rattle.hardware_queue.specs.Fates.{IsKnown}
use Rattle.hardware_queue.specs.Forwarders.{HasRemedied}
use Rattle.hardware_queue.specs.Steps.{ForwarderValue}
use Rattle.hardware_queue.specs.Supplying.{AreSupplied, supplied_gerrorn, slot_overwritten}
use Rattle.hardware_queue.proofs.Supplies.{supplied_still, word_is, half_stays, same_word}
use Rattle.hardware_queue.proofs.forwarder.Forwarder.acknowledge_words.Goals as goal

pub invariant_of-self : goal.invariant_of-self
invariant_of-self g c =
    let new = c.supply_gerrorn.ensures.supplied in (
      supplied_still _ (g.Q.CommandQueue.queue c.self.inside.owner.queue) _ _ _ c.self.inside.consumer c.self.inside.flight c.self.inside.lost new c.supply_gerrorn.ensures.state c.self.invariant.0,
      subst (λ (l : List ℕ). IsKnown l (settled_raws c.self.inside.consumer) c.self.inside.consumer.consumer.ring.made_with.senders c.self.inside.fates) (sym (ap (λ (q : QueueValue). q.lost) new)) c.self.invariant.1,
    )

pub returns-clause-done : goal.returns-clause-done
returns-clause-done g c =
    let old : QueueValue = g.Q.CommandQueue.queue c.self.inside.owner.queue in
    let new : QueueValue = g.Q.CommandQueue.queue c.acknowledge.new.self.owner.queue in
    let done : HasRemedied c.args.remedy c.self.inside.owner.state (supplied_gerrorn c.args.gerrorn old) new c.in-Ok.stopped =
    subst (λ (s : QueueState). HasRemedied c.args.remedy s (supplied_gerrorn c.args.gerrorn old) new c.in-Ok.stopped) c.supply_gerrorn.ensures.state
    (subst (λ (q : QueueValue). HasRemedied c.args.remedy c.supply_gerrorn.new.self.state q new c.in-Ok.stopped) c.supply_gerrorn.ensures.supplied c.in-Ok.ensures.done) in
    let are : AreSupplied new = subst (λ (f : ForwarderValue g.row.Q.Denot). AreSupplied (g.Q.CommandQueue.queue f.owner.queue)) c.self-2.view_is c.answers_are_supplied.ensures in
    let half : new.gerrorn / 2 ≡ c.args.gerrorn / 2 =
    ap (λ (n : ℕ). n / 2) done.acknowledged.gerrorn ∙ half_stays done.acknowledged.word ∙ word_is c.args.remedy _ c.args.gerrorn old new done.acknowledged are in
    let told : c.gerrorn_of-gerrorn.result ≡ new.gerrorn =
    same_word (command_queue_error new.gerrorn) c.gerrorn_of-gerrorn.result new.gerrorn
    (c.gerrorn_of-gerrorn.ensures.bit ∙ ap (λ (f : ForwarderValue g.row.Q.Denot). command_queue_error (g.Q.CommandQueue.queue f.owner.queue).gerrorn) c.self-2.view_is) refl
    (c.gerrorn_of-gerrorn.ensures.others ∙ sym half) in
    rw (← c.self.view_is) (record {
      remedied = done;
      slot = c.overwritten-slot.ensures ∙ ap (slot_overwritten c.args.remedy) c.next_slot.ensures;
      gerrorn_is = told;
      others = ap (λ (n : ℕ). n / 2) told ∙ half;
    })
