use Rattle.std.proofs.Common.{ℕ, ◌≡◌, List, Some, refl, ap, sym, subst, ◌∙◌, arith}
use Rattle.std.specs.Prelude.{slice_get}
use Rattle.cmdcodec.specs.declared.raw.Raw.{Raw}
use Rattle.ring.specs.consumer.Deferring.{pending_of}
use Rattle.ringcore.specs.declared.world.event.Outcome.TheVariants.{Applied, Replaced}
use Rattle.hardware_queue.specs.Queues.{QueueValue}
use Rattle.hardware_queue.specs.Owners.{HasPushed}
use Rattle.hardware_queue.proofs.Forwards.{is_zero, not_zero, ill_of, fits, taken_with, one_is_replaced, replaced_in, all_legal, shown_in, stopped_inside, syncs_pushed}
use Rattle.hardware_queue.proofs.forwarding.take_in.Goals as goal

pub returns-then-is_empty-clause-done : goal.returns-then-is_empty-clause-done
returns-then-is_empty-clause-done g c =
    let raws : List Raw = c.args.consumer.now.raws in
    let raw : Raw = c.unwrap-raw.result in
    let first : slice_get raws 0 ≡ Some raw = sym c.get.ensures ∙ c.unwrap-raw.ensures in
    let none = is_zero _ c.if-is_empty.ensures in
    let outcome = c.pass_run-all.ensures.longest raw (ap (λ (n : ℕ). slice_get raws n) none ∙ first) in
    let ill = ill_of raw outcome in
    record {
      first = first;
      ill = ill.0;
      illegal = ill.1;
      taken = taken_with Replaced (pending_of c.args.consumer.now) _ 1 c.advance.ensures.consumer (one_is_replaced raws raw first outcome);
      untouched = refl;
    }

pub returns-then-is_empty-clause-flight : goal.returns-then-is_empty-clause-flight
returns-then-is_empty-clause-flight g c =
    let q : QueueValue = g.Q.CommandQueue.queue c.args.owner.now.queue in
    let raws : List Raw = c.args.consumer.now.raws in
    let raw : Raw = c.unwrap-raw.result in
    let first : slice_get raws 0 ≡ Some raw = sym c.get.ensures ∙ c.unwrap-raw.ensures in
    let none = is_zero _ c.if-is_empty.ensures in
    let outcome = c.pass_run-all.ensures.longest raw (ap (λ (n : ℕ). slice_get raws n) none ∙ first) in
    replaced_in q _ _ _ c.args.flight.now _ raws raw c.requires.flight c.advance.ensures.consumer c.advance.ensures.settled_raws c.advance.ensures.unsettled c.push.ensures first outcome
    (stopped_inside q _ c.stopped_is_in_flight.ensures)

pub push_run-requires-clause-legal : goal.push_run-requires-clause-legal
push_run-requires-clause-legal g c =
    let q : QueueValue = g.Q.CommandQueue.queue c.args.owner.now.queue in
    let r : QueueValue = g.Q.CommandQueue.queue c.push-count.new.self.queue in
    let all : List Raw = c.pass_run-all.result.items in
    let pushed = subst (λ (l : List Raw). HasPushed l q r c.push-count.result) c.as_slice.ensures.value c.push-count.ensures.pushed in
    all_legal _ all _ c.pass_run-all.ensures (fits q _ _ c.args.flight.now _ all _ c.requires.flight c.pass_run-all.ensures c.requires.room pushed.count_is)

pub advance-requires-2-clause-some : goal.advance-requires-2-clause-some
advance-requires-2-clause-some g c =
    let q : QueueValue = g.Q.CommandQueue.queue c.args.owner.now.queue in
    let r : QueueValue = g.Q.CommandQueue.queue c.push-count.new.self.queue in
    let all : List Raw = c.pass_run-all.result.items in
    let pushed = subst (λ (l : List Raw). HasPushed l q r c.push-count.result) c.as_slice.ensures.value c.push-count.ensures.pushed in
    let whole = fits q _ _ c.args.flight.now _ all _ c.requires.flight c.pass_run-all.ensures c.requires.room pushed.count_is in
    let some = not_zero _ c.if-is_empty.ensures in
    omega (arith, whole, some)

pub returns-clause-done : goal.returns-clause-done
returns-clause-done g c =
    let q : QueueValue = g.Q.CommandQueue.queue c.args.owner.now.queue in
    let r : QueueValue = g.Q.CommandQueue.queue c.push-count.new.self.queue in
    let all : List Raw = c.pass_run-all.result.items in
    let pushed = subst (λ (l : List Raw). HasPushed l q r c.push-count.result) c.as_slice.ensures.value c.push-count.ensures.pushed in
    let whole = fits q _ _ c.args.flight.now _ all _ c.requires.flight c.pass_run-all.ensures c.requires.room pushed.count_is in
    let some = not_zero _ c.if-is_empty.ensures in
    record {
      all = all;
      passing = c.pass_run-all.ensures;
      some = omega (arith, whole, some);
      whole = whole;
      pushed = pushed;
      taken = taken_with Applied (pending_of c.args.consumer.now) _ _ c.advance-2.ensures.consumer (all_legal _ all _ c.pass_run-all.ensures whole);
    }

pub returns-clause-flight : goal.returns-clause-flight
returns-clause-flight g c =
    let q : QueueValue = g.Q.CommandQueue.queue c.args.owner.now.queue in
    let r : QueueValue = g.Q.CommandQueue.queue c.push-count.new.self.queue in
    let all : List Raw = c.pass_run-all.result.items in
    let pushed = subst (λ (l : List Raw). HasPushed l q r c.push-count.result) c.as_slice.ensures.value c.push-count.ensures.pushed in
    let whole = fits q _ _ c.args.flight.now _ all _ c.requires.flight c.pass_run-all.ensures c.requires.room pushed.count_is in
    shown_in q r _ _ _ _ c.args.flight.now _ _ all _ c.requires.flight c.pass_run-all.ensures whole pushed c.push-count.ensures.state c.advance-2.ensures.consumer c.advance-2.ensures.settled_raws c.advance-2.ensures.unsettled c.push_run.ensures
    (stopped_inside q _ c.stopped_is_in_flight.ensures)

pub returns-clause-syncs : goal.returns-clause-syncs
returns-clause-syncs g c none = syncs_pushed _ _ _ _ c.push-count.ensures.pushed none
