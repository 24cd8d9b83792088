use Rattle.std.proofs.Common.{ℕ, subst, ap, ◌∙◌, arith}
use Rattle.std.specs.Prelude.{min}
use Rattle.ring.specs.consumer.Taking.{TookRun}
use Rattle.ring.specs.consumer.Deferring.{pending_of}
use Rattle.hardware_queue.specs.Queues.{QueueValue}
use Rattle.hardware_queue.proofs.Forwards.{raws_before, settled_before, read_still, room_is, forwarded_of}
use Rattle.hardware_queue.proofs.forwarding.forward_with.Goals as goal

pub take_in-requires-clause-some : goal.take_in-requires-clause-some
take_in-requires-clause-some g c = c.in-Ready.ensures.found.some

pub take_in-requires-clause-room : goal.take_in-requires-clause-room
take_in-requires-clause-room g c =
    let few = c.in-Ready.ensures.found.few in
    let room = c.room-room.ensures.value in
    let within = c.room-room.ensures.within in
    omega (arith, few, room, within)

pub take_in-requires-clause-flight : goal.take_in-requires-clause-flight
take_in-requires-clause-flight g c =
    read_still _ _ c.args.consumer.now _ _ c.requires.flight (raws_before _ _ _ c.in-Ready.ensures.found) c.in-Ready.ensures.settled

pub returns-in-Ready-clause-forwarded : goal.returns-in-Ready-clause-forwarded
returns-in-Ready-clause-forwarded g c =
    let q : QueueValue = g.Q.CommandQueue.queue c.args.owner.now.queue in
    let room = room_is q _ c.args.consumer.now _ _ c.requires.flight c.room-room.ensures.value in
    forwarded_of g.Q.CommandQueue.queue _ _ _ (record {
      run = _;
      took = subst (λ (n : ℕ). TookRun n c.args.consumer.now.consumer (pending_of c.take_run.new.self)) (c.min.ensures ∙ ap (λ (n : ℕ). min n 64) room) c.in-Ready.ensures.found;
      done = c.take_in.ensures.done;
    })

pub returns-in-Ready-clause-broken : goal.returns-in-Ready-clause-broken
returns-in-Ready-clause-broken g c word is = absurd (c.in_default.not-Broken word (c.state.ensures ∙ is))

pub returns-in-Ready-clause-settled : goal.returns-in-Ready-clause-settled
returns-in-Ready-clause-settled g c =
    c.take_in.ensures.settled ∙ settled_before c.args.consumer.now c.take_run.new.self (raws_before _ _ _ c.in-Ready.ensures.found) c.in-Ready.ensures.settled

pub returns-in-Ready-clause-history : goal.returns-in-Ready-clause-history
returns-in-Ready-clause-history g c = c.growth_adds_up.ensures.sum _ _ _ _ _ _ _ c.in-Ready.ensures.found.grew c.take_in.ensures.history
