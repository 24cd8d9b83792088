use Rattle.std.proofs.Common.{refl}
use Rattle.hardware_queue.specs.Queues.{QueueValue}
use Rattle.hardware_queue.proofs.Polls as polls
use Rattle.hardware_queue.proofs.owner.Owner.poll.Goals as goal

pub invariant_of-self : goal.invariant_of-self
invariant_of-self g c =
    let q : QueueValue = g.Q.CommandQueue.queue c.self.inside.queue in
    let never = rw c.in_default.is at c.look_at_cons-word.ensures.found in
    polls.owner_broken q _ _ _ _ _ _ c.self.invariant (polls.broken_same q _ _ _ _ c.read_gerror-errors.ensures c.look_at_cons-word.ensures.read never) (polls.broken_never _ _)

pub returns-in_default-clause-polled : goal.returns-in_default-clause-polled
returns-in_default-clause-polled g c =
    let q : QueueValue = g.Q.CommandQueue.queue c.self.inside.queue in
    let e = c.read_gerror-errors.ensures in
    let r = c.look_at_cons-word.ensures.read in
    let never = rw c.in_default.is at c.look_at_cons-word.ensures.found in
    rw (← c.self.view_is) (record {
      gerror = _;
      word = _;
      read = polls.broken_read q _ _ _ _ e r never;
      found = (refl, polls.unbelieved q _ _ _ e never, polls.broken_same q _ _ _ _ e r never);
    })

pub invariant_of-self-then-is_stopped : goal.invariant_of-self-then-is_stopped
invariant_of-self-then-is_stopped g c =
    let q : QueueValue = g.Q.CommandQueue.queue c.self.inside.queue in
    let is = c.self.invariant in
    let e = c.read_gerror-errors.ensures in
    let r = c.look_at_cons-word.ensures.read in
    let found = rw c.in-Some.is at c.look_at_cons-word.ensures.found in
    let both = c.is_error_active-is_stopped.ensures.0 c.if-is_stopped.true in
    let active = polls.active q _ _ _ both is.acknowledged_is (c.distance-in_flight.ensures.positions _ _ _ is.queue) in
    let here = polls.stopped_here q _ _ _ _ e r found.0 active in
    polls.owner_after q _ _ _ _ _ _ _ _ _ is (polls.consumed q _ _ _ _ _ e r found.0 found.1) (c.forward-self-inside.ensures.position _ _ is.queue.cons_is)
    (rw c.of-error.ensures (polls.stopped_with _ _ here))

pub returns-then-is_stopped-clause-polled : goal.returns-then-is_stopped-clause-polled
returns-then-is_stopped-clause-polled g c =
    let q : QueueValue = g.Q.CommandQueue.queue c.self.inside.queue in
    let is = c.self.invariant in
    let e = c.read_gerror-errors.ensures in
    let r = c.look_at_cons-word.ensures.read in
    let found = rw c.in-Some.is at c.look_at_cons-word.ensures.found in
    let both = c.is_error_active-is_stopped.ensures.0 c.if-is_stopped.true in
    let active = polls.active q _ _ _ both is.acknowledged_is (c.distance-in_flight.ensures.positions _ _ _ is.queue) in
    let here = polls.stopped_here q _ _ _ _ e r found.0 active in
    rw (← c.self.view_is) (record {
      gerror = _;
      word = _;
      read = polls.read_are q _ _ _ _ e r found.0;
      found = (polls.consumed q _ _ _ _ _ e r found.0 found.1, active, rw c.of-error.ensures here);
    })

pub invariant_of-self-2 : goal.invariant_of-self-2
invariant_of-self-2 g c =
    let q : QueueValue = g.Q.CommandQueue.queue c.self.inside.queue in
    let is = c.self.invariant in
    let found = rw c.in-Some.is at c.look_at_cons-word.ensures.found in
    polls.owner_after q _ _ _ _ _ _ _ _ _ is (polls.consumed q _ _ _ _ _ c.read_gerror-errors.ensures c.look_at_cons-word.ensures.read found.0 found.1)
    (c.forward-self-inside.ensures.position _ _ is.queue.cons_is) (polls.running_never _)

pub returns-clause-polled : goal.returns-clause-polled
returns-clause-polled g c =
    let q : QueueValue = g.Q.CommandQueue.queue c.self.inside.queue in
    let is = c.self.invariant in
    let e = c.read_gerror-errors.ensures in
    let r = c.look_at_cons-word.ensures.read in
    let found = rw c.in-Some.is at c.look_at_cons-word.ensures.found in
    let quiet = polls.quiet q _ _ _ _ c.is_error_active-is_stopped.ensures c.if-is_stopped.false is.acknowledged_is (c.distance-in_flight.ensures.positions _ _ _ is.queue) in
    rw (← c.self.view_is) (record {
      gerror = _;
      word = _;
      read = polls.read_are q _ _ _ _ e r found.0;
      found = (polls.consumed q _ _ _ _ _ e r found.0 found.1, quiet);
    })
