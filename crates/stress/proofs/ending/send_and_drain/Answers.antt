use Rattle.std.proofs.Common.{ℕ, sym, ◌∙◌, subst, arith}
use Rattle.ring.specs.Rings.{RingValue}
use Rattle.stress.specs.EngineTurns.{HaveClosed, IsNotDrained, HasGivenUp, open_still}
use Rattle.stress.proofs.Turns.{at_least, on_and_on, when_err}
use Rattle.stress.proofs.Rows.{workers_on, many_workers, rings}
use Rattle.stress.proofs.ending.send_and_drain.Goals as goal

pub send_all-requires-clause-workers : goal.send_all-requires-clause-workers
send_all-requires-clause-workers c = workers_on c.args.plan c.args.ring.now c.args.plan.senders c.args.workers.items c.requires.workers

pub send_all-requires-clause-room : goal.send_all-requires-clause-room
send_all-requires-clause-room c =
    let many = many_workers c.args.plan c.args.ring.now c.args.plan.senders c.args.workers.items c.requires.workers in
    let room = c.requires.room.1 in
    omega (arith, many, room)

pub close_first-senders-requires-clause-ring : goal.close_first-senders-requires-clause-ring
close_first-senders-requires-clause-ring c =
    rings c.args.plan c.args.ring.now c.in_ok-senders.senders.items (c.in_ok-senders.ensures.senders ∙ c.requires.workers) c.requires.ring

pub close_first-senders-requires-clause-some : goal.close_first-senders-requires-clause-some
close_first-senders-requires-clause-some c =
    let many = many_workers c.args.plan c.args.ring.now c.args.plan.senders c.args.workers.items c.requires.workers in
    let sent = c.in_ok-senders.ensures.many in
    let some = c.requires.plan.some_sender in
    omega (arith, many, sent, some)

pub returns-in_err-drain_closed-clause-given_up : goal.returns-in_err-drain_closed-clause-given_up
returns-in_err-drain_closed-clause-given_up c =
    when_err c.from_residual-in_err-drain_closed.result (HasGivenUp c.args.plan c.args.engine.now c.drain_closed.new.engine)
    (open_still c.send_all.new.engine c.close_first-senders.result.items c.in_ok-senders.ensures.engine
    (subst (λ (r : RingValue). HaveClosed r c.close_first-senders.result.items) (sym (c.in_ok-senders.ensures.engine.ring ∙ c.requires.engine)) c.close_first-senders.ensures.closed)
    (subst (λ (n : ℕ). IsNotDrained n c.send_all.new.engine c.drain_closed.new.engine) c.slots.ensures c.in_err-drain_closed.ensures.undrained))

pub returns-clause-engine : goal.returns-clause-engine
returns-clause-engine c =
    at_least 1 0 c.args.engine.now c.drain_closed.new.engine (omega arith)
    (on_and_on 0 1 c.args.engine.now c.send_all.new.engine c.drain_closed.new.engine c.in_ok-senders.ensures.engine c.drain_closed.ensures.goes_on)
