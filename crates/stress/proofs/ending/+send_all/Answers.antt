use Rattle.std.proofs.Common.{◌≡◌, ◌∙◌, List, sym, subst, arith}
use Rattle.std.proofs.lemmas.List.Elements.{All-push}
use Rattle.std.specs.List.{All}
use Rattle.ring.specs.sender.Senders.{SenderValue}
use Rattle.stress.specs.Workers.{WorkerValue, assignment, assignment_of, HasSent}
use Rattle.stress.specs.EngineTurns.{HasGivenUp}
use Rattle.stress.proofs.Turns.{on_and_on, later_given_up, when_err}
use Rattle.stress.proofs.Last.{last_of, ahead_of, alike}
use Rattle.stress.proofs.ending.+send_all.Goals as goal

pub send_all-requires : goal.send_all-requires
send_all-requires t c = (
  omega (arith, c.in-Some.ensures.len),
  (
    omega (arith, c.in-Some.ensures.len),
    (
      c.requires.empty,
      (
        ahead_of (λ (w : WorkerValue). (w.plan ≡ c.args.plan) × (w.sender.ring ≡ c.args.ring.now)) c.args.workers.items c.pop.new.self.items c.in-Some.worker c.requires.workers c.in-Some.ensures.items,
        c.requires.engine,
      ),
    ),
  ),
)

pub send_left-requires-clause-plan : goal.send_left-requires-clause-plan
send_left-requires-clause-plan t c =
    (last_of (λ (w : WorkerValue). (w.plan ≡ c.args.plan) × (w.sender.ring ≡ c.args.ring.now)) c.args.workers.items c.pop.new.self.items c.in-Some.worker c.requires.workers c.in-Some.ensures.items).0

pub send_left-requires-clause-ring : goal.send_left-requires-clause-ring
send_left-requires-clause-ring t c =
    (last_of (λ (w : WorkerValue). (w.plan ≡ c.args.plan) × (w.sender.ring ≡ c.args.ring.now)) c.args.workers.items c.pop.new.self.items c.in-Some.worker c.requires.workers c.in-Some.ensures.items).1

pub send_left-requires-clause-engine : goal.send_left-requires-clause-engine
send_left-requires-clause-engine t c = c.in_ok-senders.ensures.engine.ring ∙ c.requires.engine

pub returns-in_err-sender-clause-given_up : goal.returns-in_err-sender-clause-given_up
returns-in_err-sender-clause-given_up t c =
    when_err c.from_residual-in_err-sender.result (HasGivenUp c.args.plan c.args.engine.now c.send_left.new.engine)
    (later_given_up c.args.plan 0 c.args.engine.now c.send_all.new.engine c.send_left.new.engine c.in_ok-senders.ensures.engine c.in_err-sender.ensures.given_up)

pub returns-clause-sent : goal.returns-clause-sent
returns-clause-sent t c =
    subst (λ (l : List SenderValue). All (HasSent c.args.plan) l) (sym c.push_reserved.ensures.items)
    (All-push (HasSent c.args.plan) c.in_ok-senders.senders.items c.in_ok-sender.sender c.in_ok-senders.ensures.sent c.in_ok-sender.ensures.sent)

pub returns-clause-engine : goal.returns-clause-engine
returns-clause-engine t c = on_and_on 0 0 c.args.engine.now c.send_all.new.engine c.send_left.new.engine c.in_ok-senders.ensures.engine c.in_ok-sender.ensures.engine

pub returns-clause-senders : goal.returns-clause-senders
returns-clause-senders t c =
    alike (assignment_of c.args.plan) assignment c.push_reserved.new.self.items c.in_ok-senders.senders.items c.in_ok-sender.sender c.args.workers.items c.pop.new.self.items c.in-Some.worker
    c.push_reserved.ensures.items c.in-Some.ensures.items c.in_ok-senders.ensures.senders c.in_ok-sender.ensures.assignment
