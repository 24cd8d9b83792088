use Rattle.std.proofs.Common.{inr, arith}
use Rattle.smmuq_c.proofs.Forwarded.{forwarded_on}
use Rattle.smmuq_c.proofs.seated_forwarder.SeatedForwarder.forward.Goals as goal

pub returns-clause-called : goal.returns-clause-called
returns-clause-called c =
    let room = c.if-buffer-lt-MOST.false in
    rw (← c.self.view_is) (inr (forwarded_on c.forward-answer.result.0 c.forward-answer.result.1 _ _ _ _ _ _ _ c.status_of.result (omega (arith, room)) c.forward-answer.ensures.forwarded c.forward-answer.ensures.placed c.forward-answer.ensures.count
    c.tell.ensures c.status_of.ensures (record { order = c.forward-answer.ensures.order; consumed = c.forward-answer.ensures.consumed }) c.forward-answer.ensures.broken c.forward-answer.ensures.state (record { history = c.forward-answer.ensures.history; ring = c.forward-answer.ensures.ring })))
