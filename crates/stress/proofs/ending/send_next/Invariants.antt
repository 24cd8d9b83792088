use Rattle.std.proofs.Common.{◌≡◌, suc}
use Rattle.qindex.specs.Positions.{size}
use Rattle.stress.specs.Plans.{body, closes}
use Rattle.stress.specs.EngineTurns.{GoesOn, AreRefused}
use Rattle.stress.specs.Workers.{assignment}
use Rattle.stress.proofs.ending.send_next.Given as goal

abbrev pub invariant-loop : goal.invariant-loop
invariant-loop l = record {
  same : assignment l.worker ≡ assignment l.fn.worker;
  sent : l.worker.sent ≡ l.fn.worker.sent;
  goes_on : GoesOn l.counter l.fn.engine l.engine;
  refused :
      AreRefused (size l.fn.worker.plan.log2) (body l.fn.worker.plan l.fn.worker.sender.number (suc l.fn.worker.sent)) (closes l.fn.worker.plan (suc l.fn.worker.sent)) l.counter
      l.fn.worker.sender l.worker.sender l.fn.engine l.engine;
}
