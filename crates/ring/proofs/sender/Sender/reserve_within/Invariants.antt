use Rattle.std.proofs.Common.{◌<◌}
use Rattle.ring.specs.sender.{HasTried, WentOn}
use Rattle.ring.proofs.sender.Sender.reserve_within.Given as goal

abbrev pub invariant-loop-tried : goal.invariant-loop-tried
invariant-loop-tried g l = record {
  on : WentOn l.fn.self l.sender;
  left : l.tried < l.tries;
  tried : HasTried l.batch g.K.BatchKind.closes l.tried l.fn.self l.sender;
}
