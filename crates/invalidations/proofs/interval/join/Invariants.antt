use Rattle.std.proofs.Common.{take}
use Rattle.invalidations.specs.Intervals.{AreJoined}
use Rattle.invalidations.proofs.interval.join.Given as goal

abbrev pub invariant-loop-held : goal.invariant-loop-held
invariant-loop-held l = AreJoined (take l.held-index l.intervals) l.fn.interval l.apart.items l.joined
