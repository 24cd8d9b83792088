use Rattle.std.proofs.Common.{◌≡◌, drop}
use Rattle.trace.specs.Traces.{walk_of}
use Rattle.trace.proofs.walking.walk_of.Given as goal

abbrev pub invariant-loop-open : goal.invariant-loop-open
invariant-loop-open l = walk_of l.number l.walks ≡ walk_of l.number (drop l.open-index l.walks)
