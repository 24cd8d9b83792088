use Rattle.std.proofs.Common.{length}
use Rattle.std.specs.declared.ops.Bound.TheVariants.{Included, Excluded}
use Rattle.caches.specs.Keys.{covers_key}
use Rattle.caches.proofs.Begun.{IsSweptUpTo}
use Rattle.caches.proofs.sweep.remove_covered.Given as goal

abbrev pub invariant-loop-covered : goal.invariant-loop-covered
invariant-loop-covered l = IsSweptUpTo (covers_key l.command) (Included l.fn.first) (Excluded l.end) l.fn.map.ordered l.map.ordered l.from

abbrev pub decreases-loop-covered : goal.decreases-loop-covered
decreases-loop-covered l = length l.map.ordered.entries
