use Rattle.std.proofs.Common.{length}
use Rattle.std.specs.declared.ops.Bound.TheVariants.{Included, Unbounded}
use Rattle.caches.specs.Keys.{covers_key}
use Rattle.caches.proofs.KeyOrder.{key_cmp}
use Rattle.caches.proofs.Rest.{IsRest}
use Rattle.caches.proofs.sweep.next_covered.Given as goal

abbrev pub invariant-loop-key : goal.invariant-loop-key
invariant-loop-key l = IsRest key_cmp (covers_key l.command) l.map (Included l.fn.from) Unbounded l.entries

abbrev pub decreases-loop-key : goal.decreases-loop-key
decreases-loop-key l = length l.entries
