use Rattle.std.proofs.Common.{length}
use Rattle.std.specs.declared.ops.Bound.TheVariants.{Unbounded}
use Rattle.caches.specs.Sweep.{has_passing}
use Rattle.caches.proofs.KeyOrder.{key_cmp}
use Rattle.caches.proofs.Rest.{IsRest}
use Rattle.caches.proofs.evicting.next_passing.Given as goal

abbrev pub invariant-loop-key : goal.invariant-loop-key
invariant-loop-key g l = IsRest key_cmp (has_passing key_cmp (g.T.EntryTest.evicted l.test) l.map) l.map l.fn.from Unbounded l.entries

abbrev pub decreases-loop-key : goal.decreases-loop-key
decreases-loop-key g l = length l.entries
