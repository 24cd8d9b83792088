use Rattle.std.proofs.Common.{◌≡◌, cond, length, None}
use Rattle.std.specs.List.{filter}
use Rattle.std.specs.BTreeMap as tree
use Rattle.std.specs.BTreeMap.Range.{range_contains}
use Rattle.std.specs.declared.ops.Bound.TheVariants.{Unbounded}
use Rattle.caches.specs.declared.key.Key.{Key}
use Rattle.caches.specs.Sweep.{has_passing, is_gone}
use Rattle.caches.proofs.KeyOrder.{key_cmp}
use Rattle.caches.proofs.evicting.remove_passing.Given as goal

abbrev pub invariant-loop-key : goal.invariant-loop-key
invariant-loop-key g l = (q : Key) → tree.get key_cmp l.map.ordered q
    ≡ cond (is_gone key_cmp (has_passing key_cmp (g.T.EntryTest.evicted l.test) l.fn.map.ordered) Unbounded Unbounded l.from q) None (tree.get key_cmp l.fn.map.ordered q)

abbrev pub decreases-loop-key : goal.decreases-loop-key
decreases-loop-key g l = length (filter (λ e. range_contains key_cmp l.from Unbounded e.0) l.map.ordered.entries)
