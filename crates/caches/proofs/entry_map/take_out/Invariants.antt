use Rattle.std.proofs.Common.{◌≡◌, length}
use Rattle.caches.specs.Unlisted.{unlisted, IsPartOf}
use Rattle.caches.proofs.KeyOrder.{key_cmp}
use Rattle.caches.proofs.entry_map.take_out.Given as goal

abbrev pub invariant-loop-rank : goal.invariant-loop-rank
invariant-loop-rank l = record {
  same : unlisted l.map.ordered l.removed.items ≡ unlisted l.fn.map.ordered l.fn.removed.items;
  pruned : IsPartOf key_cmp l.map.ordered l.fn.map.ordered;
}

abbrev pub decreases-loop-rank : goal.decreases-loop-rank
decreases-loop-rank l = length l.removed.items
