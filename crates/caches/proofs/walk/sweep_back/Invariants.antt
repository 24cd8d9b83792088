use Rattle.std.proofs.Common.{◌≡◌, true, Some, None, length, is_le}
use Rattle.std.specs.declared.cmp.Ordering.TheVariants.{Less}
use Rattle.std.specs.BTreeMap as tree
use Rattle.caches.specs.declared.key.Key.{Key}
use Rattle.caches.specs.Keys.{covers_key, least, owner_of}
use Rattle.caches.specs.Sweep.{IsPruned}
use Rattle.caches.proofs.KeyOrder.{key_cmp}
use Rattle.caches.proofs.walk.sweep_back.Given as goal

abbrev pub invariant-loop-key : goal.invariant-loop-key
invariant-loop-key l = record {
  pruned : IsPruned key_cmp (covers_key l.command) l.fn.map.ordered l.map.ordered;
  clean : (q : Key) → covers_key l.command q ≡ true → key_cmp q (least l.owner l.end 0) ≡ Less → is_le (key_cmp l.upper q) ≡ true → tree.get key_cmp l.map.ordered q ≡ None;
  own : owner_of l.upper ≡ Some l.owner;
  within : is_le (key_cmp l.upper (least l.owner l.end 0)) ≡ true;
}

abbrev pub decreases-loop-key : goal.decreases-loop-key
decreases-loop-key l = length l.map.ordered.entries
