use Rattle.std.proofs.Common.{Fits, w64}
use Rattle.caches.specs.Keys.{covers_key}
use Rattle.caches.specs.Sweep.{IsPruned}
use Rattle.caches.proofs.Ahead.{AreBelow, AreGone}
use Rattle.caches.proofs.KeyOrder.{key_cmp}
use Rattle.caches.proofs.ranges.sweep_before.Given as goal

abbrev pub invariant-loop-span : goal.invariant-loop-span
invariant-loop-span l = record {
  pruned : IsPruned key_cmp (covers_key l.command) l.fn.map.ordered l.map.ordered;
  gone : AreGone (covers_key l.command) l.owner l.first l.map.ordered l.span;
  few : Fits w64 l.bound;
  below : AreBelow (covers_key l.command) l.owner l.first l.map.ordered l.bound;
}
