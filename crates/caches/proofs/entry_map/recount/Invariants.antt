use Rattle.std.proofs.Common.{◌≡◌, ◌+◌, ◌-◌, ◌≤◌, ◌++◌, drop, length}
use Rattle.std.specs.FinMap as finite
use Rattle.caches.specs.Unlisted.{unlisted}
use Rattle.caches.proofs.entry_map.recount.Given as goal

abbrev pub invariant-loop-rank : goal.invariant-loop-rank
invariant-loop-rank l = record {
  same : unlisted l.map.ordered (l.removed.items ++ drop l.rank-index l.rank-items) ≡ unlisted l.fn.map.ordered l.fn.removed.items;
  counted : l.len ≡ finite.len (unlisted l.map.ordered l.removed.items);
  room : length l.removed.items + (l.rank-index-end - l.rank-index) ≤ 16;
}
