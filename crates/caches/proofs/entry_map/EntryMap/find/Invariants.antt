use Rattle.std.proofs.Common.{ℕ, ◌<◌, ◌^◌}
use Rattle.caches.specs.Blocks.{HasSpan}
use Rattle.caches.specs.Finding.{NoneAt}
use Rattle.caches.proofs.entry_map.EntryMap.find.Given as goal

abbrev pub invariant-loop-left : goal.invariant-loop-left
invariant-loop-left l = record {
  few : l.left < 2 ^ 53;
  asked : (n : ℕ) → HasSpan l.left n → HasSpan l.spans n;
  others : (n : ℕ) → HasSpan l.spans n → ¬ HasSpan l.left n → NoneAt l.self l.space l.page n;
}

abbrev pub decreases-loop-left : goal.decreases-loop-left
decreases-loop-left l = l.left
