use Rattle.std.proofs.Common.{length}
use Rattle.caches.specs.Keys.{covers_key}
use Rattle.caches.proofs.Back.{IsFront}
use Rattle.caches.proofs.KeyOrder.{key_cmp}
use Rattle.caches.proofs.walk.last_covered.Given as goal

abbrev pub invariant-loop-key : goal.invariant-loop-key
invariant-loop-key l = IsFront key_cmp (covers_key l.command) l.map l.fn.end l.entries

abbrev pub decreases-loop-key : goal.decreases-loop-key
decreases-loop-key l = length l.entries
