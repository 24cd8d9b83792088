use Rattle.std.proofs.Common.{arith}
use Rattle.caches.proofs.Kept.{are_empty}
use Rattle.caches.proofs.caches.Caches.new.Goals as goal

pub invariant_of-result : goal.invariant_of-result
invariant_of-result c = are_empty _ (omega arith) c.new.ensures
