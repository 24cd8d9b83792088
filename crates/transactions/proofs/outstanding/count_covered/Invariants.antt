use Rattle.std.proofs.Common.{◌≡◌, take}
use Rattle.std.specs.Prelude.{count_by}
use Rattle.transactions.specs.Outstanding.{is_covered}
use Rattle.transactions.proofs.outstanding.count_covered.Given as goal

abbrev pub invariant-loop-slot : goal.invariant-loop-slot
invariant-loop-slot l = l.count ≡ count_by is_covered (take l.slot-index l.slots)
