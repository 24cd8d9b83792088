use Rattle.std.proofs.Common.{◌≡◌, map, take, drop, ◌++◌}
use Rattle.transactions.specs.Outstanding.{cover}
use Rattle.transactions.proofs.outstanding.cover_all.Given as goal

abbrev pub invariant-loop-slot : goal.invariant-loop-slot
invariant-loop-slot l = l.slot-items ≡ map (cover l.command) (take l.slot-index l.fn.slots.items) ++ drop l.slot-index l.fn.slots.items
