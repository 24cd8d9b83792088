use Rattle.std.proofs.Common.{◌≡◌, drop, None, ◌++◌}
use Rattle.std.specs.Prelude.{replicate}
use Rattle.transactions.proofs.outstanding.OutstandingTransactions.clear.Given as goal

abbrev pub invariant-loop-slot : goal.invariant-loop-slot
invariant-loop-slot l = l.self ≡ replicate l.slot None ++ drop l.slot l.fn.self
