use Rattle.std.proofs.Common.{◌≡◌}
use Rattle.stress.specs.FirstEntries.{IsFilled}
use Rattle.stress.proofs.first_entries.filled_engine.Given as goal

abbrev pub invariant-loop-sender : goal.invariant-loop-sender
invariant-loop-sender l = IsFilled l.sender l.engine.unit × (l.engine.consumer ≡ l.fn.consumer)
