use Rattle.std.proofs.Common.{length}
use Rattle.trace.specs.Accesses.{AreOf}
use Rattle.trace.proofs.state.Trace.finish.Given as goal

abbrev pub invariant-accesses : goal.invariant-accesses
invariant-accesses l = AreOf l.unit l.accesses.items

abbrev pub decreases-accesses : goal.decreases-accesses
decreases-accesses l = length l.accesses.items
