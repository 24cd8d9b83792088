use Rattle.guest_table.specs.Tables.{NoneIsFreeBelow}
use Rattle.guest_table.proofs.vmids.first_free.Given as goal

abbrev pub invariant-loop-number : goal.invariant-loop-number
invariant-loop-number l = NoneIsFreeBelow l.guests l.leaving l.number
