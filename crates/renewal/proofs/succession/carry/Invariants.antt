use Rattle.std.proofs.Common.{◌≡◌}
use Rattle.renewal.proofs.Filling.{HasFilled}
use Rattle.renewal.proofs.succession.carry.Given as goal

abbrev pub invariant-loop-entry : goal.invariant-loop-entry
invariant-loop-entry l = record {
  consumer_is : l.new.consumer ≡ l.fn.new.consumer;
  unit_is : HasFilled l.capacity l.old.unit.caches.entries l.entry-items l.entry-index l.new.unit;
}
