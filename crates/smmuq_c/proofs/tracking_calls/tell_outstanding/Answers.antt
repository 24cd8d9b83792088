use Rattle.std.proofs.Common.{refl}
use Rattle.smmuq_c.proofs.Objects.{of_read_unit}
use Rattle.smmuq_c.proofs.tracking_calls.tell_outstanding.Goals as goal

pub returns-in-Unit-clause-called : goal.returns-in-Unit-clause-called
returns-in-Unit-clause-called c = of_read_unit _ c.in-Unit.is (record {
  counts = c.outstanding.result;
  counted = c.outstanding.ensures;
  told_is = c.from.ensures;
  new_is = refl;
  status_is = refl;
})
