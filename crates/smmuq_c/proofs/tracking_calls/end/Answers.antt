use Rattle.smmuq_c.proofs.Objects.{of_unit}
use Rattle.smmuq_c.proofs.tracking_calls.end.Goals as goal

pub returns-in-Unit-clause-called : goal.returns-in-Unit-clause-called
returns-in-Unit-clause-called c = of_unit _ c.in-Unit.is c.end_in.ensures.ended
