use Rattle.smmuq_c.proofs.Objects.{of_unit}
use Rattle.smmuq_c.proofs.tracking_calls.begin_outstanding_walk.Goals as goal

pub returns-in-Unit-clause-called : goal.returns-in-Unit-clause-called
returns-in-Unit-clause-called c = of_unit _ c.in-Unit.is c.begin_outstanding_walk_in.ensures.begun
