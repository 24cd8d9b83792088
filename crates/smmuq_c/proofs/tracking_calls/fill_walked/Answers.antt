use Rattle.smmuq_c.proofs.Objects.{of_unit}
use Rattle.smmuq_c.proofs.tracking_calls.fill_walked.Goals as goal

pub returns-in-Unit : goal.returns-in-Unit
returns-in-Unit c = of_unit _ c.in-Unit.is c.fill_walked_in.ensures
