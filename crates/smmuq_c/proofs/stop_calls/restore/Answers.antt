use Rattle.smmuq_c.proofs.Objects.{of_queue}
use Rattle.smmuq_c.proofs.stop_calls.restore.Goals as goal

pub returns-in-Unit : goal.returns-in-Unit
returns-in-Unit c = let e = c.restore_to.ensures in of_queue _ c.in-Unit.is e.rest e.restored
