use Rattle.std.proofs.Common.{refl}
use Rattle.smmuq_c.proofs.Objects.{of_unit}
use Rattle.smmuq_c.proofs.stop_calls.reset.Goals as goal

pub returns-in-Unit : goal.returns-in-Unit
returns-in-Unit c = of_unit _ c.in-Unit.is (record { new_is = c.reset.ensures.reset; tracked = c.reset.ensures.tracked; walks = c.reset.ensures.walks; older = c.reset.ensures.older; status_is = refl })
