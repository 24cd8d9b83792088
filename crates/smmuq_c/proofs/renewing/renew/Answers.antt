use Rattle.smmuq_c.proofs.Objects.{of_engine}
use Rattle.smmuq_c.proofs.renewing.renew.Goals as goal

pub returns-in-Engine-clause-renewed : goal.returns-in-Engine-clause-renewed
returns-in-Engine-clause-renewed c = of_engine _ c.in-Engine.is c.renew.ensures.renewed
