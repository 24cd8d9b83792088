use Rattle.smmuq_c.proofs.Objects.{of_engine}
use Rattle.smmuq_c.proofs.engine_calls.run_completions.Goals as goal

pub returns-in-Engine-clause-called : goal.returns-in-Engine-clause-called
returns-in-Engine-clause-called c = of_engine _ c.in-Engine.is c.run_completions.ensures.ran
