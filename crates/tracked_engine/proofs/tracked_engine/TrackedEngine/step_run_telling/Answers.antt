use Rattle.engine.proofs.Cells.{to_a_cell}
use Rattle.tracked_engine.proofs.tracked_engine.TrackedEngine.step_run_telling.Goals as goal

pub returns-clause-cells : goal.returns-clause-cells
returns-clause-cells c = λ place raw at sync. to_a_cell raw sync (c.syncs_are_closing.ensures place raw at sync)
