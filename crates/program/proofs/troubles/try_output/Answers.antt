use Rattle.std.proofs.Common.{inr}
use Rattle.program.proofs.troubles.try_output.Goals as goal

pub returns-in-Ok : goal.returns-in-Ok
returns-in-Ok g c = inr (c.as_str.result.now, c.try_stream.ensures)
