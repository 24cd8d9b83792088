use Rattle.script.specs.Lines.{lines_of}
use Rattle.replay.proofs.MemoryLemmas.{plain_unless_told}
use Rattle.replay.proofs.laws.memory_is_told_of.Goals as goal
use Rattle.std.proofs.Common.{None}

pub returns : goal.returns
returns c = λ choice script. plain_unless_told 1 choice None (lines_of script)
