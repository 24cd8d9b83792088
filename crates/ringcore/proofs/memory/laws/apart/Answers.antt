use Rattle.ringcore.proofs.MemoryLemmas.Places.{apart}
use Rattle.ringcore.proofs.memory.laws.apart.Goals as goal

pub returns : goal.returns
returns c = apart
