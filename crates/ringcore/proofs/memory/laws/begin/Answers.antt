use Rattle.ringcore.proofs.MemoryLemmas.ControlWord.{opens}
use Rattle.ringcore.proofs.memory.laws.begin.Goals as goal

pub returns : goal.returns
returns c = opens
