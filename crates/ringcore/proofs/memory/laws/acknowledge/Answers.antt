use Rattle.ringcore.proofs.MemoryLemmas.ControlWord.{acknowledge}
use Rattle.ringcore.proofs.memory.laws.acknowledge.Goals as goal

pub returns : goal.returns
returns c = λ ring run words is. acknowledge ring run words is
