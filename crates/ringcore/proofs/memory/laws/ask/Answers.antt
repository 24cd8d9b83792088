use Rattle.ringcore.proofs.MemoryLemmas.ControlWord.{ask}
use Rattle.ringcore.proofs.memory.laws.ask.Goals as goal

pub returns : goal.returns
returns c = λ ring run words is. ask ring run words is
