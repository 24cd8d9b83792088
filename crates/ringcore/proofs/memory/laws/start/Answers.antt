use Rattle.ringcore.proofs.MemoryLemmas.ControlWord.{start}
use Rattle.ringcore.proofs.memory.laws.start.Goals as goal

pub returns : goal.returns
returns c = λ ring run words is. start ring run words is
