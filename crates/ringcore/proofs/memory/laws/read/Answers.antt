use Rattle.ringcore.proofs.MemoryLemmas.DataWords.{read}
use Rattle.ringcore.proofs.memory.laws.read.Goals as goal

pub returns : goal.returns
returns c = λ ring run words is. read ring run words is
