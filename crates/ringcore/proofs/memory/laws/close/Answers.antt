use Rattle.ringcore.proofs.MemoryLemmas.ControlWord.{close}
use Rattle.ringcore.proofs.memory.laws.close.Goals as goal

pub returns : goal.returns
returns c = λ ring run words is. close ring run words is c.indexes_tell_the_queue.ensures.control c.or_closes.ensures.closes
