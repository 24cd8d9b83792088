use Rattle.ringcore.proofs.MemoryLemmas.DataWords.{write}
use Rattle.ringcore.proofs.memory.laws.write.Goals as goal

pub returns : goal.returns
returns c = λ ring run words is. write ring run words is c.indexes_tell_place_and_wrap_bit.ensures.apart
