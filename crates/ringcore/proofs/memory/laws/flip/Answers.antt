use Rattle.ringcore.proofs.MemoryLemmas.FlagWords.{flip}
use Rattle.ringcore.proofs.memory.laws.flip.Goals as goal

pub returns : goal.returns
returns c = λ ring run words is. flip ring run words is c.indexes_tell_place_and_wrap_bit.ensures.apart
