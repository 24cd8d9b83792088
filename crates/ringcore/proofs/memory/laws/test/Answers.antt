use Rattle.ringcore.proofs.MemoryLemmas.FlagWords.{test}
use Rattle.ringcore.proofs.memory.laws.test.Goals as goal

pub returns : goal.returns
returns c = λ ring run words is. test ring run words is c.indexes_tell_place_and_wrap_bit.ensures.turns
