use Rattle.ringcore.proofs.MemoryLemmas.FlagWords.{advance}
use Rattle.ringcore.proofs.memory.laws.advance.Goals as goal

pub returns : goal.returns
returns c = λ ring run words is. advance ring run words is c.indexes_tell_the_queue.ensures.control c.indexes_tell_place_and_wrap_bit.ensures.parts c.indexes_tell_place_and_wrap_bit.ensures.turns c.xor_advances_cons.ensures.advances
