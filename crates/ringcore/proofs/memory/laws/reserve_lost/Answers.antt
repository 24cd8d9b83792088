use Rattle.ringcore.proofs.MemoryLemmas.ControlWord.{lost}
use Rattle.ringcore.proofs.memory.laws.reserve_lost.Goals as goal

pub returns : goal.returns
returns c = λ ring run words is. lost ring run words is c.control_words_say_their_control.ensures.said c.indexes_tell_the_queue.ensures.control
