use Rattle.ringcore.proofs.MemoryLemmas.ControlWord.{won}
use Rattle.ringcore.proofs.memory.laws.reserve_won.Goals as goal

pub returns : goal.returns
returns c = λ ring run words is. won ring run words is c.control_words_say_their_control.ensures.said c.indexes_tell_the_queue.ensures.control c.indexes_tell_the_queue.ensures.queue
