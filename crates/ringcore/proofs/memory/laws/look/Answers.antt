use Rattle.ringcore.proofs.MemoryLemmas.ControlWord.{is_control_word, look}
use Rattle.ringcore.proofs.memory.laws.look.Goals as goal

pub returns-clause-word : goal.returns-clause-word
returns-clause-word c = λ ring run words is. is_control_word ring run words is c.control_words_say_their_control.ensures.said c.indexes_tell_the_queue.ensures.control

pub returns-clause-finds : goal.returns-clause-finds
returns-clause-finds c = λ ring run words is. look ring run words is c.control_words_say_their_control.ensures.said c.indexes_tell_the_queue.ensures.control
