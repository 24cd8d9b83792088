use Rattle.hardware_queue.proofs.Memory.{written_stands, overwritten_stands, shown_stands}
use Rattle.hardware_queue.proofs.standing.memory_stands.Goals as goal

pub returns-clause-written : goal.returns-clause-written
returns-clause-written c = written_stands

pub returns-clause-overwritten : goal.returns-clause-overwritten
returns-clause-overwritten c = overwritten_stands c.indexes_tell_place_and_wrap_bit.ensures.apart

pub returns-clause-shown : goal.returns-clause-shown
returns-clause-shown c = shown_stands
