use Rattle.ringcore.proofs.WorldLemmas.Newest.{steps_grow, others_leave, was_allowed, look_finds_control, looked_control, lost_found_another, asks_find_few}
use Rattle.ringcore.proofs.world.laws.newest_event.Goals as goal

pub returns-clause-own : goal.returns-clause-own
returns-clause-own c = steps_grow

pub returns-clause-others : goal.returns-clause-others
returns-clause-others c = others_leave

pub returns-clause-allowed : goal.returns-clause-allowed
returns-clause-allowed c = was_allowed

pub returns-clause-look : goal.returns-clause-look
returns-clause-look c = look_finds_control c.indexes_tell_the_queue.ensures.control

pub returns-clause-looked : goal.returns-clause-looked
returns-clause-looked c = looked_control c.indexes_tell_the_queue.ensures.control

pub returns-clause-lost : goal.returns-clause-lost
returns-clause-lost c = lost_found_another c.indexes_tell_the_queue.ensures.control

pub returns-clause-ask : goal.returns-clause-ask
returns-clause-ask c = asks_find_few
