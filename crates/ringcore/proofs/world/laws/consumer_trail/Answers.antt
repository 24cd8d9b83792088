use Rattle.ringcore.proofs.WorldLemmas.ConsumerTrail.{head_is, numbers, advanced_is, outcomes, raws_counted, syncs_of_raws, took_in_order, found_is_ready, reads_are}
use Rattle.ringcore.proofs.WorldLemmas.Slots.{deep}
use Rattle.ringcore.proofs.WorldLemmas.SteadyHead.{steady}
use Rattle.ringcore.proofs.WorldLemmas.Drained.{drained}
use Rattle.ringcore.proofs.world.laws.consumer_trail.Goals as goal

pub returns-clause-head : goal.returns-clause-head
returns-clause-head c = head_is

pub returns-clause-acknowledged : goal.returns-clause-acknowledged
returns-clause-acknowledged c = numbers

pub returns-clause-advanced : goal.returns-clause-advanced
returns-clause-advanced c = advanced_is

pub returns-clause-taken : goal.returns-clause-taken
returns-clause-taken c = outcomes

pub returns-clause-count : goal.returns-clause-count
returns-clause-count c = raws_counted

pub returns-clause-syncs : goal.returns-clause-syncs
returns-clause-syncs c = syncs_of_raws

pub returns-clause-order : goal.returns-clause-order
returns-clause-order c = took_in_order

pub returns-clause-passed : goal.returns-clause-passed
returns-clause-passed c = λ ring run ok. (deep ring run ok).passed

pub returns-clause-written : goal.returns-clause-written
returns-clause-written c = λ ring run ok. (deep ring run ok).whole

pub returns-clause-ready : goal.returns-clause-ready
returns-clause-ready c = found_is_ready

pub returns-clause-read : goal.returns-clause-read
returns-clause-read c = reads_are

pub returns-clause-steady : goal.returns-clause-steady
returns-clause-steady c = λ ring run is_geometry ok. steady c.indexes_tell_the_queue.ensures.queue ring is_geometry run ok

pub returns-clause-drained : goal.returns-clause-drained
returns-clause-drained c = λ ring run is_geometry ok. drained c.indexes_tell_the_queue.ensures.queue ring is_geometry run ok
