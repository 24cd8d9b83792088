use Rattle.ringcore.proofs.WorldLemmas.Sound.{sound}
use Rattle.ringcore.proofs.WorldLemmas.Numbering.{numbered}
use Rattle.ringcore.proofs.WorldLemmas.Acknowledged.{acknowledged}
use Rattle.ringcore.proofs.WorldLemmas.Completed.{taken_in_order, none_after_close, told}
use Rattle.ringcore.proofs.WorldLemmas.Applied.{acknowledged_are_applied, told_of_all}
use Rattle.ringcore.proofs.world.laws.world_law.Goals as goal

pub returns-clause-taken : goal.returns-clause-taken
returns-clause-taken c = taken_in_order

pub returns-clause-numbered : goal.returns-clause-numbered
returns-clause-numbered c = numbered

pub returns-clause-closed : goal.returns-clause-closed
returns-clause-closed c = none_after_close

pub returns-clause-told : goal.returns-clause-told
returns-clause-told c = told

pub returns-clause-within : goal.returns-clause-within
returns-clause-within c = λ ring run ok. let is = sound ring run ok in record { behind = is.behind; within = is.within }

pub returns-clause-acknowledged : goal.returns-clause-acknowledged
returns-clause-acknowledged c = acknowledged

pub returns-clause-applied : goal.returns-clause-applied
returns-clause-applied c = acknowledged_are_applied

pub returns-clause-told_of_all : goal.returns-clause-told_of_all
returns-clause-told_of_all c = told_of_all
