use Rattle.std.proofs.Common.{ap}
use Rattle.script.specs.Errors.{is_memory}
use Rattle.image.proofs.ViewLemmas.{memory_cut, told_of_memory}
use Rattle.image.proofs.viewing.tell.Goals as goal

pub returns-in-Memory-clause-told : goal.returns-in-Memory-clause-told
returns-in-Memory-clause-told g c answer before f = told_of_memory answer.text before _ _ f (c.tell_of_memory.ensures.told (ap is_memory c.in-Memory.is))

pub returns-in-Read-clause-told : goal.returns-in-Read-clause-told
returns-in-Read-clause-told g c answer before f = memory_cut answer.text before _ _ f c.tell_of_memory.ensures.part
