use Rattle.qindex.proofs.PositionLemmas.{parts, alike, turns}
use Rattle.qindex.proofs.QueueLemmas.{slots_apart}
use Rattle.qindex.proofs.laws.indexes_tell_place_and_wrap_bit.Goals as goal

pub returns-clause-parts : goal.returns-clause-parts
returns-clause-parts c = parts

pub returns-clause-alike : goal.returns-clause-alike
returns-clause-alike c = alike

pub returns-clause-apart : goal.returns-clause-apart
returns-clause-apart c = slots_apart

pub returns-clause-turns : goal.returns-clause-turns
returns-clause-turns c = turns
