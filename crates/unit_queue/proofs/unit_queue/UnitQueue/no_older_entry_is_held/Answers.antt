use Rattle.std.proofs.Common.{subst}
use Rattle.unit_queue.specs.Laws.{ToldMeansNoneIsOlder}
use Rattle.unit_queue.proofs.Joining.{told_means}
use Rattle.unit_queue.proofs.unit_queue.UnitQueue.no_older_entry_is_held.Goals as goal

pub returns : goal.returns
returns c = subst ToldMeansNoneIsOlder c.self.view_is (told_means _ _ _ _ c.self.invariant)
