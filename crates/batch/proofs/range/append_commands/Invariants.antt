use Rattle.batch.proofs.RangeLemmas.{IsSoFar}
use Rattle.batch.proofs.range.append_commands.Given as goal

abbrev pub invariant-pages : goal.invariant-pages
invariant-pages l = IsSoFar l.vmid l.asid l.first l.pages l.page l.left l.fn.commands.items l.commands.items

abbrev pub decreases-pages : goal.decreases-pages
decreases-pages l = l.left
