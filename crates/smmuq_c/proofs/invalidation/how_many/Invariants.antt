use Rattle.std.proofs.Common.{◌≡◌, ◌+◌, length}
use Rattle.invalidations.specs.Plans.{commands_of}
use Rattle.smmuq_c.proofs.invalidation.how_many.Given as goal

abbrev pub invariant-commands : goal.invariant-commands
invariant-commands l = l.count + length (commands_of l.rest) ≡ length (commands_of l.fn.rest)

abbrev pub decreases-commands : goal.decreases-commands
decreases-commands l = length (commands_of l.rest)
