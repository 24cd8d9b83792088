use Rattle.std.proofs.Common.{◌≡◌, ◌+◌, length}
use Rattle.invalidations.specs.ByAddress.{commands_by_address}
use Rattle.invalidations.proofs.by_address.CommandsByAddress.are_few.Given as goal

-- As many commands were taken as are gone from the limit.
abbrev pub invariant-commands : goal.invariant-commands
invariant-commands l = length (commands_by_address l.rest) + l.fn.most ≡ length (commands_by_address l.fn.self) + l.more

abbrev pub decreases-commands : goal.decreases-commands
decreases-commands l = l.more
