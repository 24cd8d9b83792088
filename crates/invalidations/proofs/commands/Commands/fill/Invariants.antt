use Rattle.std.proofs.Common.{◌-◌, length}
use Rattle.invalidations.specs.Filling.{IsMoved}
use Rattle.invalidations.proofs.commands.Commands.fill.Given as goal

abbrev pub invariant-commands : goal.invariant-commands
invariant-commands l = IsMoved l.fn.self l.self l.fn.body.items l.body.items

abbrev pub decreases-commands : goal.decreases-commands
decreases-commands l = 63 - length l.body.items
