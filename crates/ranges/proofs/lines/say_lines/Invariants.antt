use Rattle.std.proofs.Common.{◌≡◌, ◌++◌, length, string_bytes}
use Rattle.invalidations.specs.Plans.{commands_of}
use Rattle.ranges.specs.Lines.{lines_of}
use Rattle.ranges.proofs.lines.say_lines.Given as goal

abbrev pub invariant-commands : goal.invariant-commands
invariant-commands l =
    (l.commands.request.target ≡ l.fn.commands.request.target)
    × (string_bytes l.text ++ lines_of l.commands.request.target (commands_of l.commands)
    ≡ string_bytes l.fn.text ++ lines_of l.fn.commands.request.target (commands_of l.fn.commands))

abbrev pub decreases-commands : goal.decreases-commands
decreases-commands l = length (commands_of l.commands)
