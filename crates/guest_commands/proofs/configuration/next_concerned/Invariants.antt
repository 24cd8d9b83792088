use Rattle.std.proofs.Common.{◌≡◌, drop}
use Rattle.guest_commands.specs.Configurations.{concerned}
use Rattle.guest_commands.proofs.configuration.next_concerned.Given as goal

abbrev pub invariant-loop-i : goal.invariant-loop-i
invariant-loop-i l = concerned l.command l.streams ≡ concerned l.command (drop l.i l.streams)
