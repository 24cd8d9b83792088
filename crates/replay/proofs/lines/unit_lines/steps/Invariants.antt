use Rattle.std.proofs.Common.{◌-◌, string_bytes}
use Rattle.replay.proofs.StepsLemmas.{Running}
use Rattle.replay.proofs.lines.unit_lines.steps.Given as goal

abbrev pub invariant-steps : goal.invariant-steps
invariant-steps l = Running l.fn.simulator l.simulator (string_bytes l.fn.reply) (string_bytes l.reply) l.count (l.count - l.counter)
