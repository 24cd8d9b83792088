use Rattle.ranges.proofs.LineLemmas.{ended, stepped}
use Rattle.ranges.proofs.lines.say_lines.Goals as goal

pub commands-preserved : goal.commands-preserved
commands-preserved c =
    stepped c.commands.commands c.next_hinted.new.commands (c.in-Some.command, c.in-Some.ttl) _ _ _ _
    c.in-Some.ensures.next c.commands.invariant c.next_hinted.ensures.target c.in_ok-say_line.ensures

pub returns : goal.returns
returns c = ended c.commands.commands _ _ c.in_default.ensures.next c.commands.invariant.1
