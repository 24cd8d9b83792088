use Rattle.std.proofs.Common.{◌≡◌, ◌-◌}
use Rattle.ringcore.proofs.MachineLemmas.MarkedFlipped.{turned_to}
use Rattle.ringcore.proofs.machine.sender_view.mark_flipped.Given as goal

abbrev pub invariant-loop-place : goal.invariant-loop-place
invariant-loop-place l = l.commands ≡ turned_to l.first l.initial.commands (l.place - l.first)
