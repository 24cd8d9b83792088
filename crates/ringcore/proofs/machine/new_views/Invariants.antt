use Rattle.std.proofs.Common.{◌≡◌, [], length}
use Rattle.ringcore.specs.machine.Core.{AllKnow}
use Rattle.ringcore.proofs.machine.new_views.Given as goal

abbrev pub invariant-loop : goal.invariant-loop
invariant-loop l = (length l.views.items ≡ l.counter) × AllKnow [] l.views.items
