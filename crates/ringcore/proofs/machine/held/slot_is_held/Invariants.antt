use Rattle.std.proofs.Common.{◌≡◌, false}
use Rattle.ringcore.specs.machine.Open.{some_below, holds_slot}
use Rattle.ringcore.specs.machine.Core.{WhereAllKnow}
use Rattle.ringcore.proofs.machine.held.slot_is_held.Given as goal

abbrev pub invariant-loop-sender : goal.invariant-loop-sender
invariant-loop-sender l = WhereAllKnow l.views l.geometry (λ ring run. some_below l.sender (holds_slot ring run l.slot) ≡ false)
