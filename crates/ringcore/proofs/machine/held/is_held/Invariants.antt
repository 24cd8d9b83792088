use Rattle.std.proofs.Common.{◌≡◌, ℕ, false}
use Rattle.ringcore.specs.machine.Open.{some_below, holds}
use Rattle.ringcore.specs.machine.Core.{WhereAllKnow}
use Rattle.ringcore.proofs.machine.held.is_held.Given as goal

abbrev pub invariant-loop-sender : goal.invariant-loop-sender
invariant-loop-sender l = (geometry : ℕ) → WhereAllKnow l.views geometry (λ ring run. some_below l.sender (λ s. holds run s l.position) ≡ false)
