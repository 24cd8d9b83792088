use Rattle.std.proofs.Common.{◌≡◌, ◌+◌, true}
use Rattle.qindex.specs.Positions.{place}
use Rattle.ringcore.specs.machine.Open.{all_below, slot_is_held}
use Rattle.ringcore.specs.machine.Core.{WhereAllKnow}
use Rattle.ringcore.proofs.machine.held.slots_are_held.Given as goal

abbrev pub invariant-loop-ahead : goal.invariant-loop-ahead
invariant-loop-ahead l = WhereAllKnow l.views l.geometry (λ ring run. all_below l.ahead (λ k. slot_is_held ring run (place l.geometry (l.slot + k))) ≡ true)
