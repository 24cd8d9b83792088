use Rattle.std.proofs.Common.{◌≡◌, ℕ, ◌+◌, true}
use Rattle.ringcore.specs.machine.Open.{all_below, is_held}
use Rattle.ringcore.specs.machine.Core.{WhereAllKnow}
use Rattle.ringcore.proofs.machine.held.positions_are_held.Given as goal

abbrev pub invariant-loop-ahead : goal.invariant-loop-ahead
invariant-loop-ahead l = (geometry : ℕ) → WhereAllKnow l.views geometry (λ ring run. all_below l.ahead (λ k. is_held ring run (l.position + k)) ≡ true)
