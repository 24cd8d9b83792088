use Rattle.std.proofs.Common.{◌≡◌, ◌≢◌, ℕ, ◌<◌, Some}
use Rattle.std.specs.Prelude.{slice_get}
use Rattle.trace.specs.declared.access.OpenAccess.{OpenAccess}
use Rattle.trace.proofs.access.place_of.Given as goal

abbrev pub invariant-loop-place : goal.invariant-loop-place
invariant-loop-place l = (k : ℕ) (a : OpenAccess) → k < l.place → slice_get l.accesses k ≡ Some a → a.number ≢ l.number
