use Rattle.std.proofs.Common.{◌≡◌, ◌<◌, ℕ, length, Some}
use Rattle.std.specs.Prelude.{slice_get}
use Rattle.transactions.proofs.outstanding.slot_numbers.Given as goal

abbrev pub invariant-loop-slot : goal.invariant-loop-slot
invariant-loop-slot l = (length l.numbers.items ≡ l.fn.room) × ((k : ℕ) → k < l.slot → slice_get l.numbers.items k ≡ Some k)
