use Rattle.std.proofs.Common.{◌≡◌, ℕ, zero, suc, List, [], ◌∷◌, refl, ap}
use Rattle.std.specs.Prelude.{slice_index, slice_set}
use Rattle.ringcore.proofs.memory.laws.stored_back.Goals as goal

stored : (words : List ℕ) (at : ℕ) → slice_set words at (slice_index words at) ≡ words
stored [] at = refl
stored (word ∷ words) zero = refl
stored (word ∷ words) (suc at) = ap (λ l. word ∷ l) (stored words at)

pub returns : goal.returns
returns c = stored
