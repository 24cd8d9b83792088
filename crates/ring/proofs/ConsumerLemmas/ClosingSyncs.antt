-- Each CMD_SYNC among commands whose closing syncs come in order is the closing one of a sender.
use Rattle.std.proofs.Common.{◌≡◌, ℕ, zero, suc, ◌≤◌, List, [], ◌∷◌, ◌++◌, take, Some, ap, ◌∙◌, arith}
use Rattle.std.specs.Prelude.{slice_get}
use Rattle.ring.specs.Runs.{Raw, SyncsAreInOrder, SyncsTellTheirBatch}
use Rattle.ring.specs.consumer.{AreClosingSyncs}

split : {A : Type 0} (xs : List A) (i : ℕ) (x : A) → slice_get xs i ≡ Some x → (behind : List A) × (xs ≡ take i xs ++ x ∷ behind)
split [] i x at = absurd (cc)
split (y ∷ xs) zero x at = let e : y ≡ x = cc in (xs, ap (λ z. z ∷ xs) e)
split (y ∷ xs) (suc i) x at = let rest = split xs i x at in (rest.0, ap (λ l. y ∷ l) rest.1)

pub all_closing : SyncsTellTheirBatch → (senders : ℕ) → senders ≤ 256 → (raws : List Raw) → SyncsAreInOrder senders raws → AreClosingSyncs raws
all_closing words senders few raws order i raw at sync =
    let parts = split raws i raw at in
    let its = order (take i raws) parts.0 raw parts.1 sync in
    let known = its.known in
    record { sender = its.sender; few = omega (arith, known, few); address = ap (λ (r : Raw). r.hi) its.raw_is ∙ (words its.sender its.number).cell }
