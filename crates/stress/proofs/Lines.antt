-- The lines of the senders, one by one.
use Rattle.std.proofs.Common.{◌≡◌, ℕ, zero, suc, ◌+◌, List, [], ◌∷◌, ◌++◌, Some, sym, ap, ◌∙◌, arith}
use Rattle.std.proofs.lemmas.List.{append_assoc, append-nil}
use Rattle.std.specs.Prelude.{slice_get, take}
use Rattle.stress.specs.ReportText.{sender_line, sender_lines}

pub one_more_line : (batches first n x : ℕ) (xs : List ℕ) → slice_get xs n ≡ Some x
    → sender_lines batches first (take (suc n) xs) ≡ sender_lines batches first (take n xs) ++ sender_line batches (first + n) x
one_more_line batches first n x [] at = absurd (cc)
one_more_line batches first zero x (y ∷ xs) at =
    let same : y ≡ x = cc in
    append-nil (sender_line batches first y) ∙ (λ k. sender_line batches (as_is k) (same k))
  where
    as_is : first ≡ first + 0
    as_is = omega arith
one_more_line batches first (suc n) x (y ∷ xs) at =
    ap (λ (l : List ℕ). sender_line batches first y ++ l) (one_more_line batches (suc first) n x xs at)
    ∙ sym (append_assoc (sender_line batches first y) (sender_lines batches (suc first) (take n xs)) (sender_line batches (suc first + n) x))
    ∙ ap (λ (m : ℕ). (sender_line batches first y ++ sender_lines batches (suc first) (take n xs)) ++ sender_line batches m x)
    (let e : suc first + n ≡ first + suc n = omega arith in e)
