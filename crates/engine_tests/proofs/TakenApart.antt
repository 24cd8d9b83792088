-- All senders of a ring of two, taken from the end one after the other.
use Rattle.std.proofs.Common.{◌≡◌, ◌+◌, ℕ, List, [], ◌∷◌, ◌++◌, length, Some, refl, sym, ap, ◌∙◌, length-append, arith}
use Rattle.std.specs.Prelude.{slice_get}
use Rattle.ring.specs.Rings.{RingValue}
use Rattle.ring.specs.sender.Senders.{SenderValue}
use Rattle.ring.specs.Finishing.{AreAll}

none_left : (xs : List SenderValue) → length xs ≡ 0 → xs ≡ []
none_left [] e = refl
none_left (x ∷ xs) e = absurd (omega arith)

pub record AreTwo (ring : RingValue) (rest : List SenderValue) (first second : SenderValue) : Type 0 where
  pub two : ring.made_with.senders ≡ 2
  pub rest_is : rest ≡ []
  pub first_is : (first.ring ≡ ring) × (first.number ≡ 0)
  pub second_is : (second.ring ≡ ring) × (second.number ≡ 1)

pub taken_apart : (ring : RingValue) (all most rest : List SenderValue) (first second : SenderValue) → AreAll ring all → length all ≡ 2
    → all ≡ most ++ second ∷ [] → most ≡ rest ++ first ∷ [] → AreTwo ring rest first second
taken_apart ring all most rest first second are two last before =
    let outer = ap length last ∙ length-append most (second ∷ []) in
    let inner = ap length before ∙ length-append rest (first ∷ []) in
    let none = none_left rest (omega (arith, two, outer, inner)) in
    let whole : all ≡ first ∷ second ∷ [] = last ∙ ap (λ (l : List SenderValue). l ++ second ∷ []) (before ∙ ap (λ (l : List SenderValue). l ++ first ∷ []) none) in
    record {
      two = sym are.many ∙ two;
      rest_is = none;
      first_is = are.each 0 first (ap (λ (l : List SenderValue). slice_get l 0) whole);
      second_is = are.each 1 second (ap (λ (l : List SenderValue). slice_get l 1) whole);
    }
