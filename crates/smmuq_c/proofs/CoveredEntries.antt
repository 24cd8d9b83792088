-- The entries that a command covers, told whole where there is room for them.
use Rattle.std.proofs.Common.{◌≡◌, ℕ, List, [], ◌∷◌, ◌++◌, length, take, drop, refl, ap, sym, subst, ◌∙◌, append-nil, arith}
use Rattle.std.proofs.lemmas.List.Sorted.{length_permutation}
use Rattle.std.specs.FinMap as finite
use Rattle.std.specs.List.Sorted.{IsPermutation}
use Rattle.caches.specs.declared.tag.Entry.{Entry}
use Rattle.caches.specs.Held.{Entries}
use Rattle.caches.specs.Told.{AreTold}

take_all : (list : List Entry) → take (length list) list ≡ list
take_all [] = refl
take_all (x ∷ list) = ap (λ l. x ∷ l) (take_all list)

drop_all : (list old : List Entry) → length old ≡ length list → drop (length list) old ≡ []
drop_all [] [] same = refl
drop_all [] (o ∷ old) same = absurd (omega (arith, same))
drop_all (x ∷ list) [] same = refl
drop_all (x ∷ list) (o ∷ old) same = drop_all list old (omega (arith, same))

-- In room for just as many they are what stands there.
pub whole : (entries : Entries) (old new : List Entry) (count : ℕ) → AreTold entries old new count → length old ≡ count → IsPermutation (finite.values entries) new
whole entries old new count told fits =
    let same : length old ≡ length told.list = fits ∙ told.counted in
    subst (IsPermutation (finite.values entries))
    (sym (told.begun ∙ ap (λ n. take n told.list ++ drop (length told.list) old) same ∙ ap (λ l. l ++ drop (length told.list) old) (take_all told.list)
    ∙ ap (λ l. told.list ++ l) (drop_all told.list old same) ∙ append-nil told.list))
    told.all

-- Two tellings of the same entries count as many.
pub counted_again : (entries : Entries) (one other next last : List Entry) (first second : ℕ)
    → AreTold entries one next first → AreTold entries other last second → first ≡ second
counted_again entries one other next last first second a b =
    let counted = a.counted in
    let again = b.counted in
    let here = length_permutation (finite.values entries) a.list a.all in
    let there = length_permutation (finite.values entries) b.list b.all in
    omega (arith, counted, again, here, there)
