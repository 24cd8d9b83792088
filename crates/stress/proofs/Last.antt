-- A row and its last one.
use Rattle.std.proofs.Common.{◌≡◌, List, [], ◌∷◌, ◌++◌, map, Some, sym, ap, ◌∙◌}
use Rattle.std.proofs.lemmas.List.Elements.{All-pop}
use Rattle.std.proofs.lemmas.List.{map-append}
use Rattle.std.specs.List.{All}

-- What is so of all is so of the last.
pub last_of : {A : Type 0} (P : A → Type 0) (all xs : List A) (x : A) → All P all → all ≡ xs ++ x ∷ [] → P x
last_of P all xs x has is = (All-pop P all xs (Some x) is has).1

-- It is so of those ahead of it too.
pub ahead_of : {A : Type 0} (P : A → Type 0) (all xs : List A) (x : A) → All P all → all ≡ xs ++ x ∷ [] → All P xs
ahead_of P all xs x has is = (All-pop P all xs (Some x) is has).0

-- Two rows are alike if their last ones are, and those ahead of them.
pub alike : {A B C : Type 0} (f : A → C) (g : B → C) (all xs : List A) (x : A) (others ys : List B) (y : B) → all ≡ xs ++ x ∷ [] → others ≡ ys ++ y ∷ []
    → map f xs ≡ map g ys → f x ≡ g y → map f all ≡ map g others
alike {A} {B} {C} f g all xs x others ys y all_are others_are ahead last =
    ap (map f) all_are
    ∙ map-append f xs (x ∷ [])
    ∙ ap (λ (l : List C). l ++ f x ∷ []) ahead
    ∙ ap (λ (c : C). map g ys ++ c ∷ []) last
    ∙ sym (map-append g ys (y ∷ []))
    ∙ sym (ap (map g) others_are)
