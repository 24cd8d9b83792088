-- What one word more says of a field.
use Rattle.std.proofs.Common.{◌≡◌, ℕ, Bool, true, false, cond, List, [], ◌∷◌, drop, length, map, filter, not, eqb, refl, ap, Some, None}
use Rattle.std.specs.List.{starts_with, find}
use Rattle.encode.specs.declared.field.Field.{Field}
use Rattle.encode.specs.Values.{behind, is_of, unknown_word}

pub behind_nothing : (key : List ℕ) → behind key [] ≡ []
unfolding behind
behind_nothing key = refl

pub behind_its_key : (key word : List ℕ) (words : List (List ℕ)) → starts_with eqb word key ≡ true → behind key (word ∷ words) ≡ drop (length key) word ∷ behind key words
unfolding behind
behind_its_key key word words begins =
    let p : List ℕ → Bool = λ w. starts_with eqb w key in
    ap (λ t. map (drop (length key)) (cond t (word ∷ filter p words) (filter p words))) begins

pub behind_another : (key word : List ℕ) (words : List (List ℕ)) → starts_with eqb word key ≡ false → behind key (word ∷ words) ≡ behind key words
unfolding behind
behind_another key word words begins =
    let p : List ℕ → Bool = λ w. starts_with eqb w key in
    ap (λ t. map (drop (length key)) (cond t (word ∷ filter p words) (filter p words))) begins

pub unknown_in_nothing : (fields : List Field) → unknown_word fields [] ≡ None
unfolding unknown_word
unknown_in_nothing fields = refl

pub unknown_here : (fields : List Field) (word : List ℕ) (words : List (List ℕ)) → is_of fields word ≡ false → unknown_word fields (word ∷ words) ≡ Some word
unfolding unknown_word
unknown_here fields word words unknown = ap (λ t. cond (not t) (Some word) (find (λ w. not (is_of fields w)) words)) unknown

pub unknown_behind : (fields : List Field) (word : List ℕ) (words : List (List ℕ)) → is_of fields word ≡ true → unknown_word fields (word ∷ words) ≡ unknown_word fields words
unfolding unknown_word
unknown_behind fields word words known = ap (λ t. cond (not t) (Some word) (find (λ w. not (is_of fields w)) words)) known
