-- The first word of a text, and the words after it.
use Rattle.std.proofs.Common.{◌≡◌, ◌≢◌, ℕ, zero, suc, ◌<◌, ◌≤◌, ◌==◌, true, cond, List, [], ◌∷◌, length, get_or, take, drop, refl, ap, sym, ◌∙◌, arith, Option, filter, inl, inr, get_or-drop, length-drop, add-zero, unwrap_or}
use Rattle.std.specs.List.{between}
use Rattle.std.proofs.lemmas.Bool.{eqb-true, cases_eq}
use Rattle.std.proofs.lemmas.List.{take_rest}
use Rattle.memchr.specs.Find.{IsFirstByte, is_byte}
use Rattle.script.specs.Lines.{onto_first}
use Rattle.script.specs.Words.{between_spaces, is_word, words_of}
use Rattle.script.proofs.Searches.{NoneBefore, not_true, none_before_tail, found_or_end}

pub words_of-nothing : words_of [] ≡ []
unfolding words_of between_spaces
words_of-nothing = refl

-- a leading space is no part of a word
pub words_of-after_space : (xs : List ℕ) → 0 < length xs → get_or xs 0 0 ≡ 32 → words_of (between 1 (length xs) xs) ≡ words_of xs
unfolding words_of between_spaces
words_of-after_space [] some space = absurd (omega arith)
words_of-after_space (x ∷ xs) some space =
    ap words_of (take_rest (x ∷ xs) 1)
    ∙ sym (ap (λ b. filter is_word (cond (b == 32) ([] ∷ between_spaces xs) (onto_first b (between_spaces xs)))) space)

-- the pieces after the first one, by what follows it
abbrev pieces_behind : List ℕ → List (List ℕ)
pieces_behind [] = []
pieces_behind (x ∷ xs) = between_spaces xs

split_first : (xs : List ℕ) (k : ℕ) → NoneBefore 32 xs k → k ≤ length xs → (k < length xs → get_or xs k 0 == 32 ≡ true)
    → between_spaces xs ≡ take k xs ∷ pieces_behind (drop k xs)
unfolding between_spaces
split_first [] zero none within space = refl
split_first [] (suc k) none within space = absurd (omega arith)
split_first (x ∷ xs) zero none within space = ap (λ t. cond t ([] ∷ between_spaces xs) (onto_first x (between_spaces xs))) (space (omega arith))
split_first (x ∷ xs) (suc k) none within space =
    ap (λ t. cond t ([] ∷ between_spaces xs) (onto_first x (between_spaces xs))) (not_true _ (none 0 (omega arith)))
    ∙ ap (onto_first x) (split_first xs k (none_before_tail 32 x xs k none) (omega arith) (λ inside. space (omega arith)))

words_behind : (xs : List ℕ) → (0 < length xs → get_or xs 0 0 == 32 ≡ true) → filter is_word (pieces_behind xs) ≡ words_of xs
unfolding words_of between_spaces
words_behind [] space = refl
words_behind (x ∷ xs) space =
    sym (ap (λ t. filter is_word (cond t ([] ∷ between_spaces xs) (onto_first x (between_spaces xs)))) (space (omega arith)))

is_word-take : (xs : List ℕ) (k : ℕ) → 0 < k → 0 < length xs → is_word (take k xs) ≡ true
is_word-take [] k some_taken some = absurd (omega arith)
is_word-take (x ∷ xs) zero some_taken some = absurd (omega arith)
is_word-take (x ∷ xs) (suc k) some_taken some = refl

-- a text that begins with a word of k bytes
words_of-word : (xs : List ℕ) (k : ℕ) → 0 < k → 0 < length xs → NoneBefore 32 xs k → k ≤ length xs → (k < length xs → get_or xs k 0 == 32 ≡ true)
    → words_of xs ≡ take k xs ∷ words_of (drop k xs)
unfolding words_of
words_of-word xs k some_taken some none within space =
    let behind : 0 < length (drop k xs) → get_or (drop k xs) 0 0 == 32 ≡ true =
    λ h. ap (λ b. b == 32) (get_or-drop k xs 0 0 ∙ rw add-zero) ∙ space (omega (arith, length-drop k xs)) in
    ap (filter is_word) (split_first xs k none within space)
    ∙ ap (λ t. cond t (take k xs ∷ filter is_word (pieces_behind (drop k xs))) (filter is_word (pieces_behind (drop k xs)))) (is_word-take xs k some_taken some)
    ∙ ap (λ words. take k xs ∷ words) (words_behind (drop k xs) behind)

-- a text that begins with no space, by a search for the first space
pub words_of-first : (xs : List ℕ) (r : Option ℕ) (k : ℕ) → 0 < length xs → get_or xs 0 0 ≢ 32 → IsFirstByte (is_byte 32) xs r → k ≡ unwrap_or r (length xs)
    → words_of xs ≡ take k xs ∷ words_of (between k (length xs) xs)
words_of-first xs r k some first search_for_space e =
    let found = found_or_end 32 xs r k search_for_space e in
    let some_taken : 0 < k = elim (cases_eq k 0) as (λ _. 0 < k) [
      | inl none ↦ absurd (first (eqb-true _ 32 (rw none at (found.2 (omega arith)))))
      | inr more ↦ omega arith
    ] in
    words_of-word xs k some_taken some found.0 found.1 found.2 ∙ ap (λ ys. take k xs ∷ words_of ys) (sym (take_rest xs k))
