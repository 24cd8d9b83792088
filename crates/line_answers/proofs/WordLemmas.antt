-- The first word of a text, and the words after it.
use Rattle.std.proofs.Common.{◌≡◌, ℕ, zero, suc, ◌<◌, ◌≤◌, true, false, cond, List, [], ◌∷◌, length, get_or, take, drop, refl, ap, sym, ◌∙◌, arith, filter, get_or-drop, length-drop, add-zero}
use Rattle.std.specs.List.{between}
use Rattle.std.proofs.lemmas.List.{take_rest}
use Rattle.script.specs.Lines.{onto_first}
use Rattle.script.specs.Words.{is_word}
use Rattle.line_answers.specs.LineWords.{is_blank, between_blanks, words_of}

pub words_of-nothing : words_of [] ≡ []
unfolding words_of between_blanks
words_of-nothing = refl

-- a leading blank is no part of a word
pub words_of-after_blank : (xs : List ℕ) → 0 < length xs → is_blank (get_or xs 0 0) ≡ true → words_of (between 1 (length xs) xs) ≡ words_of xs
unfolding words_of between_blanks
words_of-after_blank [] some blank = absurd (omega arith)
words_of-after_blank (x ∷ xs) some blank =
    ap words_of (take_rest (x ∷ xs) 1)
    ∙ sym (ap (λ t. filter is_word (cond t ([] ∷ between_blanks xs) (onto_first x (between_blanks xs)))) blank)

-- no byte before the index is a blank
abbrev pub NoneBlank : List ℕ → ℕ → Type 0
NoneBlank xs k = (i : ℕ) → i < k → is_blank (get_or xs i 0) ≡ false

none_tail : (x : ℕ) (xs : List ℕ) (k : ℕ) → NoneBlank (x ∷ xs) (suc k) → NoneBlank xs k
none_tail x xs k none i below = none (suc i) (omega arith)

-- the pieces after the first one, by what follows it
abbrev pieces_behind : List ℕ → List (List ℕ)
pieces_behind [] = []
pieces_behind (x ∷ xs) = between_blanks xs

split_first : (xs : List ℕ) (k : ℕ) → NoneBlank xs k → k ≤ length xs → (k < length xs → is_blank (get_or xs k 0) ≡ true)
    → between_blanks xs ≡ take k xs ∷ pieces_behind (drop k xs)
unfolding between_blanks
split_first [] zero none within blank = refl
split_first [] (suc k) none within blank = absurd (omega arith)
split_first (x ∷ xs) zero none within blank = ap (λ t. cond t ([] ∷ between_blanks xs) (onto_first x (between_blanks xs))) (blank (omega arith))
split_first (x ∷ xs) (suc k) none within blank =
    ap (λ t. cond t ([] ∷ between_blanks xs) (onto_first x (between_blanks xs))) (none 0 (omega arith))
    ∙ ap (onto_first x) (split_first xs k (none_tail x xs k none) (omega arith) (λ inside. blank (omega arith)))

words_behind : (xs : List ℕ) → (0 < length xs → is_blank (get_or xs 0 0) ≡ true) → filter is_word (pieces_behind xs) ≡ words_of xs
unfolding words_of between_blanks
words_behind [] blank = refl
words_behind (x ∷ xs) blank =
    sym (ap (λ t. filter is_word (cond t ([] ∷ between_blanks xs) (onto_first x (between_blanks xs)))) (blank (omega arith)))

is_word-take : (xs : List ℕ) (k : ℕ) → 0 < k → 0 < length xs → is_word (take k xs) ≡ true
is_word-take [] k some_taken some = absurd (omega arith)
is_word-take (x ∷ xs) zero some_taken some = absurd (omega arith)
is_word-take (x ∷ xs) (suc k) some_taken some = refl

-- a text that begins with a word of k bytes
pub words_of-word : (xs : List ℕ) (k : ℕ) → 0 < k → 0 < length xs → NoneBlank xs k → k ≤ length xs → (k < length xs → is_blank (get_or xs k 0) ≡ true)
    → words_of xs ≡ take k xs ∷ words_of (drop k xs)
unfolding words_of
words_of-word xs k some_taken some none within blank =
    let behind : 0 < length (drop k xs) → is_blank (get_or (drop k xs) 0 0) ≡ true =
    λ h.
    let at : get_or (drop k xs) 0 0 ≡ get_or xs k 0 = get_or-drop k xs 0 0 ∙ ap (λ i. get_or xs i 0) (add-zero k) in
    ap is_blank at ∙ blank (omega (arith, length-drop k xs)) in
    ap (filter is_word) (split_first xs k none within blank)
    ∙ ap (λ t. cond t (take k xs ∷ filter is_word (pieces_behind (drop k xs))) (filter is_word (pieces_behind (drop k xs)))) (is_word-take xs k some_taken some)
    ∙ ap (λ words. take k xs ∷ words) (words_behind (drop k xs) behind)

-- a text whose first byte is no blank
pub words_of-first : (xs : List ℕ) (k : ℕ) → 0 < length xs → is_blank (get_or xs 0 0) ≡ false → NoneBlank xs k → k ≤ length xs
    → (k < length xs → is_blank (get_or xs k 0) ≡ true) → words_of xs ≡ take k xs ∷ words_of (between k (length xs) xs)
words_of-first xs zero some first none within blank =
    let no : false ≡ true = sym first ∙ blank some in absurd cc
words_of-first xs (suc k) some first none within blank =
    words_of-word xs (suc k) (omega arith) some none within blank ∙ ap (λ ys. take (suc k) xs ∷ words_of ys) (sym (take_rest xs (suc k)))

-- and so the word has a byte at least
pub some_bytes : (xs : List ℕ) (k : ℕ) → 0 < length xs → is_blank (get_or xs 0 0) ≡ false → (k < length xs → is_blank (get_or xs k 0) ≡ true) → 0 < k
some_bytes xs zero some first blank = let no : false ≡ true = sym first ∙ blank some in absurd cc
some_bytes xs (suc k) some first blank = omega arith
