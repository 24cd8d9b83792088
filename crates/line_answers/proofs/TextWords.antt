-- The words of a text that is made of them.
use Rattle.std.proofs.Common.{◌≡◌, ℕ, ◌&&◌, Bool, true, false, cond, not, List, [], ◌∷◌, ◌++◌, filter, refl, ap, sym, ◌∙◌}
use Rattle.std.specs.List.{list_all}
use Rattle.script.specs.Lines.{onto_first}
use Rattle.script.specs.Words.{is_word}
use Rattle.line_answers.specs.LineWords.{is_blank, between_blanks, words_of}

-- no byte is a blank
abbrev pub is_plain : List ℕ → Bool
is_plain bytes = list_all (λ b. not (is_blank b)) bytes

-- words with one space between two of them
abbrev pub spaced : List ℕ → List (List ℕ) → List ℕ
spaced word [] = word
spaced word (other ∷ words) = word ++ 32 ∷ spaced other words

not_true : (b : Bool) → not b ≡ true → b ≡ false
not_true true h = sym h
not_true false h = refl

first_of_two : (a b : Bool) → (a && b) ≡ true → a ≡ true
first_of_two true b h = refl
first_of_two false b h = h

second_of_two : (a b : Bool) → (a && b) ≡ true → b ≡ true
second_of_two true b h = h
second_of_two false b h = let no : false ≡ true = h in absurd cc

plain_piece : (word rest : List ℕ) → is_plain word ≡ true → between_blanks (word ++ 32 ∷ rest) ≡ word ∷ between_blanks rest
unfolding between_blanks
plain_piece [] rest plain = refl
plain_piece (b ∷ bytes) rest plain =
    ap (λ (t : Bool). cond t ([] ∷ between_blanks (bytes ++ 32 ∷ rest)) (onto_first b (between_blanks (bytes ++ 32 ∷ rest)))) (not_true (is_blank b) (first_of_two _ _ plain))
    ∙ ap (onto_first b) (plain_piece bytes rest (second_of_two _ _ plain))

plain_end : (word : List ℕ) → is_plain word ≡ true → between_blanks word ≡ word ∷ []
unfolding between_blanks
plain_end [] plain = refl
plain_end (b ∷ bytes) plain =
    ap (λ (t : Bool). cond t ([] ∷ between_blanks bytes) (onto_first b (between_blanks bytes))) (not_true (is_blank b) (first_of_two _ _ plain))
    ∙ ap (onto_first b) (plain_end bytes (second_of_two _ _ plain))

pieces : (word : List ℕ) (words : List (List ℕ)) → list_all is_plain (word ∷ words) ≡ true → between_blanks (spaced word words) ≡ word ∷ words
pieces word [] plain = plain_end word (first_of_two _ _ plain)
pieces word (other ∷ words) plain =
    plain_piece word (spaced other words) (first_of_two _ _ plain) ∙ ap (λ found. word ∷ found) (pieces other words (second_of_two _ _ plain))

all_words : (words : List (List ℕ)) → list_all is_word words ≡ true → filter is_word words ≡ words
all_words [] h = refl
all_words (word ∷ words) h =
    ap (λ (t : Bool). cond t (word ∷ filter is_word words) (filter is_word words)) (first_of_two _ _ h) ∙ ap (λ found. word ∷ found) (all_words words (second_of_two _ _ h))

pub words_of-spaced : (word : List ℕ) (words : List (List ℕ)) → list_all is_plain (word ∷ words) ≡ true → list_all is_word (word ∷ words) ≡ true
    → words_of (spaced word words) ≡ word ∷ words
unfolding words_of
words_of-spaced word words plain some = ap (filter is_word) (pieces word words plain) ∙ all_words (word ∷ words) some
