-- What is gathered since the last slot that passes a test.
use Rattle.std.proofs.Common.{◌≡◌, ℕ, ◌+◌, ◌-◌, ◌<◌, Bool, true, false, not, cond, List, [], ◌∷◌, ◌++◌, length, take, drop, reverse, get_or, refl, ap, sym, ◌∙◌, append-nil, ⊎_elim, arith, length-append}
use Rattle.std.proofs.lemmas.Bool.{cases_Bool, cond-false, cond-true}
use Rattle.std.proofs.lemmas.List.{drop_all, drop-append-le, reverse-append, take_more}
use Rattle.std.proofs.lemmas.List.Concat.{flat_map-append}
use Rattle.std.proofs.lemmas.List.Sums.{suffix_len-le-length}
use Rattle.std.specs.List.{after_last, flat_map, prefix_len, suffix_len}

module _ (test : ℕ → Bool) where
  -- how many at the end fail the test
  abbrev failing : List ℕ → ℕ
  failing xs = suffix_len (λ y. not (test y)) xs

  one_more : (xs : List ℕ) (x : ℕ) → failing (xs ++ x ∷ []) ≡ cond (not (test x)) (1 + failing xs) 0
  one_more xs x = ap (prefix_len (λ y. not (test y))) (reverse-append xs (x ∷ []))

  last_passes : (xs : List ℕ) (x : ℕ) → test x ≡ true → after_last test (xs ++ x ∷ []) ≡ []
  last_passes xs x passes =
      let none : failing (xs ++ x ∷ []) ≡ 0 = one_more xs x ∙ ap (λ b. cond (not b) (1 + failing xs) 0) passes in
      drop_all (length (xs ++ x ∷ []) - failing (xs ++ x ∷ [])) (xs ++ x ∷ []) (omega (arith, none))

  last_fails : (xs : List ℕ) (x : ℕ) → test x ≡ false → after_last test (xs ++ x ∷ []) ≡ after_last test xs ++ x ∷ []
  last_fails xs x fails =
      let more : failing (xs ++ x ∷ []) ≡ 1 + failing xs = one_more xs x ∙ ap (λ b. cond (not b) (1 + failing xs) 0) fails in
      let few = suffix_len-le-length (λ y. not (test y)) xs in
      let at : length (xs ++ x ∷ []) - failing (xs ++ x ∷ []) ≡ length xs - failing xs = omega (arith, more, length-append xs (x ∷ [])) in
      ap (λ n. drop n (xs ++ x ∷ [])) at ∙ drop-append-le (length xs - failing xs) xs (x ∷ []) (omega arith)

-- the text of what comes after the last that passes, of the first elements
abbrev pub text_since : (ℕ → Bool) → (ℕ → List ℕ) → List ℕ → ℕ → List ℕ
text_since test text xs i = flat_map text (after_last test (take i xs))

pub since_more : (test : ℕ → Bool) (text : ℕ → List ℕ) (xs : List ℕ) (i : ℕ) → i < length xs
    → text_since test text xs (i + 1) ≡ cond (test (get_or xs i 0)) [] (text_since test text xs i ++ text (get_or xs i 0))
since_more test text xs i inside =
    let x = get_or xs i 0 in
    let so_far = text_since test text xs i in
    ap (λ ys. flat_map text (after_last test ys)) (take_more xs i 0 inside) ∙ ⊎_elim
    (λ (passes : test x ≡ true). ap (flat_map text) (last_passes test (take i xs) x passes) ∙ sym (cond-true _ [] (so_far ++ text x) passes))
    (λ (fails : test x ≡ false).
    ap (flat_map text) (last_fails test (take i xs) x fails) ∙ flat_map-append text (after_last test (take i xs)) (x ∷ [])
    ∙ ap (λ t. so_far ++ t) (append-nil (text x)) ∙ sym (cond-false _ [] (so_far ++ text x) fails))
    (cases_Bool (test x))
