-- The commands of a line, one after another.
use Rattle.std.proofs.Common.{◌≡◌, ℕ, zero, suc, ◌≤◌, List, [], ◌∷◌, ◌++◌, length, take, Option, Some, None, option_map, refl, ap, sym, ◌∙◌, append_assoc, append-nil}
use Rattle.std.proofs.lemmas.List.{take_all}
use Rattle.arrayvec.specs.ArrayVec.{ArrayVec}
use Rattle.cmdcodec.specs.declared.raw.Raw.{Raw}
use Rattle.script.specs.Fields.{◌>>=◌, hex_of, raws_of}
use Rattle.schedule.specs.Lines.{body_of}

-- the first 64 of some commands and of what the rest says
abbrev pub behind : List Raw → Option (List Raw) → Option (ArrayVec Raw)
behind front None = None
behind front (Some more) = Some (record { items = take 64 (front ++ more) })

take_front : {A : Type 0} → (n : ℕ) (xs more : List A) → take n (take n xs ++ more) ≡ take n (xs ++ more)
take_front zero xs more = refl
take_front (suc n) [] more = refl
take_front (suc n) (x ∷ xs) more = ap (λ l. x ∷ l) (take_front n xs more)

regrouped : (front : List Raw) (raw : Raw) (rest : Option (List Raw)) → behind front (rest >>= λ more. Some (raw ∷ more)) ≡ behind (take 64 (front ++ raw ∷ [])) rest
regrouped front raw None = refl
regrouped front raw (Some more) =
    ap (λ xs. Some (record { items = xs })) (ap (take 64) (sym (append_assoc front (raw ∷ []) more)) ∙ sym (take_front 64 (front ++ raw ∷ []) more))

pub raws_of-more : (front : List Raw) (word : List ℕ) (words : List (List ℕ)) (raw : Raw) → hex_of word ≡ Some raw
    → behind front (raws_of (word ∷ words)) ≡ behind (take 64 (front ++ raw ∷ [])) (raws_of words)
unfolding raws_of
raws_of-more front word words raw e =
    ap (λ o. behind front (o >>= λ r. raws_of words >>= λ more. Some (r ∷ more))) e ∙ regrouped front raw (raws_of words)

pub raws_of-bad : (front : List Raw) (word : List ℕ) (words : List (List ℕ)) → hex_of word ≡ None → behind front (raws_of (word ∷ words)) ≡ None
unfolding raws_of
raws_of-bad front word words e = ap (λ o. behind front (o >>= λ r. raws_of words >>= λ more. Some (r ∷ more))) e

pub raws_of-end : (front : List Raw) → length front ≤ 64 → behind front (raws_of []) ≡ Some (record { items = front })
unfolding raws_of
raws_of-end front short = ap (λ xs. Some (record { items = xs })) (ap (take 64) (append-nil front) ∙ take_all 64 front short)

pub body_of-start : (words : List (List ℕ)) → body_of words ≡ behind [] (raws_of words)
body_of-start words = begins (raws_of words)
  where
    begins : (o : Option (List Raw)) → option_map (λ raws. record { items = take 64 raws }) o ≡ behind [] o
    begins None = refl
    begins (Some raws) = refl
