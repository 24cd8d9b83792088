-- The commands of a line, one after another.
use Rattle.std.proofs.Common.{◌≡◌, ℕ, List, [], ◌∷◌, ◌++◌, Option, Some, None, refl, ap, sym, ◌∙◌, append_assoc, append-nil}
use Rattle.cmdcodec.specs.declared.raw.Raw.{Raw}
use Rattle.script.specs.Fields.{◌>>=◌, hex_of, raws_of}

-- commands before those of the rest
abbrev pub with_raws : List Raw → Option (List Raw) → Option (List Raw)
with_raws raws None = None
with_raws raws (Some more) = Some (raws ++ more)

regrouped : (raws : List Raw) (raw : Raw) (rest : Option (List Raw)) → with_raws raws (rest >>= λ more. Some (raw ∷ more)) ≡ with_raws (raws ++ raw ∷ []) rest
regrouped raws raw None = refl
regrouped raws raw (Some more) = ap (λ xs. Some xs) (sym (append_assoc raws (raw ∷ []) more))

pub raws_of-more : (raws : List Raw) (word : List ℕ) (words : List (List ℕ)) (raw : Raw) → hex_of word ≡ Some raw
    → with_raws raws (raws_of (word ∷ words)) ≡ with_raws (raws ++ raw ∷ []) (raws_of words)
unfolding raws_of
raws_of-more raws word words raw e =
    ap (λ o. with_raws raws (o >>= λ r. raws_of words >>= λ more. Some (r ∷ more))) e ∙ regrouped raws raw (raws_of words)

pub raws_of-bad : (raws : List Raw) (word : List ℕ) (words : List (List ℕ)) → hex_of word ≡ None → with_raws raws (raws_of (word ∷ words)) ≡ None
unfolding raws_of
raws_of-bad raws word words e = ap (λ o. with_raws raws (o >>= λ r. raws_of words >>= λ more. Some (r ∷ more))) e

pub raws_of-end : (raws : List Raw) → with_raws raws (raws_of []) ≡ Some raws
unfolding raws_of
raws_of-end raws = ap (λ xs. Some xs) (append-nil raws)
