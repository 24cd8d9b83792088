-- The first line of a script, if its end is known, and if it isn't.
use Rattle.std.proofs.Common.{◌≡◌, ℕ, ◌+◌, ◌<◌, ◌==◌, cond, List, [], ◌∷◌, ◌++◌, length, take, drop, refl, ap, sym, ◌∙◌, arith, Some, None, inl, inr, subst, append_assoc, append-nil, get_or-take, length-take, take-append-drop}
use Rattle.std.proofs.lemmas.List.{take_more}
use Rattle.std.proofs.lemmas.Bool.{eqb-true}
use Rattle.memchr.specs.Find.{IsFirstByte, is_byte}
use Rattle.script.specs.Lines.{onto_first, lines_of, IsWhole}
use Rattle.script.proofs.Searches.{NoneBefore, not_true, none_before_tail}

pub IsWhole-append : (a b : List ℕ) → IsWhole a → IsWhole b → IsWhole (a ++ b)
IsWhole-append a b whole (inl none) = subst IsWhole (sym (ap (λ ys. a ++ ys) none ∙ append-nil a)) whole
IsWhole-append a b whole (inr ended) = inr (a ++ ended.0, ap (λ ys. a ++ ys) ended.1 ∙ sym (append_assoc a ended.0 (10 ∷ [])))

pub lines_of-nothing : lines_of [] ≡ []
unfolding lines_of
lines_of-nothing = refl

-- a line with its end
pub lines_of-ended : (line bytes : List ℕ) → NoneBefore 10 line (length line) → lines_of ((line ++ 10 ∷ []) ++ bytes) ≡ line ∷ lines_of bytes
unfolding lines_of
lines_of-ended [] bytes none = refl
lines_of-ended (b ∷ line) bytes none =
    ap (λ t. cond t ([] ∷ lines_of ((line ++ 10 ∷ []) ++ bytes)) (onto_first b (lines_of ((line ++ 10 ∷ []) ++ bytes)))) (not_true _ (none 0 (omega arith)))
    ∙ ap (onto_first b) (lines_of-ended line bytes (none_before_tail 10 b line _ none))

-- a front with no end belongs to the first line, whatever follows
pub lines_of-front : (xs more : List ℕ) → NoneBefore 10 xs (length xs) → 0 < length xs → (ys : List ℕ) × (lines : List (List ℕ)) × (lines_of (xs ++ more) ≡ (xs ++ ys) ∷ lines)
unfolding lines_of
lines_of-front [] more none some = absurd (omega arith)
lines_of-front (b ∷ []) more none some =
    let first : lines_of ((b ∷ []) ++ more) ≡ onto_first b (lines_of more) =
    ap (λ t. cond t ([] ∷ lines_of more) (onto_first b (lines_of more))) (not_true _ (none 0 (omega arith))) in
    elim (lines_of more) as (λ ls. lines_of ((b ∷ []) ++ more) ≡ onto_first b ls → (ys : List ℕ) × (lines : List (List ℕ)) × (lines_of ((b ∷ []) ++ more) ≡ ((b ∷ []) ++ ys) ∷ lines)) [
      | [] ↦ λ e. ([], [], e)
      | line ∷ lines ↦ λ e. (line, lines, e)
    ] first
lines_of-front (b ∷ c ∷ xs) more none some =
    let behind = lines_of-front (c ∷ xs) more (none_before_tail 10 b (c ∷ xs) _ none) (omega arith) in (
      behind.0,
      behind.1,
      ap (λ t. cond t ([] ∷ lines_of ((c ∷ xs) ++ more)) (onto_first b (lines_of ((c ∷ xs) ++ more)))) (not_true _ (none 0 (omega arith))) ∙ ap (onto_first b) behind.2,
    )

-- a last line that lacks its end
pub lines_of-last : (xs : List ℕ) → NoneBefore 10 xs (length xs) → 0 < length xs → lines_of xs ≡ xs ∷ []
unfolding lines_of
lines_of-last [] none some = absurd (omega arith)
lines_of-last (b ∷ []) none some = ap (λ t. cond t ([] ∷ []) (onto_first b [])) (not_true _ (none 0 (omega arith)))
lines_of-last (b ∷ c ∷ xs) none some =
    ap (λ t. cond t ([] ∷ lines_of (c ∷ xs)) (onto_first b (lines_of (c ∷ xs)))) (not_true _ (none 0 (omega arith)))
    ∙ ap (onto_first b) (lines_of-last (c ∷ xs) (none_before_tail 10 b (c ∷ xs) _ none) (omega arith))

-- What a search for the end of a line found: the line in front of it has none, and then comes its end.
pub record EndsAt (xs : List ℕ) (k : ℕ) : Type 0 where
  pub inside : k < length xs
  pub none : NoneBefore 10 (take k xs) (length (take k xs))
  pub ended : take (k + 1) xs ≡ take k xs ++ 10 ∷ []

pub found_end : (xs : List ℕ) (k : ℕ) → IsFirstByte (is_byte 10) xs (Some k) → EndsAt xs k
found_end xs k found =
    let none : NoneBefore 10 xs k = λ i low. found.0.before i (omega arith) low in
    let inside : k < length xs = found.0.high in
    record {
      inside = inside;
      none = λ i low is_end.
          let below : i < k = omega (arith, length-take k xs) in
          none i below (ap (λ b. b == 10) (sym (get_or-take k xs i 0 below)) ∙ is_end);
      ended = take_more xs k 0 inside ∙ ap (λ b. take k xs ++ b ∷ []) (eqb-true _ 10 found.1);
    }

pub found_none : (xs : List ℕ) → IsFirstByte (is_byte 10) xs None → NoneBefore 10 xs (length xs)
found_none xs found i low = found i (omega arith) low

-- the lines of what begins with such a line
pub lines_of-at : (xs more : List ℕ) (k : ℕ) → EndsAt xs k → lines_of (xs ++ more) ≡ take k xs ∷ lines_of (drop (k + 1) xs ++ more)
lines_of-at xs more k found =
    ap (λ ys. lines_of (ys ++ more)) (sym (take-append-drop (k + 1) xs) ∙ ap (λ ys. ys ++ drop (k + 1) xs) found.ended)
    ∙ ap lines_of (append_assoc (take k xs ++ 10 ∷ []) (drop (k + 1) xs) more)
    ∙ lines_of-ended (take k xs) (drop (k + 1) xs ++ more) found.none
