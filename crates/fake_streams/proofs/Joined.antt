-- Texts one after another.
use Rattle.std.proofs.Common.{◌≡◌, ℕ, zero, suc, ◌+◌, ◌<◌, ◌≤◌, List, [], ◌∷◌, ◌++◌, length, take, refl, sym, ap, ◌∙◌, append_assoc, append-nil, arith, false}
use Rattle.std.specs.Prelude.{get_or, ◌==◌}
use Rattle.std.specs.Borrow.{Bor}
use Rattle.std.proofs.Math.Seq.{take-nil, take-suc}
use Rattle.std.proofs.lemmas.List.{append_cancel_left, get_or-map, length-map}
use Rattle.std.specs.List.{concat}
use Rattle.std.proofs.lemmas.List.Folds.{concat-append}
use Rattle.fake_streams.specs.Telling.{texts_of, AreAnswers}

pub concat_next : (texts : List (List ℕ)) (n : ℕ) (d : List ℕ) → n < length texts → concat (take (n + 1) texts) ≡ concat (take n texts) ++ get_or texts n d
concat_next texts n d h = ap (λ k. concat (take k texts)) (let e : n + 1 ≡ suc n = omega arith in e) ∙ ap concat (take-suc texts n d h) ∙ concat-append (take n texts) (get_or texts n d ∷ []) ∙ ap (λ l. concat (take n texts) ++ l) (append-nil (get_or texts n d))

-- more texts are those of fewer, followed by some
concat_more : (texts : List (List ℕ)) (n m : ℕ) → n ≤ m → (more : List ℕ) × (concat (take m texts) ≡ concat (take n texts) ++ more)
concat_more [] n m h = ([], ap concat (take-nil m) ∙ sym (append-nil (concat (take n [])) ∙ ap concat (take-nil n)))
concat_more (t ∷ texts) zero m h = (concat (take m (t ∷ texts)), refl)
concat_more (t ∷ texts) (suc n) zero h = absurd (omega arith)
concat_more (t ∷ texts) (suc n) (suc m) h =
    let rest = concat_more texts n m (omega arith) in
    (rest.0, ap (λ l. t ++ l) rest.1 ∙ sym (append_assoc t (concat (take n texts)) rest.0))

-- if both are nothing together, the last is
behind_nothing : (xs ys : List ℕ) → [] ≡ xs ++ ys → ys ≡ []
behind_nothing [] ys e = sym e
behind_nothing (x ∷ xs) ys e = cc

-- a text that isn't empty has something left
pub is_left : (rest : List ℕ) → false ≡ length rest == 0 → rest ≡ [] → ⊥
is_left [] e h = cc
is_left (x ∷ rest) e h = cc

-- what stands past the end of a list of borrows
abbrev pub past_end : Bor (List ℕ)
past_end = record { ref_ptr = (0, 0); now = [] }

module _ (answers : List (Bor (List ℕ))) (text rest : List ℕ) (count : ℕ) (so_far : text ≡ concat (take count (texts_of answers)) ++ rest) where
  -- an answer that begins the rest is one more
  pub one_more : (left : List ℕ) → count < length answers → rest ≡ (get_or answers count past_end).now ++ left → text ≡ concat (take (count + 1) (texts_of answers)) ++ left
  one_more left h is =
      so_far ∙ ap (λ l. concat (take count (texts_of answers)) ++ l) is ∙ sym (append_assoc (concat (take count (texts_of answers))) (get_or answers count past_end).now left)
      ∙ ap (λ l. l ++ left) (ap (λ t. concat (take count (texts_of answers)) ++ t) (sym (get_or-map (λ s. s.now) answers count past_end past_end.now h)) ∙ sym (concat_next (texts_of answers) count past_end.now (rw (length-map answers (λ s. s.now)) h)))

  -- fewer answers aren't all of the text if something is left
  pub not_fewer : (rest ≡ [] → ⊥) → (n : ℕ) → n ≤ count → AreAnswers (texts_of answers) text n → ⊥
  not_fewer some n h are =
      let more = concat_more (texts_of answers) n count h in
      let e : concat (take n (texts_of answers)) ++ [] ≡ concat (take n (texts_of answers)) ++ (more.0 ++ rest) =
      append-nil (concat (take n (texts_of answers))) ∙ sym are.whole ∙ so_far ∙ ap (λ l. l ++ rest) more.1 ∙ append_assoc (concat (take n (texts_of answers))) more.0 rest in
      some (behind_nothing more.0 rest (append_cancel_left (concat (take n (texts_of answers))) [] (more.0 ++ rest) e))

  -- nor are more if the next one doesn't begin the rest
  pub not_more : count < length answers → ((left : List ℕ) → rest ≡ (get_or answers count past_end).now ++ left → ⊥) → (n : ℕ) → count < n → AreAnswers (texts_of answers) text n → ⊥
  not_more h other n past are =
      let more = concat_more (texts_of answers) (count + 1) n (omega (arith, past)) in
      let front = concat (take count (texts_of answers)) in
      let t = (get_or answers count past_end).now in
      let next : concat (take (count + 1) (texts_of answers)) ≡ front ++ t = concat_next (texts_of answers) count past_end.now (rw (length-map answers (λ s. s.now)) h) ∙ ap (λ l. front ++ l) (get_or-map (λ s. s.now) answers count past_end past_end.now h) in
      let e : front ++ rest ≡ front ++ (t ++ more.0) = sym so_far ∙ are.whole ∙ more.1 ∙ ap (λ l. l ++ more.0) next ∙ append_assoc front t more.0 in
      other more.0 (append_cancel_left front rest (t ++ more.0) e)
