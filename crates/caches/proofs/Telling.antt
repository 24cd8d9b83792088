-- A walk that writes what passes a test to the beginning of a list, as far as it reaches.
use Rattle.std.proofs.Common.{◌≡◌, ℕ, zero, suc, ◌+◌, ◌<◌, ◌≤◌, Bool, true, false, cond, refl, sym, ◌∙◌, ap, List, [], ◌∷◌, ◌++◌, length, take, drop, set, filter, arith, append_assoc, append-nil}
use Rattle.std.proofs.Math.Seq.{take-nil}
use Rattle.std.proofs.lemmas.List.{length-append}
use Rattle.caches.specs.declared.tag.Entry.{Entry}
use Rattle.caches.specs.Told.{begun_with}

drop-nil : (n : ℕ) → ◌≡◌ {A = List Entry} (drop n []) []
drop-nil zero = refl
drop-nil (suc n) = refl

begun_empty : (list : List Entry) → begun_with list [] ≡ []
begun_empty list = drop-nil (length list)

pub begun_none : (old : List Entry) → begun_with [] old ≡ old
begun_none old = ap (λ l. l ++ old) (take-nil (length old))

pub length-begun : (list old : List Entry) → length (begun_with list old) ≡ length old
length-begun [] old = ap length (begun_none old)
length-begun (x ∷ list) [] = refl
length-begun (x ∷ list) (o ∷ old) = ap suc (length-begun list old)

-- One more is written over what stood in its place.
pub begun_more : (list old : List Entry) (x : Entry) → length list < length old → set (begun_with list old) (length list) x ≡ begun_with (list ++ x ∷ []) old
begun_more [] [] x room = absurd (omega (arith, room))
begun_more [] (o ∷ old) x room = ap (λ l. x ∷ l) (sym (begun_none old))
begun_more (y ∷ list) [] x room = absurd (omega (arith, room))
begun_more (y ∷ list) (o ∷ old) x room = ap (λ l. y ∷ l) (begun_more list old x (omega (arith, room)))

-- Where there is no room, nothing changes.
pub begun_full : (list old : List Entry) (x : Entry) → length old ≤ length list → begun_with list old ≡ begun_with (list ++ x ∷ []) old
begun_full [] [] x full = refl
begun_full [] (o ∷ old) x full = absurd (omega (arith, full))
begun_full (y ∷ list) [] x full = refl
begun_full (y ∷ list) (o ∷ old) x full = ap (λ l. y ∷ l) (begun_full list old x (omega (arith, full)))

-- What stands at the beginning.
pub take-begun : (list old : List Entry) → take (length list) (begun_with list old) ≡ take (length old) list
take-begun [] old = sym (take-nil (length old))
take-begun (x ∷ list) [] = refl
take-begun (x ∷ list) (o ∷ old) = ap (λ l. x ∷ l) (take-begun list old)

module _ (p : Entry → Bool) (all old : List Entry) where
  -- So many are written; the rest is to come.
  pub record IsTelling (rest new : List Entry) (count : ℕ) : Type 0 where
    pub done : List Entry
    pub split : done ++ filter p rest ≡ filter p all
    pub counted : count ≡ length done
    pub begun : new ≡ begun_with done old

  pub telling_none : IsTelling all old 0
  telling_none = record { done = []; split = refl; counted = refl; begun = sym (begun_none old) }

  module _ (x : Entry) (rest new : List Entry) (count : ℕ) (before : IsTelling (x ∷ rest) new count) where
    pub telling_not : p x ≡ false → IsTelling rest new count
    telling_not none = record {
      done = before.done;
      split = ap (λ b. before.done ++ cond b (x ∷ filter p rest) (filter p rest)) (sym none) ∙ before.split;
      counted = before.counted;
      begun = before.begun;
    }

    more : p x ≡ true → (before.done ++ x ∷ []) ++ filter p rest ≡ filter p all
    more passes = append_assoc before.done (x ∷ []) (filter p rest) ∙ ap (λ b. before.done ++ cond b (x ∷ filter p rest) (filter p rest)) (sym passes) ∙ before.split

    one_more : count + 1 ≡ length (before.done ++ x ∷ [])
    one_more = let long = length-append before.done (x ∷ []) in let counted = before.counted in omega (arith, long, counted)

    length-new : length new ≡ length old
    length-new = ap length before.begun ∙ length-begun before.done old

    pub telling_more : p x ≡ true → count < length new → IsTelling rest (set new count x) (count + 1)
    telling_more passes room = record {
      done = before.done ++ x ∷ [];
      split = more passes;
      counted = one_more;
      begun = ap (λ n. set new n x) before.counted ∙ ap (λ l. set l (length before.done) x) before.begun
          ∙ begun_more before.done old x (let same = length-new in let counted = before.counted in omega (arith, room, same, counted));
    }

    pub telling_full : p x ≡ true → length new ≤ count → IsTelling rest new (count + 1)
    telling_full passes full = record {
      done = before.done ++ x ∷ [];
      split = more passes;
      counted = one_more;
      begun = before.begun ∙ begun_full before.done old x (let same = length-new in let counted = before.counted in omega (arith, full, same, counted));
    }

  pub told_all : (new : List Entry) (count : ℕ) (after : IsTelling [] new count) → after.done ≡ filter p all
  told_all new count after = sym (append-nil after.done) ∙ after.split
