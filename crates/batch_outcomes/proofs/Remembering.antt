-- What is remembered of a sender, as batches are settled.
use Rattle.std.proofs.Common.{◌≡◌, ◌≢◌, ℕ, zero, suc, ◌+◌, ◌-◌, ◌^◌, ◌<◌, ◌≤◌, Bool, true, false, cond, ◌==◌, ◌&&◌, nat_lt, min, List, [], ◌∷◌, Option, Some, None, inl, inr, ◌⊎◌, refl, sym, ap, ◌∙◌, subst, eq-eqb, eqb-true, ne_eqb, arith, length}
use Rattle.std.specs.Prelude.{slice_get, slice_set, slice_index_or}
use Rattle.std.proofs.lemmas.Bool.{cases_eq}
use Rattle.batch_outcomes.specs.declared.settled.Settled.{Settled}
use Rattle.batch_outcomes.specs.declared.settled.Settled.TheVariants.{Command, Sync}
use Rattle.batch_outcomes.specs.declared.told.Told.{Told}
use Rattle.batch_outcomes.specs.Settled.{lost_behind, losses_of, last_of, AreNumbered}
use Rattle.batch_outcomes.specs.Outcomes.{counted, IsLost, LostSome, IsForgotten, told_then, lost_then, IsTold, IsRemembered}

-- ---- numbers

-- A settled number is between 1 and the last.
number_within : (s k : ℕ) (all : List Settled) (n : ℕ) → AreNumbered all → losses_of s k all ≡ Some n → (1 ≤ k) × (k ≤ last_of s all)
number_within s k [] n ok is = absurd (cc)
number_within s k (Command c ∷ older) n ok is = number_within s k older n ok is
number_within s k (Sync t j ∷ older) n ok is = by_sender (number_within s k older n ok.1) (t == s) refl (j == k) refl is
  where
    by_sender : (losses_of s k older ≡ Some n → (1 ≤ k) × (k ≤ last_of s older)) → (v : Bool) → (t == s) ≡ v → (w : Bool) → (j == k) ≡ w → cond (v && w) (Some (lost_behind older)) (losses_of s k older) ≡ Some n
        → (1 ≤ k) × (k ≤ cond v j (last_of s older))
    by_sender before true same true its is =
        let number : j ≡ k = eqb-true j k its in let next = ok.0 in (omega (arith, number, next), omega (arith, number))
    by_sender before true same false other is =
        let sender : t ≡ s = eqb-true t s same in
        let older_is = before is in
        let low = older_is.1 in
        let next : j ≡ suc (last_of s older) = subst (λ (u : ℕ). j ≡ suc (last_of u older)) sender ok.0 in (older_is.0, omega (arith, low, next))
    by_sender before false other w its is = before is

-- Each number up to the last is settled.
pub settled_up_to : (s k : ℕ) (all : List Settled) → AreNumbered all → 1 ≤ k → k ≤ last_of s all → (n : ℕ) × (losses_of s k all ≡ Some n)
settled_up_to s k [] ok some most = absurd (omega (arith, some, most))
settled_up_to s k (Command c ∷ older) ok some most = settled_up_to s k older ok some most
settled_up_to s k (Sync t j ∷ older) ok some most = by_sender (λ low. settled_up_to s k older ok.1 some low) (t == s) refl (cases_eq j k) most
  where
    by_sender : (k ≤ last_of s older → (n : ℕ) × (losses_of s k older ≡ Some n)) → (v : Bool) → (t == s) ≡ v → (j ≡ k) ⊎ (j ≢ k) → k ≤ cond v j (last_of s older) → (n : ℕ) × (cond (v && j == k) (Some (lost_behind older)) (losses_of s k older) ≡ Some n)
    by_sender before true same (inl its) most = (lost_behind older, ap (λ (b : Bool). cond b (Some (lost_behind older)) (losses_of s k older)) (eq-eqb j k its))
    by_sender before true same (inr other) most =
        let sender : t ≡ s = eqb-true t s same in
        let next : j ≡ suc (last_of s older) = subst (λ (u : ℕ). j ≡ suc (last_of u older)) sender ok.0 in
        let rest = before (omega (arith, most, next, other)) in
        (rest.0, ap (λ (b : Bool). cond b (Some (lost_behind older)) (losses_of s k older)) (ne_eqb j k other) ∙ rest.1)
    by_sender before false other w most = before most

-- One beyond the last isn't, nor is 0.
pub none_beyond : (s k : ℕ) (all : List Settled) → AreNumbered all → last_of s all < k → losses_of s k all ≡ None
none_beyond s k all ok high = by_answer (losses_of s k all) refl
  where
    by_answer : (o : Option ℕ) → losses_of s k all ≡ o → o ≡ None
    by_answer None is = refl
    by_answer (Some n) is = let low = (number_within s k all n ok is).1 in absurd (omega (arith, low, high))

pub none_is_zero : (s : ℕ) (all : List Settled) → AreNumbered all → losses_of s 0 all ≡ None
none_is_zero s all ok = by_answer (losses_of s 0 all) refl
  where
    by_answer : (o : Option ℕ) → losses_of s 0 all ≡ o → o ≡ None
    by_answer None is = refl
    by_answer (Some n) is = let low = (number_within s 0 all n ok is).0 in absurd (omega (arith, low))

-- ---- one sender

-- What is known of a sender stays so where its numbers and losses do.
told_with : (s : ℕ) (t : Told) (old new : List Settled) → last_of s new ≡ last_of s old → ((k : ℕ) → losses_of s k new ≡ losses_of s k old) → IsTold s t old → IsTold s t new
told_with s t old new last same is = record {
  last = is.last ∙ sym last;
  losing = is.losing;
  earlier = is.earlier;
  apart = is.apart;
  its = λ some. let l = is.its some in record { lost = l.lost; some = l.some; losses = same t.losing ∙ l.losses; count_is = l.count_is };
  its_earlier = λ some. let l = is.its_earlier some in record { lost = l.lost; some = l.some; losses = same t.earlier ∙ l.losses };
  none_later = λ k lost at. is.none_later k lost (sym (same k) ∙ at);
  none_between = λ k lost at low. is.none_between k lost (sym (same k) ∙ at) low;
}

pub told_command : (s : ℕ) (t : Told) (c : Bool) (all : List Settled) → IsTold s t all → IsTold s t (Command c ∷ all)
told_command s t c all is = told_with s t all (Command c ∷ all) refl (λ k. refl) is

pub told_other : (s u k : ℕ) (t : Told) (all : List Settled) → u ≢ s → IsTold s t all → IsTold s t (Sync u k ∷ all)
told_other s u k t all other is =
    let not : (u == s) ≡ false = ne_eqb u s other in
    told_with s t all (Sync u k ∷ all) (ap (λ (b : Bool). cond b k (last_of s all)) not)
    (λ j. ap (λ (b : Bool). cond (b && k == j) (Some (lost_behind all)) (losses_of s j all)) not) is

-- The sender's next batch is settled.
module _ (s k : ℕ) (t : Told) (all : List Settled) (numbered : AreNumbered all) (next : k ≡ suc (last_of s all)) (is : IsTold s t all) where
  abbrev new : List Settled
  new = Sync s k ∷ all

  own : (s == s) ≡ true
  own = eq-eqb s s refl

  last_is : last_of s new ≡ k
  last_is = ap (λ (b : Bool). cond b k (last_of s all)) own

  its_losses : losses_of s k new ≡ Some (lost_behind all)
  its_losses = ap (λ (b : Bool). cond (b && k == k) (Some (lost_behind all)) (losses_of s k all)) own ∙ ap (λ (b : Bool). cond b (Some (lost_behind all)) (losses_of s k all)) (eq-eqb k k refl)

  others : (j : ℕ) → k ≢ j → losses_of s j new ≡ losses_of s j all
  others j other = ap (λ (b : Bool). cond (b && k == j) (Some (lost_behind all)) (losses_of s j all)) own ∙ ap (λ (b : Bool). cond b (Some (lost_behind all)) (losses_of s j all)) (ne_eqb k j other)

  behind : (j : ℕ) → j ≤ t.last → k ≢ j
  behind j low same = let last = is.last in absurd (omega (arith, low, same, next, last))

  moved : (j : ℕ) → j ≤ t.last → LostSome s j all → LostSome s j new
  moved j low l = record { lost = l.lost; some = l.some; losses = others j (behind j low) ∙ l.losses }

  -- It lost none.
  told_whole : lost_behind all ≡ 0 → IsTold s (record t { last = k }) new
  told_whole none = record {
    last = sym last_is;
    losing = let low = is.losing in let last = is.last in omega (arith, low, last, next);
    earlier = is.earlier;
    apart = is.apart;
    its = λ some.
        let l = is.its some in record { lost = l.lost; some = l.some; losses = others t.losing (behind t.losing is.losing) ∙ l.losses; count_is = l.count_is };
    its_earlier = λ some. moved t.earlier (let low = is.losing in let lower = is.earlier in omega (arith, low, lower)) (is.its_earlier some);
    none_later = λ j lost at. by_number j lost at (cases_eq k j);
    none_between = λ j lost at low. is.none_between j lost (sym (others j (behind j (let most = is.losing in omega (arith, low, most)))) ∙ at) low;
  }
    where
      some_is : (m n : ℕ) → Some m ≡ Some n → m ≡ n
      some_is m n e = cc

      by_number : (j lost : ℕ) → losses_of s j new ≡ Some (suc lost) → (k ≡ j) ⊎ (k ≢ j) → j ≤ t.losing
      by_number j lost at (inl same) =
          let count : lost_behind all ≡ suc lost = some_is _ _ (sym its_losses ∙ ap (λ (n : ℕ). losses_of s n new) same ∙ at) in absurd (omega (arith, count, none))
      by_number j lost at (inr other) = is.none_later j lost (sym (others j other) ∙ at)

  -- It lost some.
  told_losing : (lost : ℕ) → lost ≡ counted (lost_behind all) → 1 ≤ lost_behind all → IsTold s (record { last = k; losing = k; count = lost; earlier = t.losing }) new
  told_losing lost lost_is some = record {
    last = sym last_is;
    losing = omega arith;
    earlier = let low = is.losing in let last = is.last in omega (arith, low, last, next);
    apart = λ any. let low = is.losing in let last = is.last in omega (arith, low, last, next);
    its = λ any. record { lost = lost_behind all; some = some; losses = its_losses; count_is = lost_is };
    its_earlier = λ any. moved t.losing is.losing (let l = is.its any in record { lost = l.lost; some = l.some; losses = l.losses });
    none_later = λ j n at. let low = (number_within s j new (suc n) (next, numbered) at).1 in omega (arith, low, last_is);
    none_between = λ j n at low. is.none_later j n (sym (others j (λ same. absurd (omega (arith, same, low)))) ∙ at);
  }

  pub told_own : (lost : ℕ) → lost ≡ counted (lost_behind all) → IsTold s (told_then t k lost) new
  told_own lost lost_is = by_count (lost_behind all) refl
    where
      by_count : (n : ℕ) → lost_behind all ≡ n → IsTold s (told_then t k lost) new
      by_count zero none =
          let is_none : lost ≡ 0 = lost_is ∙ ap counted none in
          subst (λ (n : ℕ). IsTold s (told_then t k n) new) (sym is_none) (told_whole none)
      by_count (suc n) some = by_lost lost refl
        where
          by_lost : (l : ℕ) → lost ≡ l → IsTold s (told_then t k lost) new
          by_lost zero none = (let e : lost ≡ counted (suc n) = lost_is ∙ ap counted some in absurd (omega (arith, e, none)))
          by_lost (suc l) same = subst (λ (m : ℕ). IsTold s (told_then t k m) new) (sym same) (told_losing (suc l) (sym same ∙ lost_is) (omega (arith, some)))

-- ---- the senders' list

pub at_index : (all : List Told) (i : ℕ) (x : Told) → i < length all → x ≡ slice_index_or all i x → slice_get all i ≡ Some x
at_index [] i x low is = absurd (omega (arith, low))
at_index (y ∷ ys) zero x low is = ap Some (sym is)
at_index (y ∷ ys) (suc i) x low is = at_index ys i x (omega (arith, low)) is

at_own : (all : List Told) (i : ℕ) (x y : Told) → slice_get (slice_set all i x) i ≡ Some y → x ≡ y
at_own [] i x y at = absurd (cc)
at_own (z ∷ zs) zero x y at = cc
at_own (z ∷ zs) (suc i) x y at = at_own zs i x y at

at_other : (all : List Told) (i s : ℕ) (x : Told) → i ≢ s → slice_get (slice_set all i x) s ≡ slice_get all s
at_other [] i s x other = refl
at_other (z ∷ zs) zero zero x other = absurd (other refl)
at_other (z ∷ zs) zero (suc s) x other = refl
at_other (z ∷ zs) (suc i) zero x other = refl
at_other (z ∷ zs) (suc i) (suc s) x other = at_other zs i s x (λ same. other (ap suc same))

-- A sender's next batch is settled.
pub remembered : (all : List Settled) (told : List Told) (lost s k : ℕ) (t : Told) → IsRemembered all told lost → slice_get told s ≡ Some t → k ≡ suc (last_of s all)
    → IsRemembered (Sync s k ∷ all) (slice_set told s (told_then t k lost)) 0
remembered all told lost s k t is at next = record {
  lost_is = refl;
  numbered = (next, is.numbered);
  each = λ u x got. by_sender u x got (cases_eq s u);
}
  where
    by_sender : (u : ℕ) (x : Told) → slice_get (slice_set told s (told_then t k lost)) u ≡ Some x → (s ≡ u) ⊎ (s ≢ u) → IsTold u x (Sync s k ∷ all)
    by_sender u x got (inl same) =
        let there = subst (λ (n : ℕ). slice_get (slice_set told s (told_then t k lost)) n ≡ Some x) (sym same) got in
        subst (λ (n : ℕ). IsTold n x (Sync s k ∷ all)) same
        (subst (λ (y : Told). IsTold s y (Sync s k ∷ all)) (at_own told s (told_then t k lost) x there) (told_own s k t all is.numbered next (is.each s t at) lost is.lost_is))
    by_sender u x got (inr other) = told_other u s k x all other (is.each u x (sym (at_other told s u (told_then t k lost) other) ∙ got))

-- One more command of a body is settled.
pub remembered_command : (all : List Settled) (told : List Told) (lost : ℕ) (c : Bool) → IsRemembered all told lost → IsRemembered (Command c ∷ all) told (lost_then lost c)
remembered_command all told lost c is =
    record { lost_is = one_more c; numbered = is.numbered; each = λ s t at. told_command s t c all (is.each s t at) }
  where
    one_more : (b : Bool) → lost_then lost b ≡ counted (lost_behind (Command b ∷ all))
    one_more true = is.lost_is
    one_more false = let now = is.lost_is in omega (arith, now)

-- ---- what is answered

module _ (s k : ℕ) (t : Told) (all : List Settled) (numbered : AreNumbered all) (is : IsTold s t all) (some : 1 ≤ k) (most : k ≤ t.last) where
  there : (n : ℕ) × (losses_of s k all ≡ Some n)
  there = settled_up_to s k all numbered some (let last = is.last in omega (arith, most, last))

  pub forgotten : k ≤ t.earlier → IsForgotten s k all
  forgotten low = record {
    lost = there.0;
    losses = there.1;
    first = t.earlier;
    not_ahead = low;
    first_lost = is.its_earlier (omega (arith, some, low));
    second = t.losing;
    behind = is.apart (omega (arith, some, low));
    second_lost = let l = is.its (let lower = is.earlier in omega (arith, some, low, lower)) in record { lost = l.lost; some = l.some; losses = l.losses };
  }

  pub complete : k ≢ t.losing → t.earlier < k → losses_of s k all ≡ Some 0
  complete other high = by_count there.0 there.1
    where
      by_count : (n : ℕ) → losses_of s k all ≡ Some n → losses_of s k all ≡ Some 0
      by_count zero at = at
      by_count (suc n) at =
          let low = is.none_later k n at in
          let between = is.none_between k n at (omega (arith, low, other)) in absurd (omega (arith, between, high))
