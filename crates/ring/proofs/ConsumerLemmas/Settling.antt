-- One more command that was taken is settled, and acknowledged if it is a closing sync.
use Rattle.std.proofs.Common.{◌≡◌, ℕ, zero, suc, ◌+◌, ◌<◌, ◌≤◌, Bool, true, false, cond, List, [], ◌∷◌, ◌++◌, length, take, Some, refl, sym, ap, ◌∙◌, subst, arith}
use Rattle.std.specs.Prelude.{slice_get, drop}
use Rattle.std.proofs.lemmas.Bool.{cond_both}
use Rattle.cmdcodec.specs.Opcodes.{is_sync}
use Rattle.ring.specs.Runs.{Raw, Acknowledge, Trail, raws_by, taken_by, acknowledged_by, syncs_taken, syncs_in, SyncsAreInOrder, SyncsAddUp, SyncsTellTheirBatch, SyncsOfRawsAreCounted, RawsAreCounted}
use Rattle.ring.specs.consumer.{sync_sender, sync_number, acknowledged, IsDue, IsFirst, IsDeferring}
use Rattle.ring.proofs.Lists.{take_more}
use Rattle.ring.proofs.ConsumerLemmas.Acknowledging.{due, grown, passed}

-- ---- the first behind so many

there : {A : Type 0} (xs rest : List A) (n : ℕ) (x : A) → drop n xs ≡ x ∷ rest → slice_get xs n ≡ Some x
there [] rest zero x is = absurd (cc)
there [] rest (suc n) x is = absurd (cc)
there (y ∷ xs) rest zero x is = let same : y ≡ x = cc in ap Some same
there (y ∷ xs) rest (suc n) x is = there xs rest n x is

pub split_there : {A : Type 0} (xs rest : List A) (n : ℕ) (x : A) → drop n xs ≡ x ∷ rest → xs ≡ take n xs ++ x ∷ rest
split_there [] rest zero x is = absurd (cc)
split_there [] rest (suc n) x is = absurd (cc)
split_there (y ∷ xs) rest zero x is = is
split_there (y ∷ xs) rest (suc n) x is = ap (λ l. y ∷ l) (split_there xs rest n x is)

pub drop_more : {A : Type 0} (xs rest : List A) (n : ℕ) (x : A) → drop n xs ≡ x ∷ rest → drop (suc n) xs ≡ rest
drop_more [] rest zero x is = absurd (cc)
drop_more [] rest (suc n) x is = absurd (cc)
drop_more (y ∷ xs) rest zero x is = let same : xs ≡ rest = cc in same
drop_more (y ∷ xs) rest (suc n) x is = drop_more xs rest n x is

pub within : {A : Type 0} (xs rest : List A) (n : ℕ) (x : A) → drop n xs ≡ x ∷ rest → n < length xs
within [] rest zero x is = absurd (cc)
within [] rest (suc n) x is = absurd (cc)
within (y ∷ xs) rest zero x is = omega arith
within (y ∷ xs) rest (suc n) x is = let low = within xs rest n x is in omega (arith, low)

-- An acknowledgement changes nothing else.
pub acknowledged_keeps : {X : Type 0} (f : Trail → X) → ((s n : ℕ) (t : Trail) → f (Acknowledge s n ∷ t) ≡ f t) → (raw : Raw) (t : Trail) → f (acknowledged raw t) ≡ f t
acknowledged_keeps f same raw t =
    cond_both (is_sync raw) (Acknowledge (sync_sender raw) (sync_number raw) ∷ t) t (λ u. f u ≡ f t) (λ _. same (sync_sender raw) (sync_number raw) t) (λ _. refl)

-- ---- the next one

module _ (add_up : SyncsAddUp) (by_raws : SyncsOfRawsAreCounted) (counted : RawsAreCounted) (words : SyncsTellTheirBatch) (senders : ℕ) (few : senders ≤ 256) (t : Trail) (n : ℕ) (raw : Raw)
    (deferring : IsDeferring t n) (order : SyncsAreInOrder senders (raws_by t)) (next : IsFirst raw (drop n (raws_by t))) where
  abbrev all : List Raw
  all = raws_by t

  split : all ≡ take n all ++ raw ∷ next.0
  split = split_there all next.0 n raw next.1

  acks : (s : ℕ) → acknowledged_by s t ≡ syncs_taken s [] + syncs_in s (take n all)
  acks s = let now = deferring.current s in omega (arith, now)

  ordered : SyncsAreInOrder senders (raws_by [] ++ (take n all ++ raw ∷ next.0))
  ordered = subst (SyncsAreInOrder senders) split order

  pub is_due : is_sync raw ≡ true → IsDue senders t raw
  is_due sync =
      due add_up by_raws words senders few [] (take n all) next.0 raw t acks ordered sync
      (λ s. let one = by_raws s t in let two : syncs_in s all ≡ syncs_in s (take n all ++ raw ∷ next.0) = ap (syncs_in s) split in omega (arith, one, two))

  one_more : (b : Bool) → is_sync raw ≡ b → (s : ℕ)
      → acknowledged_by s (cond b (Acknowledge (sync_sender raw) (sync_number raw) ∷ t) t) ≡ syncs_in s (take n all ++ raw ∷ [])
  one_more true sync s = let more = grown add_up by_raws words senders few [] (take n all) next.0 raw t acks ordered sync s in omega (arith, more)
  one_more false other s = let more = passed add_up by_raws words senders few [] (take n all) next.0 raw t acks other s in omega (arith, more)

  pub settled_more : take (n + 1) (raws_by (acknowledged raw t)) ≡ take n all ++ raw ∷ []
  settled_more = ap (λ (l : List Raw). take (n + 1) l) (acknowledged_keeps raws_by (λ s k u. refl) raw t) ∙ take_more all n raw (there all next.0 n raw next.1)

  pub unsettled_less : drop n all ≡ raw ∷ drop (n + 1) (raws_by (acknowledged raw t))
  unsettled_less =
      let suc_is : n + 1 ≡ suc n = omega arith in
      next.1 ∙ ap (λ (l : List Raw). raw ∷ l)
      (sym (ap (λ (l : List Raw). drop (n + 1) l) (acknowledged_keeps raws_by (λ s k u. refl) raw t) ∙ ap (λ (k : ℕ). drop k all) suc_is ∙ drop_more all next.0 n raw next.1))

  pub still_deferring : IsDeferring (acknowledged raw t) (n + 1)
  still_deferring = record {
    few =
        let long : taken_by (acknowledged raw t) ≡ taken_by t = acknowledged_keeps taken_by (λ s k u. refl) raw t in
        let many = counted t in
        let low = within all next.0 n raw next.1 in
        omega (arith, long, many, low);
    current = λ s. one_more (is_sync raw) refl s ∙ ap (syncs_in s) (sym settled_more);
  }

-- ---- some more are taken

take_front : {A : Type 0} (xs ys : List A) (n : ℕ) → n ≤ length xs → take n (xs ++ ys) ≡ take n xs
take_front xs ys zero few = refl
take_front [] ys (suc n) few = absurd (omega (arith, few))
take_front (x ∷ xs) ys (suc n) few = ap (λ l. x ∷ l) (take_front xs ys n (omega (arith, few)))

drop_front : {A : Type 0} (xs ys : List A) (n : ℕ) → n ≤ length xs → drop n (xs ++ ys) ≡ drop n xs ++ ys
drop_front xs ys zero few = refl
drop_front [] ys (suc n) few = absurd (omega (arith, few))
drop_front (x ∷ xs) ys (suc n) few = drop_front xs ys n (omega (arith, few))
