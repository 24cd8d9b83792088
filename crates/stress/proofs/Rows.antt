-- The senders of a run in the order of their numbers, by what never changes of them.
use Rattle.std.proofs.Common.{◌≡◌, ℕ, zero, suc, ◌≤◌, List, [], ◌∷◌, length, length-append, Some, refl, sym, ap, ◌∙◌, subst, ⊎_elim, slice_index_or, arith}
use Rattle.std.proofs.lemmas.List.{length-map}
use Rattle.std.proofs.lemmas.List.Elements.{All-push}
use Rattle.std.specs.Prelude.{slice_get}
use Rattle.std.specs.List.{All}
use Rattle.ringcore.specs.world.Laws.{own_batches}
use Rattle.ring.specs.Rings.{RingValue}
use Rattle.ring.specs.NewRings.{new_sender, new_senders}
use Rattle.ring.specs.sender.Senders.{SenderValue}
use Rattle.ring.specs.Finishing.{AreAll}
use Rattle.stress.specs.Plans.{PlanValue, planned}
use Rattle.stress.specs.Workers.{WorkerValue, Assignment, assignment, assignments, assignment_of, assignments_of, IsNew, HasSent, HaveSent}
use Rattle.stress.proofs.Asked.{at_last}

some_one : {A : Type 0} (a b : A) → Some a ≡ Some b → a ≡ b
some_one a b is = cc

many_new : (ring : RingValue) (n : ℕ) → length (new_senders ring n) ≡ n
many_new ring zero = refl
many_new ring (suc n) = let e = many_new ring n in length-append (new_senders ring n) (new_sender ring n ∷ []) ∙ (omega (arith, e))

at_new : (ring : RingValue) (n k : ℕ) (s : SenderValue) → slice_get (new_senders ring n) k ≡ Some s → s ≡ new_sender ring k
at_new ring zero k s at = absurd (cc)
at_new ring (suc n) k s at =
    ⊎_elim
    (λ (old : slice_get (new_senders ring n) k ≡ Some s). at_new ring n k s old)
    (λ (new : (k ≡ length (new_senders ring n)) × (new_sender ring n ≡ s)). sym new.1 ∙ ap (new_sender ring) (sym (new.0 ∙ many_new ring n)))
    (at_last (new_senders ring n) (new_sender ring n) s k at)

abbrev rest_of : List Assignment → List Assignment
rest_of [] = []
rest_of (p ∷ ps) = ps

pub rings_of : (ring : RingValue) (l : List SenderValue) → ((k : ℕ) (s : SenderValue) → slice_get l k ≡ Some s → s.ring ≡ ring) → All (λ s. s.ring ≡ ring) l
rings_of ring [] rings k d less = absurd (omega (arith, less))
rings_of ring (s ∷ l) rings zero d less = rings 0 s refl
rings_of ring (s ∷ l) rings (suc k) d less = rings_of ring l (λ j t at. rings (suc j) t at) k d (omega (arith, less))

module _ (plan : PlanValue) where
  -- a place of the one row is that of the other
  same_place : (xs ys : List SenderValue) → assignments_of plan xs ≡ assignments_of plan ys → (k : ℕ) (x : SenderValue) → slice_get xs k ≡ Some x
      → (y : SenderValue) × (slice_get ys k ≡ Some y) × (assignment_of plan x ≡ assignment_of plan y)
  same_place [] ys e k x at = absurd (cc)
  same_place (a ∷ xs) [] e k x at = let l = ap length e in absurd (omega (arith, l))
  same_place (a ∷ xs) (b ∷ ys) e zero x at = (b, refl, ap (assignment_of plan) (sym (some_one a x at)) ∙ ap (λ l. slice_index_or l 0 (assignment_of plan a)) e)
  same_place (a ∷ xs) (b ∷ ys) e (suc k) x at = same_place xs ys (ap rest_of e) k x at

  on_row : (ring : RingValue) (ws : List WorkerValue) (ss : List SenderValue) → assignments ws ≡ assignments_of plan ss → ((k : ℕ) (s : SenderValue) → slice_get ss k ≡ Some s → s.ring ≡ ring)
      → All (λ w. (w.plan ≡ plan) × (w.sender.ring ≡ ring)) ws
  on_row ring [] ss e rings k d less = absurd (omega (arith, less))
  on_row ring (w ∷ ws) [] e rings k d less = let l = ap length e in absurd (omega (arith, l))
  on_row ring (w ∷ ws) (s ∷ ss) e rings zero d less =
      let first : assignment w ≡ assignment_of plan s = ap (λ l. slice_index_or l 0 (assignment w)) e in
      (ap (λ (p : Assignment). p.plan) first, ap (λ (p : Assignment). p.ring) first ∙ rings 0 s refl)
  on_row ring (w ∷ ws) (s ∷ ss) e rings (suc k) d less = on_row ring ws ss (ap rest_of e) (λ j t at. rings (suc j) t at) k d (omega (arith, less))

  pub workers_on : (ring : RingValue) (n : ℕ) (ws : List WorkerValue) → assignments ws ≡ assignments_of plan (new_senders ring n)
      → All (λ w. (w.plan ≡ plan) × (w.sender.ring ≡ ring)) ws
  workers_on ring n ws e = on_row ring ws (new_senders ring n) e (λ k s at. ap (λ (t : SenderValue). t.ring) (at_new ring n k s at))

  pub workers_in : (ring : RingValue) (n : ℕ) (ws : List WorkerValue) → assignments ws ≡ assignments_of plan (new_senders ring n) → All (λ w. w.sender.ring ≡ ring) ws
  workers_in ring n ws e k d less = (workers_on ring n ws e k d less).1

  pub many_workers : (ring : RingValue) (n : ℕ) (ws : List WorkerValue) → assignments ws ≡ assignments_of plan (new_senders ring n) → length ws ≡ n
  many_workers ring n ws e = sym (length-map ws assignment) ∙ (ap length e ∙ (length-map (new_senders ring n) (assignment_of plan) ∙ many_new ring n))

  pub all_new : (ring : RingValue) (n : ℕ) → n ≤ plan.senders → All (IsNew plan) (new_senders ring n)
  all_new ring zero less = λ k d none. absurd (omega (arith, none))
  all_new ring (suc n) less = All-push (IsNew plan) (new_senders ring n) (new_sender ring n) (all_new ring n (omega (arith, less))) (less, refl)

  module _ (ring : RingValue) (all : List SenderValue) (row : assignments_of plan all ≡ assignments_of plan (new_senders ring plan.senders)) (many : ring.made_with.senders ≡ plan.senders) where
    pub all_of : AreAll ring all
    all_of = record {
      many = sym (length-map all (assignment_of plan)) ∙ (ap length row ∙ (length-map (new_senders ring plan.senders) (assignment_of plan) ∙ (many_new ring plan.senders ∙ sym many)));
      each = λ k s at.
          let there = same_place all (new_senders ring plan.senders) row k s at in
          let new = at_new ring plan.senders k there.0 there.1 in
          (ap (λ (p : Assignment). p.ring) there.2 ∙ ap (λ (t : SenderValue). t.ring) new, ap (λ (p : Assignment). p.number) there.2 ∙ ap (λ (t : SenderValue). t.number) new);
    }

    pub rings : All (λ s. s.ring ≡ ring) all
    rings = rings_of ring all (λ k s at. (all_of.each k s at).0)

    pub sent_of : All (HasSent plan) all → HaveSent plan all
    sent_of sent k s at =
        let number : s.number ≡ k = (all_of.each k s at).1 in
        subst (λ (n : ℕ). own_batches n s.trail ≡ planned plan n plan.batches) number (sent_at all sent k s at)
      where
        sent_at : (l : List SenderValue) → All (HasSent plan) l → (j : ℕ) (t : SenderValue) → slice_get l j ≡ Some t → HasSent plan t
        sent_at [] has j t at = absurd (cc)
        sent_at (x ∷ xs) has zero t at = subst (HasSent plan) (some_one x t at) (has 0 x (omega arith))
        sent_at (x ∷ xs) has (suc j) t at = sent_at xs (λ i d less. has (suc i) d (omega (arith, less))) j t at
