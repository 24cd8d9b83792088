-- One more sender has asked.
use Rattle.std.proofs.Common.{◌≡◌, ◌⊎◌, ℕ, zero, suc, ◌≤◌, List, [], ◌∷◌, ◌++◌, length, length-append, Some, inl, inr, ⊎_elim, refl, sym, ap, ◌∙◌, subst, arith}
use Rattle.std.specs.Prelude.{slice_get}
use Rattle.ringcore.specs.declared.world.event.Event.TheVariants.{Ask}
use Rattle.ringcore.specs.world.Trails.{Trail}
use Rattle.ring.specs.sender.Senders.{SenderValue}
use Rattle.stress.specs.Reports.{HaveAsked}

some_one : {A : Type 0} (a b : A) → Some a ≡ Some b → a ≡ b
some_one a b is = cc

-- a place of a longer list is a place of the list, or the last
pub at_last : {A : Type 0} (xs : List A) (y z : A) (i : ℕ) → slice_get (xs ++ y ∷ []) i ≡ Some z → (slice_get xs i ≡ Some z) ⊎ ((i ≡ length xs) × (y ≡ z))
at_last [] y z zero at = inr (refl, some_one y z at)
at_last [] y z (suc i) at = absurd (cc)
at_last (x ∷ xs) y z zero at = inl at
at_last (x ∷ xs) y z (suc i) at =
    ⊎_elim
    (λ (old : slice_get xs i ≡ Some z). inl old)
    (λ (new : (i ≡ length xs) × (y ≡ z)). inr (ap suc new.0, new.1))
    (at_last xs y z i at)

within : {A : Type 0} (xs : List A) (i : ℕ) (x : A) → slice_get xs i ≡ Some x → i ≡ length xs → ⊥
within [] i x at end = absurd (cc)
within (y ∷ xs) zero x at end = absurd (omega (arith, end))
within (y ∷ xs) (suc i) x at end = within xs i x at (omega (arith, end))

pub none_asked : (most : ℕ) → HaveAsked most [] []
none_asked most = record { each = λ k s found at there. absurd (cc); many = refl }

pub one_more_asked : (most : ℕ) (senders : List SenderValue) (done : List ℕ) (sender : SenderValue) (found : ℕ) (older : Trail)
    → HaveAsked most senders done → found ≤ most → sender.trail ≡ Ask found ∷ older → HaveAsked most (senders ++ sender ∷ []) (done ++ found ∷ [])
one_more_asked most senders done sender found older before few newest = record {
  each = λ k s x at there.
      ⊎_elim
      (λ (old : slice_get senders k ≡ Some s).
      ⊎_elim
      (λ (known : slice_get done k ≡ Some x). before.each k s x old known)
      (λ (new : (k ≡ length done) × (found ≡ x)). absurd (within senders k s old (new.0 ∙ before.many)))
      (at_last done found x k there))
      (λ (last : (k ≡ length senders) × (sender ≡ s)).
      ⊎_elim
      (λ (known : slice_get done k ≡ Some x). absurd (within done k x known (last.0 ∙ sym before.many)))
      (λ (new : (k ≡ length done) × (found ≡ x)).
      (subst (λ (n : ℕ). n ≤ most) new.1 few, older, ap (λ (v : SenderValue). v.trail) (sym last.1) ∙ newest ∙ ap (λ (n : ℕ). Ask n ∷ older) new.1))
      (at_last done found x k there))
      (at_last senders sender s k at);
  many =
      let m = before.many in
      let a = length-append done (found ∷ []) in
      let b = length-append senders (sender ∷ []) in
      omega (arith, m, a, b);
}
