-- Two controls are the same or not.
use Rattle.std.proofs.Common.{◌≡◌, ◌≢◌, Bool, true, false, refl, sym, ap, ◌⊎◌, inl, inr}
use Rattle.std.proofs.lemmas.Bool.{cases_eq}
use Rattle.qindex.specs.declared.control.Control.{Control}
use Rattle.qindex.specs.Positions.{IndexValue}
use Rattle.ringcore.proofs.WorldLemmas.Lists.{off}

same_bool : (a b : Bool) → (a ≡ b) ⊎ (a ≢ b)
same_bool true true = inl refl
same_bool true false = inr (λ e. off (sym e))
same_bool false true = inr (λ e. off e)
same_bool false false = inl refl

same_index : (i j : IndexValue) → (i ≡ j) ⊎ (i ≢ j)
same_index i j = elim (cases_eq i.geometry j.geometry) [
  | inl g ↦ (elim (cases_eq i.number j.number) [
    | inl n ↦ inl (λ k. record { geometry = g k; number = n k })
    | inr not ↦ inr (λ e. not (ap (λ (x : IndexValue). x.number) e))
  ])
  | inr not ↦ inr (λ e. not (ap (λ (x : IndexValue). x.geometry) e))
]

pub same_control : (c d : Control) → (c ≡ d) ⊎ (c ≢ d)
same_control c d = elim (same_index c.prod d.prod) [
  | inl p ↦ (elim (same_index c.cons d.cons) [
    | inl q ↦ (elim (same_bool c.closed d.closed) [
      | inl r ↦ inl (λ k. record { prod = p k; cons = q k; closed = r k })
      | inr not ↦ inr (λ e. not (ap (λ (x : Control). x.closed) e))
    ])
    | inr not ↦ inr (λ e. not (ap (λ (x : Control). x.cons) e))
  ])
  | inr not ↦ inr (λ e. not (ap (λ (x : Control). x.prod) e))
]
