-- Senders that are the same except for what each knows of the run.
use Rattle.std.proofs.Common.{◌≡◌, ℕ, zero, suc, List, [], ◌∷◌, length, Some, refl, sym, ap, ◌∙◌}
use Rattle.std.proofs.lemmas.List.{length-map}
use Rattle.std.specs.Prelude.{slice_get, slice_set}
use Rattle.ring.specs.Rings.{RingValue}
use Rattle.ring.specs.sender.Senders.{SenderValue}
use Rattle.ring.specs.Finishing.{AreAll}
use Rattle.renewal.specs.Queues.{unknowing_sender, unknowing_senders}

-- ---- one after another

pub set_same : (xs : List SenderValue) (i : ℕ) (u v : SenderValue) → slice_get xs i ≡ Some u → unknowing_sender v ≡ unknowing_sender u → unknowing_senders (slice_set xs i v) ≡ unknowing_senders xs
set_same [] i u v at same = absurd (cc)
set_same (x ∷ xs) zero u v at same = let e : x ≡ u = cc in ap (λ (y : SenderValue). y ∷ unknowing_senders xs) (same ∙ sym (ap unknowing_sender e))
set_same (x ∷ xs) (suc i) u v at same = ap (λ (l : List SenderValue). unknowing_sender x ∷ l) (set_same xs i u v at same)

first_same : (x y : SenderValue) (xs ys : List SenderValue) → x ∷ xs ≡ y ∷ ys → x ≡ y
first_same x y xs ys e = cc

rest_same : (x y : SenderValue) (xs ys : List SenderValue) → x ∷ xs ≡ y ∷ ys → xs ≡ ys
rest_same x y xs ys e = cc

-- the one at the same place in the other list
pub record HasTwin (s : SenderValue) (ys : List SenderValue) (k : ℕ) : Type 0 where
  pub twin : SenderValue
  pub there : slice_get ys k ≡ Some twin
  pub same : unknowing_sender s ≡ unknowing_sender twin

pub has_twin : (xs ys : List SenderValue) → unknowing_senders xs ≡ unknowing_senders ys → (k : ℕ) (s : SenderValue) → slice_get xs k ≡ Some s → HasTwin s ys k
has_twin [] ys same k s at = absurd (cc)
has_twin (x ∷ xs) [] same k s at = absurd (cc)
has_twin (x ∷ xs) (y ∷ ys) same zero s at =
    let e : x ≡ s = cc in
    record { twin = y; there = refl; same = ap unknowing_sender (sym e) ∙ first_same (unknowing_sender x) (unknowing_sender y) (unknowing_senders xs) (unknowing_senders ys) same }
has_twin (x ∷ xs) (y ∷ ys) same (suc k) s at =
    let rest = has_twin xs ys (rest_same (unknowing_sender x) (unknowing_sender y) (unknowing_senders xs) (unknowing_senders ys) same) k s at in
    record { twin = rest.twin; there = rest.there; same = rest.same }

pub as_many : (xs ys : List SenderValue) → unknowing_senders xs ≡ unknowing_senders ys → length xs ≡ length ys
as_many xs ys same = sym (length-map xs unknowing_sender) ∙ ap length same ∙ length-map ys unknowing_sender

pub all_still : (ring : RingValue) (xs ys : List SenderValue) → unknowing_senders xs ≡ unknowing_senders ys → AreAll ring ys → AreAll ring xs
all_still ring xs ys same all = record {
  many = as_many xs ys same ∙ all.many;
  each = λ k s at.
      let t = has_twin xs ys same k s at in
      let its = all.each k t.twin t.there in
      (ap (λ (u : SenderValue). u.ring) t.same ∙ its.0, ap (λ (u : SenderValue). u.number) t.same ∙ its.1);
}
