-- A seat's trail, as the run grows.
use Rattle.std.proofs.Common.{◌≡◌, ◌≢◌, ◌⊎◌, Bool, true, false, cond, true≢false, [], ◌∷◌, ◌++◌, refl, sym, ap, ◌∙◌, ⊎_elim, inl, inr, eq-eqb, eqb-true}
use Rattle.std.proofs.lemmas.List.{append_cancel_right}
use Rattle.std.proofs.lemmas.Bool.{cases_Bool, false_from_ne_true}
use Rattle.ring.specs.Runs.{Who, Consumer, Sender, Event, Trail, Run, same, trail_of}

pub same_refl : (u : Who) → same u u ≡ true
same_refl Consumer = refl
same_refl (Sender s) = eq-eqb s s refl

pub same_is : (u v : Who) → same u v ≡ true → u ≡ v
same_is Consumer Consumer is = refl
same_is Consumer (Sender t) is = absurd (cc)
same_is (Sender s) Consumer is = absurd (cc)
same_is (Sender s) (Sender t) is = ap Sender (eqb-true s t is)

pub same_not : (u v : Who) → u ≢ v → same u v ≡ false
same_not u v ne = false_from_ne_true (same u v) (λ is. ne (same_is u v is))

pub alike : (u v : Who) → (u ≡ v) ⊎ (u ≢ v)
alike u v = ⊎_elim (λ e. inl (same_is u v e)) (λ e. inr (λ is. true≢false (sym (same_refl u) ∙ ap (same u) is ∙ e))) (cases_Bool (same u v))

pub trail_here : (who : Who) (e : Event) (run : Run) → trail_of who ((who, e) ∷ run) ≡ e ∷ trail_of who run
trail_here who e run = ap (λ (b : Bool). cond b (e ∷ trail_of who run) (trail_of who run)) (same_refl who)

-- the trail in a run whose newest step is the participant's own
pub trail_own : (who : Who) (x : Who × Event) (run : Run) → x.0 ≡ who → trail_of who (x ∷ run) ≡ x.1 ∷ trail_of who run
trail_own who x run own = ap (λ (w : Who). trail_of who ((w, x.1) ∷ run)) own ∙ trail_here who x.1 run

pub trail_else : (who other : Who) (e : Event) (run : Run) → who ≢ other → trail_of who ((other, e) ∷ run) ≡ trail_of who run
trail_else who other e run ne = ap (λ (b : Bool). cond b (e ∷ trail_of who run) (trail_of who run)) (same_not who other ne)

pub trail_append : (u : Who) (a b : Run) → trail_of u (a ++ b) ≡ trail_of u a ++ trail_of u b
trail_append u [] b = refl
trail_append u (x ∷ xs) b = by_seat (same u x.0) (trail_append u xs b)
  where
    by_seat : (v : Bool) → trail_of u (xs ++ b) ≡ trail_of u xs ++ trail_of u b → cond v (x.1 ∷ trail_of u (xs ++ b)) (trail_of u (xs ++ b)) ≡ cond v (x.1 ∷ trail_of u xs) (trail_of u xs) ++ trail_of u b
    by_seat true e = ap (λ (t : Trail). x.1 ∷ t) e
    by_seat false e = e

pub not_empty : (e : Event) (t : Trail) → ◌≡◌ {A = Trail} (e ∷ t) [] → ⊥
not_empty e t is = cc

pub none_before : (a b : Trail) → a ++ b ≡ b → a ≡ []
none_before a b e = append_cancel_right a [] b e
