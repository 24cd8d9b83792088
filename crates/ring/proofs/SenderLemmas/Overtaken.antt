-- A sender that lost its exchange was overtaken by somebody else since its look.
use Rattle.std.proofs.Common.{◌≡◌, ◌≢◌, ◌⊎◌, ℕ, Bool, true, false, cond, List, [], ◌∷◌, ◌++◌, Result, Ok, Err, refl, sym, ap, subst, inl, inr, ◌∙◌, eq-eqb}
use Rattle.std.proofs.lemmas.Bool.{true≢false}
use Rattle.std.specs.Prelude.{IfErr}
use Rattle.ring.specs.Runs.{Raw, Control, Who, Consumer, Sender, Event, Lost, Run, same, trail_of, world, control}
use Rattle.ring.specs.sender.{SenderValue, Refused, Cause, Contended, Fits, HasBatchLeft, HasRoom, HasLookedAt, IsLost, IsContended, IsRefused}
use Rattle.progress.specs.Contention.{WasOvertaken}
use Rattle.progress.proofs.Controls.{same_control}

off : {X : Type 0} → false ≡ true → X
off e = absurd (true≢false (sym e))

-- ---- where it changed

same_seat : (who : Who) → same who who ≡ true
same_seat Consumer = refl
same_seat (Sender s) = eq-eqb s s refl

-- who took none of these steps didn't take the newest
not_own : (who : Who) (x : Who × Event) (xs : Run) → trail_of who (x ∷ xs) ≡ [] → (x.0 ≢ who) × (trail_of who xs ≡ [])
not_own who x xs none = by_seat (same who x.0) refl none
  where
    by_seat : (v : Bool) → same who x.0 ≡ v → cond v (x.1 ∷ trail_of who xs) (trail_of who xs) ≡ [] → (x.0 ≢ who) × (trail_of who xs ≡ [])
    by_seat true is none = absurd (cc)
    by_seat false is none = ((λ e. off (sym is ∙ ap (same who) e ∙ same_seat who)), none)

one_later : (g : ℕ) (who : Who) (older : Run) (x : Who × Event) (run : Run) → WasOvertaken g who older run → WasOvertaken g who older (x ∷ run)
one_later g who older x run (c, other) =
    (record { later = x ∷ c.later; who = c.who; event = c.event; earlier = c.earlier; run_is = ap (λ l. x ∷ l) c.run_is; changed = c.changed }, other)

overtaken_in : (g : ℕ) (who : Who) (older newer : Run) → trail_of who newer ≡ [] → control g (world (newer ++ older)) ≢ control g (world older) → WasOvertaken g who older (newer ++ older)
overtaken_in g who older [] none differs = absurd (differs refl)
overtaken_in g who older (x ∷ xs) none differs =
    let both = not_own who x xs none in
    by_step both.0 (same_control (control g (world (x ∷ (xs ++ older)))) (control g (world (xs ++ older)))) (overtaken_in g who older xs both.1)
  where
    by_step : x.0 ≢ who → (control g (world (x ∷ (xs ++ older))) ≡ control g (world (xs ++ older))) ⊎ (control g (world (x ∷ (xs ++ older))) ≢ control g (world (xs ++ older)))
        → (control g (world (xs ++ older)) ≢ control g (world older) → WasOvertaken g who older (xs ++ older)) → WasOvertaken g who older (x ∷ (xs ++ older))
    by_step other (inl stayed) rest = one_later g who older x (xs ++ older) (rest (λ e. differs (stayed ∙ e)))
    by_step other (inr changed) rest = (record { later = []; who = x.0; event = x.1; earlier = xs; run_is = refl; changed = changed }, other)

-- ---- a lost exchange

module _ (body : List Raw) (closes : Bool) (seen : Control) (s t : SenderValue) (looked : HasLookedAt seen s t) where
  overtaken : (u : SenderValue) → IsLost body closes seen t u → WasOvertaken s.ring.made_with.geometry (Sender s.number) t.history u.history
  overtaken u lost =
      let newer = lost.grew.went_on.newer in
      let g = s.ring.made_with.geometry in
      let run_is : u.history ≡ (Sender t.number, Lost body closes lost.found) ∷ (newer ++ t.history) =
      lost.grew.run_is ∙ ap (λ (r : Run). (Sender t.number, Lost body closes lost.found) ∷ r) lost.grew.went_on.run_is in
      let geometry : t.ring.made_with.geometry ≡ g = ap (λ (x : SenderValue). x.ring.made_with.geometry) looked.trail_is in
      let number : t.number ≡ s.number = ap (λ (x : SenderValue). x.number) looked.trail_is in
      let found : lost.found ≡ control g (world (newer ++ t.history)) =
      lost.found_is ∙ ap (λ (h : ℕ). control h (world u.history)) geometry ∙ ap (λ (r : Run). control g (world r)) run_is in
      let differs : control g (world (newer ++ t.history)) ≢ control g (world t.history) = (λ e. lost.other (found ∙ e ∙ sym looked.seen_is)) in
      let mine : Sender t.number ≡ Sender s.number = ap Sender number in
      let among = overtaken_in g (Sender t.number) t.history newer lost.grew.went_on.of_others differs in
      let whole = one_later g (Sender t.number) t.history (Sender t.number, Lost body closes lost.found) (newer ++ t.history) among in
      subst (λ (who : Who). WasOvertaken g who t.history u.history) mine (subst (λ (r : Run). WasOvertaken g (Sender t.number) t.history r) (sym run_is) whole)

  pub refused_then : Fits body closes s → HasBatchLeft s → HasRoom body closes s seen → {R : Type 0} (result : Result R Refused)
      → IfErr result (λ e. (e.cause ≡ Contended) × IsLost body closes seen t e.sender) → IfErr result (λ e. IsRefused body closes s e.cause e.sender)
  refused_then fits left room (Ok r) lost = tt
  refused_then fits left room (Err e) lost =
      subst (λ (c : Cause). IsRefused body closes s c e.sender) (sym lost.0)
      (let is : IsContended body closes s e.sender = record {
        fits = fits;
        left = left;
        seen = seen;
        room = room;
        after = t;
        looked = looked;
        lost = lost.1;
        overtaken = overtaken e.sender lost.1;
      } in is)
