-- One of several participants who know the same run gets its own seat.
use Rattle.std.proofs.Common.{◌≡◌, ◌⊎◌, ℕ, Bool, cond, List, [], ◌∷◌, ap, ◌∙◌, subst, ⊎_elim, inl, inr}
use Rattle.std.proofs.lemmas.Bool.{cond_both}
use Rattle.ring.specs.table.{Splits, Participant, IsIn, HasTrails, SitAt, Any, RuleHolds, one_of_run, AllKnow, without}
use Rattle.ring.specs.Runs.{Who, Run, same, Ring}
use Rattle.ring.proofs.TableLemmas.Seats.{moved_to}
use Rattle.ring.proofs.TableLemmas.Meetings.{sits_here}
use Rattle.ring.proofs.TableLemmas.Steps.{parts_at}
use Rattle.ring.proofs.TableLemmas.Trails.{same_is}

-- ---- who sits at a seat

-- what one of those who know this run has
pub its_trail : (ring z : Ring) (now run : Run) (who : Who) (v : List Participant) → AllKnow z run v → HasTrails ring now v → Any (λ p. p.who ≡ who) v → IsIn ring now (one_of_run z run who)
its_trail ring z now run who [] all has one = absurd one
its_trail ring z now run who (p ∷ ps) all has (inl is) = subst (IsIn ring now) (all.0 ∙ ap (one_of_run z run) is) has.0
its_trail ring z now run who (p ∷ ps) all has (inr more) = its_trail ring z now run who ps all.1 has.1 more

-- ---- one less

sit_less : (who : Who) (new : ℕ) (seat : Who → ℕ) (i : ℕ) (v : List Participant) → SitAt seat i v → SitAt (moved_to who new seat) i (without who v)
sit_less who new seat i [] sit = tt
sit_less who new seat i (p ∷ ps) sit =
    let rest = sit_less who new seat i ps sit.1 in
    cond_both (same p.who who) (without who ps) (p ∷ without who ps) (SitAt (moved_to who new seat) i) (λ _. rest) (λ is. (ap (λ (b : Bool). cond b new (seat p.who)) is ∙ sit.0, rest))

trails_less : (ring : Ring) (run : Run) (who : Who) (v : List Participant) → HasTrails ring run v → HasTrails ring run (without who v)
trails_less ring run who [] has = tt
trails_less ring run who (p ∷ ps) has =
    let rest = trails_less ring run who ps has.1 in
    cond_both (same p.who who) (without who ps) (p ∷ without who ps) (HasTrails ring run) (λ _. rest) (λ _. (has.0, rest))

pub know_less : (ring : Ring) (run : Run) (who : Who) (v : List Participant) → AllKnow ring run v → AllKnow ring run (without who v)
know_less ring run who [] all = tt
know_less ring run who (p ∷ ps) all =
    let rest = know_less ring run who ps all.1 in
    cond_both (same p.who who) (without who ps) (p ∷ without who ps) (AllKnow ring run) (λ _. rest) (λ _. (all.0, rest))

-- P holds of one of those left, or of the one who leaves.
pub any_parted : (P : Participant → Type 0) (z : Ring) (run : Run) (who : Who) (v : List Participant) → AllKnow z run v → Any P v → Any P (without who v) ⊎ P (one_of_run z run who)
any_parted P z run who [] all one = absurd one
any_parted P z run who (p ∷ ps) all one = cond_both (same p.who who) (without who ps) (p ∷ without who ps) (λ l. Any P l ⊎ P (one_of_run z run who))
    (λ is. ⊎_elim (λ here. inr (subst P (all.0 ∙ ap (one_of_run z run) (same_is p.who who is)) here)) (any_parted P z run who ps all.1) one)
    (λ _. ⊎_elim (λ here. inl (inl here)) (λ more. ⊎_elim (λ rest. inl (inr rest)) inr (any_parted P z run who ps all.1 more)) one)

-- One of those who know this run gets its own seat.
pub lends_at : (ring z : Ring) (id : ℕ) (who : Who) (run : Run) (v : List Participant) → AllKnow z run v → Any (λ p. p.who ≡ who) v → Splits (RuleHolds ring) id v (without who v) (one_of_run z run who ∷ [])
lends_at ring z id who run v all one = parts_at ring id v (without who v) (one_of_run z run who) (λ seat new sit. (sits_here seat id who v sit one, sit_less who new seat id v sit))
    (λ now has. (its_trail ring z now run who v all has one, trails_less ring now who v has)) (λ P. any_parted P z run who v all)
