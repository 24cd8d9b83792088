-- A step that the laws of ringcore allow keeps the rule, whatever its kind: its event is added at the end of
-- the run.
use Rattle.std.proofs.Common.{◌≡◌, ◌≢◌, ◌⊎◌, ℕ, Bool, cond, List, [], ◌∷◌, ◌++◌, length, set, refl, sym, ap, ◌∙◌, subst, ⊎_elim, inl, inr}
use Rattle.std.specs.Prelude.{slice_index, slice_set}
use Rattle.std.proofs.lemmas.List.{set-get_or}
use mathlib.Core.Option.{some}
use lib.ListN.{get_elem?}
use Rattle.ring.specs.table.{keeps, Allows, Splits, Joins, Participant, Holding, participant, IsIn, HasTrails, SitAt, Any, RuleHolds, Stands, ring_of, who_of, trail_of_first, history_of_first}
use Rattle.ring.specs.table.{IsAlone, IsOperation, Added}
use Rattle.atomic_table.proofs.Lists.{at_set}
use Rattle.ring.specs.Runs.{Who, Event, Trail, Run, trail_of, OnlyOf, Ring}
use Rattle.ringcore.specs.memory.Shadow.{AreAfter}
use Rattle.ring.proofs.TableLemmas.Trails.{same_refl, trail_here}
use Rattle.ring.proofs.TableLemmas.Seats.{trails_else, Without, moved_to, sit_without, sit_else, taken_in, sit_taken, sit_stays, sit_append, trails_append, at_snoc_index, went_on_none, seated_after}
use Rattle.ring.proofs.TableLemmas.Seats.{set_there, among_step, among_parted, among_joined}

-- What the laws have to provide: whenever the seat has this trail, the word may change like this, by an event
-- for which `says` holds with the word that was found.
abbrev pub MayStep : Ring → Who → Trail → ℕ → (ℕ → ℕ) → (ℕ → Event → Type 0) → Type 0
MayStep ring who trail i f says =
    (run : Run) (words : List ℕ) → Stands ring who trail run words
    → (e : Event) × says (slice_index words i) e × AreAfter ring ((who, e) ∷ run) (slice_set words i (f (slice_index words i)))
    × IsOperation ring run who e words (slice_set words i (f (slice_index words i)))

module _ (ring : Ring) (slots id : ℕ) (z : Ring) (who : Who) (trail : Trail) (history : Run) (i : ℕ) (f : ℕ → ℕ) (says : ℕ → Event → Type 0) (may : MayStep z who trail i f says) where
  abbrev me : Holding
  me = (participant z who trail history ∷ [], [])

  pub steps_at : Allows (RuleHolds ring) slots id me i f (Added z who trail history says)
  steps_at s k _ at _ =
      let mine = k.seated id (participant z who trail history ∷ []) at in
      let same : trail_of who k.run ≡ trail = mine.1.0.trail in
      let zn : z ≡ ring = mine.1.0.ring_is in
      let here : Stands ring who trail k.run s.words = record { limits = k.limits; after = k.after; only = k.only; known = mine.1.0.known; trail_is = same } in
      let now : Stands z who trail k.run s.words = subst (λ (r : Ring). Stands r who trail k.run s.words) (sym zn) here in
      let did = may k.run s.words now in
      let e : Event = did.0 in
      let longer : Run = (who, e) ∷ k.run in
      let words : List ℕ = slice_set s.words i (f (slice_index s.words i)) in
      let w : List Participant = participant z who (e ∷ trail) longer ∷ [] in
      let grown : trail_of who longer ≡ e ∷ trail = trail_here who e k.run ∙ ap (λ (t : Trail). e ∷ t) same in
      let after : AreAfter ring longer words = subst (λ (r : Ring). AreAfter r longer words) zn did.2 in
      let new : HasTrails ring longer w = (record { ring_is = zn; known = mine.1.0.known; trail = grown; went_on = went_on_none who longer }, tt) in
      let only : OnlyOf ring.senders longer = (mine.1.0.known, k.only) in
      let there : Stands ring who (e ∷ trail) longer words = record { limits = k.limits; after = after; only = only; known = mine.1.0.known; trail_is = grown } in (
        w,
        keeps,
        tt,
        record {
          limits = k.limits;
          run = longer;
          after = after;
          made = (s.words, k.made, subst (λ (r : Ring). IsOperation r k.run who e s.words words) zn did.3);
          only = only;
          seat = k.seat;
          seated = λ j v. seated_after ring longer k.seat s.views id w ((mine.0.0, tt), new) j v
              (λ ne was. let old = k.seated j v was in (old.0, trails_else ring k.seat j who e k.run v old.0 (λ same_seat. ne (sym same_seat ∙ mine.0.0)) old.1));
          newest = record { place = id; there = w; at = set_there s.views id (participant z who trail history ∷ []) w at; one = inl refl };
          everyone = λ u one. among_step (λ p. p.who ≡ u) s.views id (participant z who trail history ∷ []) w at (λ was. was) (k.everyone u one);
        },
        (e, k.run, did.1, refl, record { words = s.words; new_words = words; went_on = mine.1.0.went_on; before = now; after = subst (λ (r : Ring). Stands r who (e ∷ trail) longer words) (sym zn) there }),
      )

-- the same for a seat that is known to have a single participant
pub steps_as : (ring : Ring) (slots id : ℕ) (who : Who) (me : Holding) → IsAlone me who → (i : ℕ) (f : ℕ → ℕ) (says : ℕ → Event → Type 0)
    → MayStep (ring_of me.0) who (trail_of_first me.0) i f says
    → Allows (RuleHolds ring) slots id me i f (Added (ring_of me.0) (who_of me.0) (trail_of_first me.0) (history_of_first me.0) says)
steps_as ring slots id who me is i f says may =
    let z : Ring = ring_of me.0 in let t : Trail = trail_of_first me.0 in let h : Run = history_of_first me.0 in
    subst (λ (w : Who). Allows (RuleHolds ring) slots id me i f (Added z w t h says)) (sym (ap (λ (m : Holding). who_of m.0) is.me_is))
    (subst (λ (q : Holding). Allows (RuleHolds ring) slots id q i f (Added z who t h says)) (sym is.me_is) (steps_at ring slots id z who t h i f says may))

-- ---- a seat is split in two, and takes in another

-- one of a seat goes to a new seat, and the others stay
pub parts_at : (ring : Ring) (id : ℕ) (v left : List Participant) (one : Participant)
    → ((seat : Who → ℕ) (new : ℕ) → SitAt seat id v → (seat one.who ≡ id) × SitAt (moved_to one.who new seat) id left)
    → ((run : Run) → HasTrails ring run v → IsIn ring run one × HasTrails ring run left)
    → ((P : Participant → Type 0) → Any P v → Any P left ⊎ P one) → Splits (RuleHolds ring) id v left (one ∷ [])
parts_at ring id v left one sit has parted s k at =
    let mine = k.seated id v at in
    let new : ℕ = length (set s.views id left) in
    let seat : Who → ℕ = moved_to one.who new k.seat in
    let sits = sit k.seat new mine.0 in
    let trails = has k.run mine.1 in record {
      limits = k.limits;
      run = k.run;
      after = k.after;
      made = k.made;
      only = k.only;
      seat = seat;
      seated = λ j u there. ⊎_elim
          (seated_after ring k.run seat s.views id left (sits.1, trails.1) j u (λ ne was. let o = k.seated j u was in (sit_else one.who new k.seat j u (λ e. ne (sym e ∙ sits.0)) o.0, o.1)))
          (λ (last : (j ≡ new) × ((one ∷ []) ≡ u)). subst (λ (t : ℕ × List Participant). SitAt seat t.0 t.1 × HasTrails ring k.run t.1) (λ q. (sym last.0 q, last.1 q))
          ((ap (λ (b : Bool). cond b new (k.seat one.who)) (same_refl one.who), tt), (trails.0, tt)))
          (at_snoc_index (set s.views id left) (one ∷ []) u j there);
      newest = among_parted (λ p. p.history ≡ k.run) s.views id v left one at (parted (λ p. p.history ≡ k.run)) k.newest;
      everyone = λ u known. among_parted (λ p. p.who ≡ u) s.views id v left one at (parted (λ p. p.who ≡ u)) (k.everyone u known);
    }

-- the first of them
pub deals_at : (ring : Ring) (id : ℕ) (g : Participant) (hs : List Participant) → Without g.who hs → Splits (RuleHolds ring) id (g ∷ hs) hs (g ∷ [])
deals_at ring id g hs apart = parts_at ring id (g ∷ hs) hs g (λ seat new sit. (sit.0, sit_without g.who new seat id hs apart sit.1)) (λ run has. has) (λ P one. ⊎_elim inr inl one)

-- a seat takes in all of another
pub gathers_at : (ring : Ring) (id other : ℕ) (v w : List Participant) → Joins (RuleHolds ring) id v other w (w ++ v) []
gathers_at ring id other v w s k at two there =
    let both : List Participant = w ++ v in
    let seat : Who → ℕ = taken_in other id k.seat in
    let mine = k.seated id v at in
    let theirs = ⊎_elim (λ (t : (other ≡ id) × (both ≡ w)). absurd (two t.0)) (λ (t : (other ≢ id) × (get_elem? s.views other ≡ some w)). k.seated other w t.1) (at_set s.views id other both w there) in
    let all : SitAt seat id both × HasTrails ring k.run both =
    (sit_append seat id w v (sit_taken other id k.seat w theirs.0) (sit_stays other id id k.seat v (λ e. two (sym e)) mine.0), trails_append ring k.run w v theirs.1 mine.1) in record {
      limits = k.limits;
      run = k.run;
      after = k.after;
      made = k.made;
      only = k.only;
      seat = seat;
      seated = λ j u. seated_after ring k.run seat (set s.views id both) other [] (tt, tt) j u (λ away. seated_after ring k.run seat s.views id both all j u
          (λ ne was. let o = k.seated j u was in (sit_stays other id j k.seat u away o.0, o.1)));
      newest = among_joined (λ p. p.history ≡ k.run) s.views id other v w at two there k.newest;
      everyone = λ who one. among_joined (λ p. p.who ≡ who) s.views id other v w at two there (k.everyone who one);
    }

pub set_back : (ns : List ℕ) (i : ℕ) → slice_set ns i (slice_index ns i) ≡ ns
set_back ns i = set-get_or ns i 0
