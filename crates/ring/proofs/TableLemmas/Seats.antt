-- Which seat has which events, as the run grows and as seats are split and joined.
use Rattle.std.proofs.Common.{◌≡◌, ◌≢◌, ◌⊎◌, ℕ, zero, suc, Bool, false, cond, eqb, List, [], ◌∷◌, ◌++◌, length, set, refl, sym, ap, ◌∙◌, subst, ⊎_elim, inl, inr, eq-eqb, ne_eqb}
use mathlib.Core.Option.{some, some-injective, some-ne-none}
use mathlib.Core.Logic.{dite}
use native.Mathlib.Decide.{ℕ_discrete}
use lib.ListN.{get_elem?}
use Rattle.atomic_table.proofs.Lists.{set_else, at_set, at_longer, at_last}
use Rattle.ring.specs.Runs.{Who, Event, Run, same, Ring}
use Rattle.ring.specs.table.{Participant, WentOn, HasTrails, SitAt, Any, Among}
use Rattle.ring.proofs.TableLemmas.Trails.{same_not, trail_else}

-- A run goes on by another's step.
pub went_on_else : (who w : Who) (e : Event) (older run : Run) → who ≢ w → WentOn who older run → WentOn who older ((w, e) ∷ run)
went_on_else who w e older run ne was = record {
  newer = (w, e) ∷ was.newer;
  run_is = ap (λ (l : Run). (w, e) ∷ l) was.run_is;
  of_others = trail_else who w e was.newer ne ∙ was.of_others;
}

pub went_on_none : (who : Who) (run : Run) → WentOn who run run
went_on_none who run = record { newer = []; run_is = refl; of_others = refl }

-- those at another seat keep their trails
pub trails_else : (ring : Ring) (seat : Who → ℕ) (i : ℕ) (w : Who) (e : Event) (run : Run) (hs : List Participant) → SitAt seat i hs → seat w ≢ i → HasTrails ring run hs → HasTrails ring ((w, e) ∷ run) hs
trails_else ring seat i w e run [] sit ne has = tt
trails_else ring seat i w e run (h ∷ hs) sit ne has =
    let other : h.who ≢ w = (λ (is : h.who ≡ w). ne (ap seat (sym is) ∙ sit.0)) in (
      record { ring_is = has.0.ring_is; known = has.0.known; trail = trail_else h.who w e run other ∙ has.0.trail; went_on = went_on_else h.who w e h.history run other has.0.went_on },
      trails_else ring seat i w e run hs sit.1 ne has.1,
    )

-- None of these is w.
abbrev pub Without : Who → List Participant → Type 0
Without w [] = Unit {0}
Without w (h ∷ hs) = (same h.who w ≡ false) × Without w hs

-- the seats once w has the seat i
abbrev pub moved_to : Who → ℕ → (Who → ℕ) → Who → ℕ
moved_to w i seat u = cond (same u w) i (seat u)

pub sit_without : (w : Who) (k : ℕ) (seat : Who → ℕ) (i : ℕ) (hs : List Participant) → Without w hs → SitAt seat i hs → SitAt (moved_to w k seat) i hs
sit_without w k seat i [] apart sit = tt
sit_without w k seat i (h ∷ hs) apart sit = (ap (λ (b : Bool). cond b k (seat h.who)) apart.0 ∙ sit.0, sit_without w k seat i hs apart.1 sit.1)

pub sit_else : (w : Who) (k : ℕ) (seat : Who → ℕ) (i : ℕ) (hs : List Participant) → seat w ≢ i → SitAt seat i hs → SitAt (moved_to w k seat) i hs
sit_else w k seat i [] ne sit = tt
sit_else w k seat i (h ∷ hs) ne sit = (ap (λ (b : Bool). cond b k (seat h.who)) (same_not h.who w (λ is. ne (ap seat (sym is) ∙ sit.0))) ∙ sit.0, sit_else w k seat i hs ne sit.1)

-- the seats once all of the seat k have moved to the seat i
abbrev pub taken_in : ℕ → ℕ → (Who → ℕ) → Who → ℕ
taken_in k i seat u = cond (eqb (seat u) k) i (seat u)

pub sit_taken : (k i : ℕ) (seat : Who → ℕ) (hs : List Participant) → SitAt seat k hs → SitAt (taken_in k i seat) i hs
sit_taken k i seat [] sit = tt
sit_taken k i seat (h ∷ hs) sit = (ap (λ (b : Bool). cond b i (seat h.who)) (eq-eqb (seat h.who) k sit.0), sit_taken k i seat hs sit.1)

pub sit_stays : (k i j : ℕ) (seat : Who → ℕ) (hs : List Participant) → j ≢ k → SitAt seat j hs → SitAt (taken_in k i seat) j hs
sit_stays k i j seat [] ne sit = tt
sit_stays k i j seat (h ∷ hs) ne sit = (ap (λ (b : Bool). cond b i (seat h.who)) (ne_eqb (seat h.who) k (λ e. ne (sym sit.0 ∙ e))) ∙ sit.0, sit_stays k i j seat hs ne sit.1)

pub sit_append : (seat : Who → ℕ) (i : ℕ) (hs gs : List Participant) → SitAt seat i hs → SitAt seat i gs → SitAt seat i (hs ++ gs)
sit_append seat i [] gs a b = b
sit_append seat i (h ∷ hs) gs a b = (a.0, sit_append seat i hs gs a.1 b)

pub trails_append : (ring : Ring) (run : Run) (hs gs : List Participant) → HasTrails ring run hs → HasTrails ring run gs → HasTrails ring run (hs ++ gs)
trails_append ring run [] gs a b = b
trails_append ring run (h ∷ hs) gs a b = (a.0, trails_append ring run hs gs a.1 b)

-- an element of a longer list is an old one, or the new one at its end
pub at_snoc_index : {A : Type 0} (l : List A) (a b : A) (j : ℕ) → get_elem? (l ++ a ∷ []) j ≡ some b → (get_elem? l j ≡ some b) ⊎ ((j ≡ length l) × (a ≡ b))
at_snoc_index [] a b zero e = inr (refl, some-injective a b e)
at_snoc_index [] a b (suc j) e = absurd (some-ne-none b (sym e))
at_snoc_index (x ∷ xs) a b zero e = inl e
at_snoc_index (x ∷ xs) a b (suc j) e = ⊎_elim inl (λ t. inr (ap suc t.0, t.1)) (at_snoc_index xs a b j e)

-- those of a view that was set, or of another
pub seated_after : (ring : Ring) (run : Run) (seat : Who → ℕ) (views : List (List Participant)) (id : ℕ) (w : List Participant) → SitAt seat id w × HasTrails ring run w
    → (j : ℕ) (v : List Participant) → (j ≢ id → get_elem? views j ≡ some v → SitAt seat j v × HasTrails ring run v) → get_elem? (set views id w) j ≡ some v → SitAt seat j v × HasTrails ring run v
seated_after ring run seat views id w here j v else got = ⊎_elim
    (λ (own : (j ≡ id) × (w ≡ v)). subst (λ (t : ℕ × List Participant). SitAt seat t.0 t.1 × HasTrails ring run t.1) (λ q. (sym own.0 q, own.1 q)) here)
    (λ (other : (j ≢ id) × (get_elem? views j ≡ some v)). else other.0 other.1)
    (at_set views id j w v got)

-- ---- one of those who sit at a seat

-- Something set in place of another is there.
pub set_there : {A : Type 0} (l : List A) (i : ℕ) (a b : A) → get_elem? l i ≡ some a → get_elem? (set l i b) i ≡ some b
set_there [] i a b e = absurd (some-ne-none a (sym e))
set_there (x ∷ xs) zero a b e = refl
set_there (x ∷ xs) (suc i) a b e = set_there xs i a b e

any_left : (P : Participant → Type 0) (hs gs : List Participant) → Any P hs → Any P (hs ++ gs)
any_left P [] gs one = absurd one
any_left P (h ∷ hs) gs (inl here) = inl here
any_left P (h ∷ hs) gs (inr more) = inr (any_left P hs gs more)

any_right : (P : Participant → Type 0) (hs gs : List Participant) → Any P gs → Any P (hs ++ gs)
any_right P [] gs one = one
any_right P (h ∷ hs) gs one = inr (any_right P hs gs one)

pub same_place : (views : List (List Participant)) (i : ℕ) (v w : List Participant) → get_elem? views i ≡ some v → (P : Participant → Type 0) (j : ℕ) → j ≡ i → get_elem? views j ≡ some w → Any P w → Any P v
same_place views i v w at P j is there one = subst (Any P) (some-injective w v (sym there ∙ ap (get_elem? views) is ∙ at)) one

-- A seat's views change, and what held of one of them still does.
pub among_step : (P : Participant → Type 0) (views : List (List Participant)) (id : ℕ) (v w : List Participant) → get_elem? views id ≡ some v → (Any P v → Any P w) → Among P views → Among P (set views id w)
among_step P views id v w at keeps one = dite (ℕ_discrete one.place id)
    (λ here. record { place = id; there = w; at = set_there views id v w at; one = keeps (same_place views id v one.there at P one.place here one.at one.one) })
    (λ else. record { place = one.place; there = one.there; at = set_else views id one.place w else ∙ one.at; one = one.one })

-- one of a seat goes to a new one
pub among_parted : (P : Participant → Type 0) (views : List (List Participant)) (id : ℕ) (v left : List Participant) (one : Participant) → get_elem? views id ≡ some v → (Any P v → Any P left ⊎ P one) → Among P views
    → Among P (set views id left ++ (one ∷ []) ∷ [])
among_parted P views id v left one at parted among = dite (ℕ_discrete among.place id)
    (λ here. ⊎_elim
    (λ (rest : Any P left). record { place = id; there = left; at = at_longer (set views id left) ((one ∷ []) ∷ []) id left (set_there views id v left at); one = rest })
    (λ (its : P one). record { place = length (set views id left); there = one ∷ []; at = at_last (set views id left) (one ∷ []) (length (set views id left)) refl; one = inl its })
    (parted (same_place views id v among.there at P among.place here among.at among.one)))
    (λ else. record { place = among.place; there = among.there; at = at_longer (set views id left) ((one ∷ []) ∷ []) among.place among.there (set_else views id among.place left else ∙ among.at); one = among.one })

-- a seat takes in all of another
pub among_joined : (P : Participant → Type 0) (views : List (List Participant)) (id other : ℕ) (v w : List Participant) → get_elem? views id ≡ some v → other ≢ id → get_elem? (set views id (w ++ v)) other ≡ some w
    → Among P views → Among P (set (set views id (w ++ v)) other [])
among_joined P views id other v w at two there one =
    let theirs : get_elem? views other ≡ some w = sym (set_else views id other (w ++ v) two) ∙ there in
    let both : get_elem? (set (set views id (w ++ v)) other []) id ≡ some (w ++ v) = set_else (set views id (w ++ v)) other id [] (λ e. two (sym e)) ∙ set_there views id v (w ++ v) at in
    dite (ℕ_discrete one.place id)
    (λ here. record { place = id; there = w ++ v; at = both; one = any_right P w v (same_place views id v one.there at P one.place here one.at one.one) })
    (λ else. dite (ℕ_discrete one.place other)
    (λ here. record { place = id; there = w ++ v; at = both; one = any_left P w v (same_place views other w one.there theirs P one.place here one.at one.one) })
    (λ away. record { place = one.place; there = one.there; at = set_else (set views id (w ++ v)) other one.place [] away ∙ set_else views id one.place (w ++ v) else ∙ one.at; one = one.one }))
