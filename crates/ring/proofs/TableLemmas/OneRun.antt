-- The run of a table's rule is one: between two states it grows at its end, by the event of the seat that stepped.
use Rattle.std.proofs.Common.{◌≡◌, ◌≢◌, ◌⊎◌, ℕ, List, [], ◌∷◌, ◌++◌, length, length-append, refl, sym, ap, ◌∙◌, subst, ⊎_elim, inl, inr, arith}
use mathlib.Core.Option.{some-injective}
use lib.ListN.{get_elem?}
use Rattle.ring.specs.Runs.{Who, Event, Trail, Run, trail_of, IsOne, OnlyOf, Ring}
use Rattle.ring.specs.table.{Participant, participant, WentOn, HasTrails, Any, IsOneRun}
use Rattle.ring.proofs.TableLemmas.Trails.{alike, trail_here, trail_own, trail_else, trail_append, not_empty, none_before}

-- ---- lists

-- Nothing is its own proper extension.
not_longer : (a b : Trail) (e : Event) → b ≡ a ++ e ∷ b → ⊥
not_longer a b e is = let n : length b ≡ length (a ++ e ∷ b) = ap (λ (t : Trail). length t) is in let m = length-append a (e ∷ b) in omega (arith, n, m)

pub only_left : (senders : ℕ) (a b : Run) → OnlyOf senders (a ++ b) → OnlyOf senders a
only_left senders [] b all = tt
only_left senders (x ∷ xs) b all = (all.0, only_left senders xs b all.1)

nobody : (senders : ℕ) (n : Run) → OnlyOf senders n → ((u : Who) → IsOne senders u → trail_of u n ≡ []) → n ≡ []
nobody senders [] all none = refl
nobody senders (x ∷ xs) all none = absurd (not_empty _ _ (sym (trail_here x.0 x.1 xs) ∙ none x.0 all.0))

-- If the trails in two runs joined are those in the second, the first is empty.
all_told : (senders : ℕ) (a b : Run) → OnlyOf senders (a ++ b) → ((u : Who) → IsOne senders u → trail_of u (a ++ b) ≡ trail_of u b) → a ≡ []
all_told senders a b all told = nobody senders a (only_left senders a b all) (λ u one. none_before (trail_of u a) (trail_of u b) (sym (trail_append u a b) ∙ told u one))

-- A participant whose step is the run's newest knows all of it. Any other knows all of it, or the run before
-- that step went on from what it knows.
went_on_own : (x : Who × Event) (xs h : Run) → WentOn x.0 h (x ∷ xs) → x ∷ xs ≡ h
went_on_own x xs h on = by_newer on.newer on.run_is on.of_others
  where
    by_newer : (n : Run) → x ∷ xs ≡ n ++ h → trail_of x.0 n ≡ [] → x ∷ xs ≡ h
    by_newer [] is none = is
    by_newer (y ∷ ys) is none = let first : y ≡ x = cc in absurd (not_empty _ _ (sym (trail_own x.0 y ys (ap (λ (z : Who × Event). z.0) first)) ∙ none))

went_on_other : (u : Who) (x : Who × Event) (xs h : Run) → u ≢ x.0 → WentOn u h (x ∷ xs) → (x ∷ xs ≡ h) ⊎ WentOn u h xs
went_on_other u x xs h ne on = by_newer on.newer on.run_is on.of_others
  where
    by_newer : (n : Run) → x ∷ xs ≡ n ++ h → trail_of u n ≡ [] → (x ∷ xs ≡ h) ⊎ WentOn u h xs
    by_newer [] is none = inl is
    by_newer (y ∷ ys) is none =
        let first : y ≡ x = cc in
        let rest : xs ≡ ys ++ h = cc in
        inr record { newer = ys; run_is = rest; of_others = sym (trail_else u x.0 x.1 ys ne) ∙ ap (λ (z : Who × Event). trail_of u (z ∷ ys)) (sym first) ∙ none }

-- ---- two runs that only one participant may have made different

-- what this one knew is an older part of both
pub record Shares (u : Who) (a b : Run) : Type 0 where
  h : Run
  one : WentOn u h a
  two : WentOn u h b

module _ (senders : ℕ) (who : Who) where
  abbrev Agree : Run → Run → Type 0
  Agree a b = (u : Who) → IsOne senders u → trail_of u a ≡ trail_of u b

  abbrev Share : Run → Run → Type 0
  Share a b = (u : Who) → IsOne senders u → u ≢ who → Shares u a b

  -- A run that went on from the whole of the other is the same.
  no_further : (a b : Run) → OnlyOf senders b → Agree a b → (n : Run) → b ≡ n ++ a → a ≡ b
  no_further a b all agree n is =
      let none : n ≡ [] = all_told senders n a (subst (OnlyOf senders) is all) (λ u one. ap (trail_of u) (sym is) ∙ sym (agree u one)) in
      sym (is ∙ ap (λ (l : Run). l ++ a) none)

  same_runs : (a b : Run) → OnlyOf senders a → OnlyOf senders b → Agree a b → Share a b → a ≡ b
  same_runs [] b only_a only_b agree share = sym (nobody senders b only_b (λ u one. sym (agree u one)))
  same_runs (x ∷ xs) [] only_a only_b agree share = nobody senders (x ∷ xs) only_a agree
  same_runs (x ∷ xs) (y ∷ ys) only_a only_b agree share =
      by_first (alike x.0 who) (alike y.0 who) (same_runs xs ys only_a.1 only_b.1)
    where
      -- either is whole in what somebody else knew
      by_whole : (u : Who) → IsOne senders u → Shares u (x ∷ xs) (y ∷ ys) → (x ∷ xs) ≡ (y ∷ ys) → Shares u xs ys
      by_whole u one s is = record { h = xs; one = record { newer = []; run_is = refl; of_others = refl }; two = record { newer = []; run_is = (let rest : ys ≡ xs = cc in rest); of_others = refl } }

      from_a : (h : Run) → x ∷ xs ≡ h → (u : Who) → WentOn u h (y ∷ ys) → x ∷ xs ≡ y ∷ ys
      from_a h is u on = no_further (x ∷ xs) (y ∷ ys) only_b agree on.newer (on.run_is ∙ ap (λ (l : Run). on.newer ++ l) (sym is))

      from_b : (h : Run) → y ∷ ys ≡ h → (u : Who) → WentOn u h (x ∷ xs) → x ∷ xs ≡ y ∷ ys
      from_b h is u on = sym (no_further (y ∷ ys) (x ∷ xs) only_a (λ v one. sym (agree v one)) on.newer (on.run_is ∙ ap (λ (l : Run). on.newer ++ l) (sym is)))

      behind : x.0 ≡ who → y.0 ≡ who → (u : Who) → IsOne senders u → u ≢ who → Shares u xs ys
      behind mine yours u one ne =
          let s = share u one ne in
          ⊎_elim (λ (is : x ∷ xs ≡ s.h). by_whole u one s (from_a s.h is u s.two))
          (λ (on : WentOn u s.h xs). ⊎_elim (λ (is : y ∷ ys ≡ s.h). by_whole u one s (from_b s.h is u s.one))
          (λ (too : WentOn u s.h ys). record { h = s.h; one = on; two = too })
          (went_on_other u y ys s.h (λ e. ne (e ∙ yours)) s.two))
          (went_on_other u x xs s.h (λ e. ne (e ∙ mine)) s.one)

      agree_here : x.0 ≡ who → y.0 ≡ who → ◌≡◌ {A = Trail} (x.1 ∷ trail_of who xs) (y.1 ∷ trail_of who ys)
      agree_here mine yours = sym (trail_own who x xs mine) ∙ agree who (subst (IsOne senders) mine only_a.0) ∙ trail_own who y ys yours

      agree_behind : x.0 ≡ who → y.0 ≡ who → Agree xs ys
      agree_behind mine yours u one = ⊎_elim
          (λ (is : u ≡ who). let rest : trail_of who xs ≡ trail_of who ys = (let e = agree_here mine yours in cc) in ap (λ (w : Who). trail_of w xs) is ∙ rest ∙ ap (λ (w : Who). trail_of w ys) (sym is))
          (λ (ne : u ≢ who). sym (trail_else u x.0 x.1 xs (λ e. ne (e ∙ mine))) ∙ agree u one ∙ trail_else u y.0 y.1 ys (λ e. ne (e ∙ yours)))
          (alike u who)

      by_first : (x.0 ≡ who) ⊎ (x.0 ≢ who) → (y.0 ≡ who) ⊎ (y.0 ≢ who) → (Agree xs ys → Share xs ys → xs ≡ ys) → x ∷ xs ≡ y ∷ ys
      by_first (inr ne) d before = let s = share x.0 only_a.0 ne in from_a s.h (went_on_own x xs s.h s.one) x.0 s.two
      by_first (inl mine) (inr ne) before = let s = share y.0 only_b.0 ne in from_b s.h (went_on_own y ys s.h s.two) y.0 s.one
      by_first (inl mine) (inl yours) before =
          let event : x.1 ≡ y.1 = (let e = agree_here mine yours in cc) in
          let rest : xs ≡ ys = before (agree_behind mine yours) (behind mine yours) in
          (λ k. let l : Run = ((mine ∙ sym yours) k, event k) ∷ rest k in l)

  -- a run in which this one has one event more, and with which all others share what they knew
  module _ (e : Event) (old : Run) where
    -- The older run has nothing of this participant after the newer one's step.
    not_whole : (new h : Run) → trail_of who new ≡ e ∷ trail_of who old → new ≡ h → (u : Who) → WentOn u h old → ⊥
    not_whole new h mine whole u on = not_longer (trail_of who on.newer) (trail_of who old) e
        (ap (trail_of who) (on.run_is ∙ ap (λ (l : Run). on.newer ++ l) (sym whole)) ∙ trail_append who on.newer new ∙ ap (λ (t : Trail). trail_of who on.newer ++ t) mine)

    one_more : (new : Run) → OnlyOf senders old → OnlyOf senders new → trail_of who new ≡ e ∷ trail_of who old → ((u : Who) → IsOne senders u → u ≢ who → trail_of u old ≡ trail_of u new) → Share old new
        → new ≡ (who, e) ∷ old
    one_more [] only_o only_n mine others share = absurd (not_empty _ _ (sym mine))
    one_more (y ∷ ys) only_o only_n mine others share = by_first (alike y.0 who)
      where
        by_first : (y.0 ≡ who) ⊎ (y.0 ≢ who) → y ∷ ys ≡ (who, e) ∷ old
        by_first (inr ne) =
            let s = share y.0 only_n.0 ne in absurd (not_whole (y ∷ ys) s.h mine (went_on_own y ys s.h s.two) y.0 s.one)
        by_first (inl yours) =
            let both : ◌≡◌ {A = Trail} (y.1 ∷ trail_of who ys) (e ∷ trail_of who old) = sym (trail_own who y ys yours) ∙ mine in
            let event : y.1 ≡ e = cc in
            let rest : trail_of who ys ≡ trail_of who old = cc in
            let agree : Agree old ys = (λ u one. ⊎_elim
            (λ (is : u ≡ who). ap (λ (w : Who). trail_of w old) is ∙ sym rest ∙ ap (λ (w : Who). trail_of w ys) (sym is))
            (λ (ne : u ≢ who). others u one ne ∙ trail_else u y.0 y.1 ys (λ k. ne (k ∙ yours)))
            (alike u who)) in
            let shared : Share old ys = (λ u one ne. let s = share u one ne in ⊎_elim
            (λ (whole : y ∷ ys ≡ s.h). absurd (not_whole (y ∷ ys) s.h mine whole u s.one))
            (λ (on : WentOn u s.h ys). record { h = s.h; one = s.one; two = on })
            (went_on_other u y ys s.h (λ k. ne (k ∙ yours)) s.two)) in
            let same : old ≡ ys = same_runs old ys only_o only_n.1 agree shared in
            (λ k. let l : Run = (yours k, event k) ∷ sym same k in l)

-- ---- two states of a table

record Known (u : Who) (a b : Run) : Type 0 where
  trails : trail_of u a ≡ trail_of u b
  shares : Shares u a b

known_in : (ring : Ring) (u : Who) (a b : Run) (hs : List Participant) → Any (λ p. p.who ≡ u) hs → HasTrails ring a hs → HasTrails ring b hs → Known u a b
known_in ring u a b [] one has too = absurd one
known_in ring u a b (p ∷ ps) (inl is) has too = subst (λ (w : Who). Known w a b) is record {
  trails = has.0.trail ∙ sym too.0.trail;
  shares = record { h = p.history; one = has.0.went_on; two = too.0.went_on };
}
known_in ring u a b (p ∷ ps) (inr more) has too = known_in ring u a b ps more has.1 too.1

pub is_one_run : IsOneRun
is_one_run ring s t before now id z who trail e older newer at then_at others =
    let mine = before.seated id (participant z who trail older ∷ []) at in
    let yours = now.seated id (participant z who (e ∷ trail) newer ∷ []) then_at in
    let known : (u : Who) → IsOne ring.senders u → u ≢ who → Known u before.run now.run = (λ u one ne.
    let sits = before.everyone u one in
    let away : sits.place ≢ id = (λ is.
    let here : sits.there ≡ participant z who trail older ∷ [] = some-injective sits.there (participant z who trail older ∷ []) (sym sits.at ∙ ap (get_elem? s.views) is ∙ at) in
    ⊎_elim (λ (w : who ≡ u). ne (sym w)) (λ none. none) (subst (Any (λ p. p.who ≡ u)) here sits.one)) in
    known_in ring u before.run now.run sits.there sits.one (before.seated sits.place sits.there sits.at).1 (now.seated sits.place sits.there (others sits.place away ∙ sits.at)).1) in
    one_more ring.senders who e before.run now.run before.only now.only (yours.1.0.trail ∙ ap (λ (l : Trail). e ∷ l) (sym mine.1.0.trail)) (λ u one ne. (known u one ne).trails) (λ u one ne. (known u one ne).shares)
