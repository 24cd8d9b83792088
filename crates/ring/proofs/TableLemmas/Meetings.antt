-- Two seats are joined for a load, and split again.
use Rattle.std.proofs.Common.{◌≡◌, ℕ, false, List, [], ◌∷◌, refl, sym, ap, ◌∙◌, subst, inl, inr}
use mathlib.Core.Option.{some, none}
use lib.ListN.{get_elem?}
use Rattle.ring.specs.table.{step, keeps, Allows, Splits, TableId, Participant, TableState, Holding, participant, WentOn, HasTrails, SitAt, Any, RuleHolds, Stands, ring_of, who_of, trail_of_first}
use Rattle.ring.specs.table.{history_of_first, IsAlone, AreMadeBy, without_first, first_alone, both_of, all_knowing, HasAll, AllSit, HaveMet, has_met, has_found, port_of, PortValue}
use Rattle.std.specs.Prelude.{slice_index}
use Rattle.qindex.specs.ControlWord.{control_in}
use Rattle.ringcore.specs.memory.Layout.{control_word}
use Rattle.ringcore.specs.memory.StepLaws.{Always, LooksByALoad}
use Rattle.ring.specs.Runs.{Who, Run, same, Ring, IsOne, Consumer, world, control}
use Rattle.ringcore.specs.memory.Shadow.{AreAfter}
use Rattle.ring.proofs.TableLemmas.Seats.{went_on_none, seated_after, same_place, among_step}
use Rattle.ring.proofs.TableLemmas.Steps.{deals_at, set_back}

-- ---- all participants of a seat know the run as it is

knowing_sit : (seat : Who → ℕ) (i : ℕ) (run : Run) (hs : List Participant) → SitAt seat i hs → SitAt seat i (all_knowing run hs)
knowing_sit seat i run [] sit = tt
knowing_sit seat i run (h ∷ hs) sit = (sit.0, knowing_sit seat i run hs sit.1)

knowing_trails : (ring : Ring) (run : Run) (hs : List Participant) → HasTrails ring run hs → HasTrails ring run (all_knowing run hs)
knowing_trails ring run [] has = tt
knowing_trails ring run (h ∷ hs) has =
    (record { ring_is = has.0.ring_is; known = has.0.known; trail = has.0.trail; went_on = went_on_none h.who run }, knowing_trails ring run hs has.1)

knowing_newest : (run : Run) (hs : List Participant) → Any (λ p. p.history ≡ run) hs → Any (λ p. p.history ≡ run) (all_knowing run hs)
knowing_newest run [] one = absurd one
knowing_newest run (h ∷ hs) one = inl refl

pub knowing_who : (who : Who) (run : Run) (hs : List Participant) → Any (λ p. p.who ≡ who) hs → Any (λ p. p.who ≡ who) (all_knowing run hs)
knowing_who who run [] one = absurd one
knowing_who who run (h ∷ hs) (inl is) = inl is
knowing_who who run (h ∷ hs) (inr more) = inr (knowing_who who run hs more)

pub sits_here : (seat : Who → ℕ) (id : ℕ) (who : Who) (v : List Participant) → SitAt seat id v → Any (λ p. p.who ≡ who) v → seat who ≡ id
sits_here seat id who [] sit one = absurd one
sits_here seat id who (p ∷ ps) sit (inl is) = ap seat (sym is) ∙ sit.0
sits_here seat id who (p ∷ ps) sit (inr more) = sits_here seat id who ps sit.1 more

-- If everyone sits at one seat, whoever sits somewhere sits there.
one_seat : (ring : Ring) (run : Run) (seat : Who → ℕ) (j id : ℕ) (P : Participant → Type 0) (there : List Participant) → SitAt seat j there → HasTrails ring run there → ((u : Who) → IsOne ring.senders u → seat u ≡ id) → Any P there → j ≡ id
one_seat ring run seat j id P [] sit has all one = absurd one
one_seat ring run seat j id P (p ∷ ps) sit has all (inl here) = sym sit.0 ∙ all p.who has.0.known
one_seat ring run seat j id P (p ∷ ps) sit has all (inr more) = one_seat ring run seat j id P ps sit.1 has.1 all more

-- If everyone sits at one seat, one who sits there knew the run.
module _ (ring : Ring) (s : TableState) (k : RuleHolds ring s) (id : ℕ) (v : List Participant) (at : get_elem? s.views id ≡ some v) where
  newest_here : AllSit ring v → Any (λ p. p.history ≡ k.run) v
  newest_here all =
      let n = k.newest in
      let there = k.seated n.place n.there n.at in
      let is : n.place ≡ id = one_seat ring k.run k.seat n.place id (λ p. p.history ≡ k.run) n.there there.0 there.1 (λ u known. sits_here k.seat id u v (k.seated id v at).0 (all u known)) n.one in
      same_place s.views id v n.there at (λ p. p.history ≡ k.run) n.place is n.at n.one

pub finds_at : (ring : Ring) (slots id i : ℕ) (g : Participant) (hs : List Participant) → Allows (RuleHolds ring) slots id (g ∷ hs, []) i (λ x. x) (has_found (step slots i 0 0 none) (g ∷ hs, []))
finds_at ring slots id i g hs s k _ at _ =
    let mine = k.seated id (g ∷ hs) at in
    let w : List Participant = all_knowing k.run (g ∷ hs) in
    let here : HasAll ring (g ∷ hs) k.run s.words = record { limits = k.limits; after = k.after; only = k.only; has = mine.1 } in (
      w,
      keeps,
      tt,
      record {
        limits = k.limits;
        run = k.run;
        after = subst (AreAfter ring k.run) (sym (set_back s.words i)) k.after;
        made = subst (AreMadeBy ring k.run) (sym (set_back s.words i)) k.made;
        only = k.only;
        seat = k.seat;
        seated = λ j v. seated_after ring k.run k.seat s.views id w (knowing_sit k.seat id k.run (g ∷ hs) mine.0, knowing_trails ring k.run (g ∷ hs) mine.1) j v (λ _. k.seated j v);
        newest = among_step (λ p. p.history ≡ k.run) s.views id (g ∷ hs) w at (knowing_newest k.run (g ∷ hs)) k.newest;
        everyone = λ u one. among_step (λ p. p.who ≡ u) s.views id (g ∷ hs) w at (knowing_who u k.run (g ∷ hs)) (k.everyone u one);
      },
      (
        (
          k.run,
          s.words,
          subst (λ (r : Ring). HasAll r (g ∷ hs) k.run s.words) (sym mine.1.0.ring_is) here,
          refl,
          λ (all : AllSit g.ring (g ∷ hs)). newest_here ring s k id (g ∷ hs) at (subst (λ (r : Ring). AllSit r (g ∷ hs)) mine.1.0.ring_is all),
        ),
        refl,
      ),
    )

-- the same if the word that was found doesn't matter
pub meets_as : (ring : Ring) (slots id i : ℕ) (g : Participant) (hs : List Participant) (me : Holding) → me ≡ (g ∷ hs, []) → Allows (RuleHolds ring) slots id me i (λ x. x) (has_met (step slots i 0 0 none) me)
meets_as ring slots id i g hs me is = subst (λ (m : Holding). Allows (RuleHolds ring) slots id m i (λ x. x) (has_met (step slots i 0 0 none) m)) (sym is)
    (λ s k many at low. let did = finds_at ring slots id i g hs s k many at low in (did.0, did.1, did.2, did.3, did.4.0))

pub found_as : (ring : Ring) (slots id i : ℕ) (g : Participant) (hs : List Participant) (me : Holding) → me ≡ (g ∷ hs, []) → Allows (RuleHolds ring) slots id me i (λ x. x) (has_found (step slots i 0 0 none) me)
found_as ring slots id i g hs me is = subst (λ (m : Holding). Allows (RuleHolds ring) slots id m i (λ x. x) (has_found (step slots i 0 0 none) m)) (sym is) (finds_at ring slots id i g hs)

-- ---- two seats of a single participant each

-- Both know the same run, and neither took a step.
pub record MetAs (p q new_p new_q : PortValue) : Type 0 where
  pub mine : record new_p { history = [] } ≡ record p { history = [] }
  pub theirs : record new_q { history = [] } ≡ record q { history = [] }
  pub one : new_q.history ≡ new_p.history
  pub i_knew : WentOn p.who p.history new_p.history
  pub they_knew : WentOn q.who q.history new_p.history

-- One seat has no participant for a while.
pub leaves_now : (me : Holding) → IsAlone me (who_of me.0) → (key : Ring) (id : ℕ) → Splits (RuleHolds key) id me.0 (without_first me.0) (first_alone me.0)
leaves_now me alone key id =
    subst (λ (m : Holding). Splits (RuleHolds key) id m.0 (without_first m.0) (first_alone m.0)) (sym alone.me_is)
    (deals_at key id (participant (ring_of me.0) (who_of me.0) (trail_of_first me.0) (history_of_first me.0)) [] tt)

module _ (mine theirs : Holding) (my_own : IsAlone mine (who_of mine.0)) (their_own : IsAlone theirs (who_of theirs.0)) where
  abbrev me : Participant
  me = participant (ring_of mine.0) (who_of mine.0) (trail_of_first mine.0) (history_of_first mine.0)

  abbrev them : Participant
  them = participant (ring_of theirs.0) (who_of theirs.0) (trail_of_first theirs.0) (history_of_first theirs.0)

  abbrev pub both : Holding
  both = (them ∷ me ∷ [], [])

  pub joined_is : (one joined : Holding) → one ≡ (first_alone theirs.0, []) → joined ≡ (both_of mine.0 one.0, mine.1) → joined ≡ both
  joined_is one joined one_is is =
      let their_is : one ≡ (them ∷ [], []) = one_is ∙ ap (λ (m : Holding). let h : Holding = (first_alone m.0, []) in h) their_own.me_is in
      is ∙ (λ k. let h : Holding = (both_of (my_own.me_is k).0 (their_is k).0, (my_own.me_is k).1) in h)

  module _ (joined met : Holding) (is : joined ≡ both) (did : HaveMet joined met) where
    known : HaveMet both met
    known = subst (λ (m : Holding). HaveMet m met) is did

    -- the run that both know from then on
    abbrev run : Run
    run = known.0

    abbrev words : List ℕ
    words = known.1

    all : HasAll them.ring (them ∷ me ∷ []) run words
    all = known.2

    met_is : met ≡ (all_knowing run (them ∷ me ∷ []), [])
    met_is = known.3

    -- the other has its seat back
    pub parts_now : (key : Ring) (id : ℕ) → same me.who them.who ≡ false → Splits (RuleHolds key) id met.0 (without_first met.0) (first_alone met.0)
    parts_now key id apart =
        subst (λ (m : Holding). Splits (RuleHolds key) id m.0 (without_first m.0) (first_alone m.0)) (sym met_is)
        (deals_at key id (record them { history = run }) (record me { history = run } ∷ []) (apart, tt))

    my_stand : Stands me.ring me.who me.trail run words
    my_stand = subst (λ (r : Ring). Stands r me.who me.trail run words) (sym all.has.1.0.ring_is)
        record { limits = all.limits; after = all.after; only = all.only; known = all.has.1.0.known; trail_is = all.has.1.0.trail }

    module _ (left back : Holding) (left_is : left ≡ (without_first met.0, met.1)) (back_is : back ≡ (first_alone met.0, [])) where
      i_am : left ≡ (participant me.ring me.who me.trail run ∷ [], [])
      i_am = left_is ∙ ap (λ (m : Holding). let h : Holding = (without_first m.0, m.1) in h) met_is

      they_are : back ≡ (participant them.ring them.who them.trail run ∷ [], [])
      they_are = back_is ∙ ap (λ (m : Holding). let h : Holding = (first_alone m.0, []) in h) met_is

      pub my_seat : IsAlone left (who_of left.0)
      my_seat = subst (λ (m : Holding). IsAlone m (who_of m.0)) (sym i_am) record { me_is = refl; words = words; stands = my_stand }

      pub their_seat : IsAlone back (who_of back.0)
      their_seat = subst (λ (m : Holding). IsAlone m (who_of m.0)) (sym they_are) record {
        me_is = refl;
        words = words;
        stands = record { limits = all.limits; after = all.after; only = all.only; known = all.has.0.known; trail_is = all.has.0.trail };
      }

      -- what the load found is what that run leaves in the control word
      pub finds_now : (my_table my_new_table : TableId) (p : PortValue) → port_of my_table mine ≡ p → Always LooksByALoad → (i word : ℕ) → i ≡ control_word → word ≡ slice_index did.1 i
          → control_in p.ring.made_with.geometry word ≡ control p.ring.made_with.geometry (world (port_of my_new_table left).history)
      finds_now my_table my_new_table p p_is finds i word at word_is =
          let key : Ring = ring_of joined.0 in
          let key_is : key ≡ me.ring = ap (λ (m : Holding). ring_of m.0) is ∙ sym all.has.1.0.ring_is in
          let run_is : history_of_first left.0 ≡ did.0 =
          ap (λ (m : Holding). history_of_first m.0) left_is ∙ ap (λ (m : Holding). history_of_first (without_first m.0)) did.3 ∙ ap (λ (m : Holding). history_of_first (without_first (all_knowing did.0 m.0))) is in
          let here : control_in key.geometry word ≡ control key.geometry (world did.0) =
          ap (control_in key.geometry) (word_is ∙ ap (slice_index did.1) at) ∙ (finds key did.0 did.1 did.2.after Consumer).run_is.1 in
          let mine_now : control_in me.ring.geometry word ≡ control me.ring.geometry (world (history_of_first left.0)) =
          subst (λ (x : Ring × Run). control_in x.0.geometry word ≡ control x.0.geometry (world x.1)) (λ k. (key_is k, sym run_is k)) here in
          subst (λ (q : PortValue). control_in q.ring.made_with.geometry word ≡ control q.ring.made_with.geometry (world (port_of my_new_table left).history)) p_is mine_now

      -- what contracts see of it
      pub have_met : (my_table my_new_table their_table their_new_table : TableId) → my_new_table ≡ my_table → their_new_table ≡ their_table → (p q : PortValue) → port_of my_table mine ≡ p → port_of their_table theirs ≡ q
          → MetAs p q (port_of my_new_table left) (port_of their_new_table back)
      have_met my_table my_new_table their_table their_new_table mine_same theirs_same p q p_is q_is = record {
        mine = (λ k. let x : PortValue = record (port_of (mine_same k) (i_am k)) { history = [] } in x) ∙ ap (λ (x : PortValue). let y : PortValue = record x { history = [] } in y) p_is;
        theirs = (λ k. let x : PortValue = record (port_of (theirs_same k) (they_are k)) { history = [] } in x) ∙ ap (λ (x : PortValue). let y : PortValue = record x { history = [] } in y) q_is;
        one = ap (λ (m : Holding). history_of_first m.0) they_are ∙ sym (ap (λ (m : Holding). history_of_first m.0) i_am);
        i_knew = subst (λ (x : PortValue × Run). WentOn x.0.who x.0.history x.1) (λ k. (p_is k, history_of_first (sym i_am k).0)) all.has.1.0.went_on;
        they_knew = subst (λ (x : PortValue × Run). WentOn x.0.who x.0.history x.1) (λ k. (q_is k, history_of_first (sym i_am k).0)) all.has.0.went_on;
      }
