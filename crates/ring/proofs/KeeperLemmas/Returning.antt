-- A seat comes back to its keeper.
use Rattle.std.proofs.Common.{◌≡◌, ◌≢◌, List, [], ◌∷◌, ◌++◌, refl, sym, ap, ◌∙◌, subst, ⊎_elim, inl, inr, arith}
use Rattle.std.specs.Prelude.{Option, Some, None}
use Rattle.ring.specs.table.{TableId, Participant, Holding, participant, WentOn, IsIn, HasTrails, Any, IsAlone, who_of, ring_of, history_of_first, all_knowing, AllSit, HaveMet, EndsWith, Grew}
use Rattle.ring.specs.table.{RunStands, one_of_run, run_by, grown_run, PortValue, port_of}
use Rattle.ring.specs.Runs.{Who, Trail, Run, same, trail_of, Ring, IsOne, OnlyOf}
use Rattle.ring.specs.Rings.{RingValue}
use Rattle.ring.specs.Keepers.{KeeperValue, keeper_of, missing, AllBut, IsKeeper, has_back, Adds, IsNews, KeepsOthers}
use Rattle.ring.proofs.TableLemmas.Trails.{alike, trail_append, none_before}
use Rattle.ring.proofs.TableLemmas.OneRun.{only_left}
use Rattle.ring.proofs.TableLemmas.Meetings.{knowing_who}
use Rattle.ring.proofs.TableLemmas.Keeping.{its_trail}
use Rattle.ring.proofs.KeeperLemmas.Seated.{sits_any, none_missing, IsOther, someone, same_history, know_told}
use Rattle.ring.proofs.KeeperLemmas.Growing.{ends_by, grown_run_is, adds_those, all_of_one, keeps_others}

-- what is known once all sit at one seat again and know the run
pub record IsBack (z : Ring) (old : Run) (who : Who) (trail : Trail) (history : Run) (last : Holding) : Type 0 where
  pub keeper : IsKeeper last
  pub ring_is : ring_of last.0 ≡ z
  pub lent_is : missing last.0 ≡ None
  pub run_is : history_of_first last.0 ≡ grown_run who old trail
  pub added : Trail
  pub added_is : history_of_first last.0 ≡ run_by who added ++ old
  pub grew : Grew who (trail_of who old) trail old (history_of_first last.0)
  pub news : IsNews who trail history old (history_of_first last.0)

module _ (z : Ring) (old : Run) (who : Who) (v : List Participant) (knows : AllBut (Some who) z old v) (trail : Trail) (history : Run) where
  abbrev one : Participant
  one = participant z who trail history

  abbrev all : List Participant
  all = one ∷ v

  module _ (new : Run) (stands : RunStands z new) (has : HasTrails z new all) (newest_is : AllSit z all → Any (λ p. p.history ≡ new) all) where
    back_sits : AllSit z all
    back_sits u known = ⊎_elim (λ (is : u ≡ who). inl (sym is)) (λ (ne : u ≢ who). inr (knows.others u known (λ e. ne (let w : u ≡ who = cc in w)))) (alike u who)

    -- nobody else took a step
    of_other : (u : Who) → IsOne z.senders u → u ≢ who → IsIn z new (one_of_run z old u)
    of_other u known ne = its_trail z z new old u v knows.each has.1 (knows.others u known (λ e. ne (let w : u ≡ who = cc in w)))

    any_other : IsOther z.senders who
    any_other = someone z.senders who knows.some

    older : WentOn any_other.other old new
    older = (of_other any_other.other any_other.one any_other.apart).went_on

    none_of : (u : Who) → IsOne z.senders u → u ≢ who → trail_of u older.newer ≡ []
    none_of u known ne = none_before (trail_of u older.newer) (trail_of u old)
        (sym (trail_append u older.newer old) ∙ ap (trail_of u) (sym older.run_is) ∙ (of_other u known ne).trail)

    abbrev added : Trail
    added = trail_of who older.newer

    newer_is : older.newer ≡ run_by who added
    newer_is = all_of_one z.senders who older.newer (only_left z.senders older.newer old (subst (OnlyOf z.senders) older.run_is stands.only)) none_of

    trail_is : trail ≡ added ++ trail_of who old
    trail_is = sym has.0.trail ∙ ap (trail_of who) older.run_is ∙ trail_append who older.newer old

    new_is : new ≡ run_by who added ++ old
    new_is = older.run_is ∙ ap (λ (r : Run). r ++ old) newer_is

    abbrev told : List Participant
    told = all_knowing new all

    told_sits : (u : Who) → IsOne z.senders u → Any (λ p. p.who ≡ u) told
    told_sits u known = knowing_who u new all (back_sits u known)

    is_back : IsBack z old who trail history (told, [])
    is_back = record {
      keeper = record { no_slots = refl; knows = record { some = knows.some; each = know_told z new all has; others = λ u known ne. told_sits u known; stands = stands } };
      ring_is = refl;
      lent_is = none_missing z.senders 0 z.senders told (omega arith) (λ u known. sits_any u told (told_sits u known));
      run_is = new_is ∙ sym (grown_run_is who old trail added trail_is);
      added = added;
      grew = record { newer = older.newer; run_is = older.run_is; trail_is = trail_is; last = subst (EndsWith who) (sym newer_is) (ends_by who added) };
      added_is = new_is;
      news = record { trail_is = has.0.trail; went_on = has.0.went_on; newest = ⊎_elim inl (λ theirs. inr (same_history z old new v knows.each theirs)) (newest_is back_sits) };
    }

  pub back_by : (me last : Holding) → me ≡ (all, []) → HaveMet me last → IsBack z old who trail history last
  back_by me last me_is did =
      let met : HaveMet (all, []) last = subst (λ (m : Holding). HaveMet m last) me_is did in
      let stands : RunStands z met.0 = record { limits = met.2.limits; words = met.1; after = met.2.after; only = met.2.only } in
      subst (IsBack z old who trail history) (sym met.3) (is_back met.0 stands met.2.has met.4)

-- the same, as contracts see it
pub record ComesBack (q : PortValue) (old new : KeeperValue) : Type 0 where
  pub keeper : new ≡ has_back q.who q.trail old
  pub adds : Adds q.who q.trail old.run new.run
  pub grew : Grew q.who (trail_of q.who old.run) q.trail old.run new.run
  pub news : IsNews q.who q.trail q.history old.run new.run
  pub others : KeepsOthers q.who old new

module _ (table : TableId) (p : KeeperValue) (v : List Participant) (is : keeper_of table v ≡ p) (knows : AllBut (missing v) (ring_of v) (history_of_first v) v)
    (q : PortValue) (lent : p.lent ≡ Some q.who) (ours : q.ring ≡ p.ring) (port_table : TableId) (their : Holding) (port_is : port_of port_table their ≡ q) (alone_is : IsAlone their (who_of their.0)) where
  ring_same : ring_of their.0 ≡ ring_of v
  ring_same = ap (λ (k : PortValue). k.ring.made_with) port_is ∙ ap (λ (r : RingValue). r.made_with) ours ∙ ap (λ (k : KeeperValue). k.ring.made_with) (sym is)

  their_is : their.0 ≡ participant (ring_of v) q.who q.trail q.history ∷ []
  their_is = ap (λ (m : Holding). m.0) alone_is.me_is
      ∙ (λ k. participant (ring_same k) (port_is k).who (port_is k).trail (port_is k).history ∷ [])

  pub joined_is : (me : Holding) → me ≡ (their.0 ++ v, []) → me ≡ (participant (ring_of v) q.who q.trail q.history ∷ v, [])
  joined_is me me_is = me_is ∙ ap (λ (l : List Participant). let m : Holding = (l ++ v, []) in m) their_is

  pub comes_back : (me last : Holding) → me ≡ (their.0 ++ v, []) → HaveMet me last → IsBack (ring_of v) (history_of_first v) q.who q.trail q.history last
  comes_back me last me_is did =
      back_by (ring_of v) (history_of_first v) q.who v (subst (λ (o : Option Who). AllBut o (ring_of v) (history_of_first v) v) (ap (λ (k : KeeperValue). k.lent) is ∙ lent) knows) q.trail q.history me last (joined_is me me_is) did

  run_same : history_of_first v ≡ p.run
  run_same = ap (λ (k : KeeperValue). k.run) is

  module _ (last : Holding) (back : IsBack (ring_of v) (history_of_first v) q.who q.trail q.history last) where
    back_is : (last_table : TableId) → last_table ≡ table → keeper_of last_table last.0 ≡ has_back q.who q.trail p
    back_is last_table same = (λ k. let r : KeeperValue = record { ring = record { table = same k; made_with = back.ring_is k }; lent = back.lent_is k; run = back.run_is k } in r)
        ∙ ap (has_back q.who q.trail) is

    pub comes_as : (last_table : TableId) → last_table ≡ table → ComesBack q p (keeper_of last_table last.0)
    comes_as last_table same = record {
      keeper = back_is last_table same;
      adds = adds_those q.who q.trail p.run (history_of_first last.0) (back.run_is ∙ ap (λ (r : Run). grown_run q.who r q.trail) run_same);
      grew = subst (λ (r : Run). Grew q.who (trail_of q.who r) q.trail r (history_of_first last.0)) run_same back.grew;
      news = subst (λ (r : Run). IsNews q.who q.trail q.history r (history_of_first last.0)) run_same back.news;
      others = keeps_others q.who p (keeper_of last_table last.0) back.added (ap (λ (k : KeeperValue). k.ring) (back_is last_table same)) (back.added_is ∙ ap (λ (r : Run). run_by q.who back.added ++ r) run_same);
    }
