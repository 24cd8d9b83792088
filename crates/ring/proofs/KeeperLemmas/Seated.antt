-- Who sits at a keeper's seat, who is missing there, what those who sit there know, and how a new ring's keeper starts.
use Rattle.std.proofs.Common.{◌≡◌, ◌≢◌, ℕ, zero, suc, ◌+◌, ◌<◌, ◌≤◌, Bool, true, false, cond, List, [], ◌∷◌, refl, sym, ap, ◌∙◌, inl, inr, arith, subst}
use Rattle.std.specs.Prelude.{Option, Some, None}
use Rattle.std.proofs.lemmas.Bool.{cond_both, cond-false}
use Rattle.std.proofs.lemmas.Option.{none-some}
use mathlib.Core.Logic.{dite}
use native.Mathlib.Decide.{ℕ_discrete}
use Rattle.ring.specs.table.{TableId, Participant, HasTrails, Any, ring_of, history_of_first, Holding, participants_from, first_participants, all_knowing, AllSit, AllKnow, without, RunStands}
use Rattle.qindex.specs.Positions.{IndexValue, index_of}
use Rattle.ring.specs.Runs.{Who, Consumer, Sender, Run, same, Ring, IsOne}
use Rattle.ring.specs.Keepers.{sits, missing_from, KeeperValue, keeper_of, missing, AllBut, IsKeeper, own_port}
use Rattle.ring.specs.Rings.{RingValue}
use Rattle.ring.specs.consumer.{IsConsumer}
use Rattle.ring.proofs.TableLemmas.Trails.{same_refl}
use Rattle.ring.proofs.TableLemmas.Starts.{all_in_first}

-- ---- who is missing

pub sits_any : (who : Who) (v : List Participant) → Any (λ p. p.who ≡ who) v → sits who v ≡ true
sits_any who [] one = absurd one
sits_any who (p ∷ ps) (inl is) = ap (λ (b : Bool). cond b true (sits who ps)) (ap (λ (u : Who). same u who) is ∙ same_refl who)
sits_any who (p ∷ ps) (inr more) = cond_both (same p.who who) true (sits who ps) (λ b. b ≡ true) (λ _. refl) (λ _. sits_any who ps more)

pub sits_not : (who : Who) (v : List Participant) → sits who (without who v) ≡ false
sits_not who [] = refl
sits_not who (p ∷ ps) = cond_both (same p.who who) (without who ps) (p ∷ without who ps) (λ l. sits who l ≡ false)
    (λ _. sits_not who ps) (λ is. cond-false (same p.who who) true (sits who (without who ps)) is ∙ sits_not who ps)

pub none_missing : (n k more : ℕ) (v : List Participant) → k + more ≡ n → ((u : Who) → IsOne n u → sits u v ≡ true) → missing_from k more v ≡ None
none_missing n k zero v is all = ap (λ (b : Bool). let o : Option Who = cond b None (Some Consumer) in o) (all Consumer tt)
none_missing n k (suc more) v is all =
    ap (λ (b : Bool). cond b (missing_from (suc k) more v) (Some (Sender k))) (all (Sender k) (omega (arith, is)))
    ∙ none_missing n (suc k) more v (omega (arith, is)) all

pub one_missing : (n : ℕ) (v : List Participant) (who : Who) → IsOne n who → sits who v ≡ false → ((u : Who) → IsOne n u → u ≢ who → sits u v ≡ true) → missing_from 0 n v ≡ Some who
one_missing n v Consumer one gone all = by_more 0 n (omega arith)
  where
    by_more : (k more : ℕ) → k + more ≡ n → missing_from k more v ≡ Some Consumer
    by_more k zero is = ap (λ (b : Bool). let o : Option Who = cond b None (Some Consumer) in o) gone
    by_more k (suc more) is =
        ap (λ (b : Bool). cond b (missing_from (suc k) more v) (Some (Sender k))) (all (Sender k) (omega (arith, is)) (λ e. cc))
        ∙ by_more (suc k) more (omega (arith, is))
one_missing n v (Sender s) one gone all = by_more 0 n (omega arith) (omega arith)
  where
    by_more : (k more : ℕ) → k + more ≡ n → k ≤ s → missing_from k more v ≡ Some (Sender s)
    by_more k zero is low = absurd (omega (arith, is, low, one))
    by_more k (suc more) is low = dite (ℕ_discrete k s)
        (λ here. ap (λ (b : Bool). cond b (missing_from (suc k) more v) (Some (Sender k))) (ap (λ (j : ℕ). sits (Sender j) v) here ∙ gone) ∙ ap (λ (j : ℕ). let o : Option Who = Some (Sender j) in o) here)
        (λ ne. ap (λ (b : Bool). cond b (missing_from (suc k) more v) (Some (Sender k))) (all (Sender k) (omega (arith, is)) (λ e. ne (let m : k ≡ s = cc in m)))
        ∙ by_more (suc k) more (omega (arith, is)) (omega (arith, ne, low)))

-- there is someone else
pub record IsOther (n : ℕ) (who : Who) : Type 0 where
  pub other : Who
  pub one : IsOne n other
  pub apart : other ≢ who

pub someone : (n : ℕ) (who : Who) → 1 ≤ n → IsOther n who
someone n Consumer some = record { other = Sender 0; one = (let h : 0 < n = omega (arith, some) in h); apart = λ e. cc }
someone n (Sender s) some = record { other = Consumer; one = tt; apart = λ e. cc }

-- If no seat is lent, all sit here.
pub all_sit : (table : TableId) (p : KeeperValue) (v : List Participant) → keeper_of table v ≡ p → AllBut (missing v) (ring_of v) (history_of_first v) v → p.lent ≡ None → AllSit (ring_of v) v
all_sit table p v is knows whole u one = knows.others u one (λ e. none-some u (sym (e ∙ ap (λ (q : KeeperValue). q.lent) is ∙ whole)))

-- ---- what those who sit there know

pub first_knows : (z : Ring) (run : Run) (v : List Participant) (P : Participant → Type 0) → AllKnow z run v → Any P v → (ring_of v ≡ z) × (history_of_first v ≡ run)
first_knows z run [] P all one = absurd one
first_knows z run (p ∷ ps) P all one = (ap (λ (q : Participant). q.ring) all.0, ap (λ (q : Participant). q.history) all.0)

pub same_history : (z : Ring) (old new : Run) (v : List Participant) → AllKnow z old v → Any (λ p. p.history ≡ new) v → old ≡ new
same_history z old new [] all one = absurd one
same_history z old new (p ∷ ps) all (inl is) = sym (ap (λ (q : Participant). q.history) all.0) ∙ is
same_history z old new (p ∷ ps) all (inr more) = same_history z old new ps all.1 more

pub know_told : (z : Ring) (run : Run) (v : List Participant) → HasTrails z run v → AllKnow z run (all_knowing run v)
know_told z run [] has = tt
know_told z run (p ∷ ps) has = ((λ k. let q : Participant = record { ring = has.0.ring_is k; who = p.who; trail = sym has.0.trail k; history = run } in q), know_told z run ps has.1)

-- ---- a keeper of a new ring

know_first : (ring : Ring) (k more : ℕ) → AllKnow ring [] (participants_from ring k more)
know_first ring k zero = (refl, tt)
know_first ring k (suc more) = (refl, know_first ring (suc k) more)

first_is : (ring : Ring) → (ring_of (first_participants ring) ≡ ring) × (history_of_first (first_participants ring) ≡ [])
first_is ring = first_knows ring [] (first_participants ring) (λ p. p.who ≡ Consumer) (know_first ring 0 ring.senders) (all_in_first ring Consumer tt)

pub starts_kept : (ring : Ring) → 1 ≤ ring.senders → RunStands ring [] → (me : Holding) → me ≡ (first_participants ring, []) → IsKeeper me
starts_kept ring some stands me is =
    let v : List Participant = first_participants ring in
    let base : AllBut (missing v) ring [] v = record { some = some; each = know_first ring 0 ring.senders; others = λ u known ne. all_in_first ring u known; stands = stands } in
    subst IsKeeper (sym is) record { no_slots = refl; knows = subst (λ (t : Ring × Run). AllBut (missing v) t.0 t.1 v) (λ k. (sym (first_is ring).0 k, sym (first_is ring).1 k)) base }

pub starts_as : (ring : Ring) (table new_table : TableId) → new_table ≡ table → (me : Holding) → me ≡ (first_participants ring, []) → keeper_of new_table me.0 ≡ record { ring = record { table = table; made_with = ring }; lent = None; run = [] }
starts_as ring table new_table ours me is =
    let v : List Participant = first_participants ring in
    let none_is : missing v ≡ None = ap (λ (r : Ring). missing_from 0 r.senders v) (first_is ring).0 ∙ none_missing ring.senders 0 ring.senders v (omega arith) (λ u known. sits_any u v (all_in_first ring u known)) in
    (λ k. keeper_of (ours k) (is k).0)
    ∙ (λ k. let q : KeeperValue = record { ring = record { table = table; made_with = (first_is ring).0 k }; lent = none_is k; run = (first_is ring).1 k } in q)

pub starts_idle : (ring : RingValue) (k : KeeperValue) → k ≡ record { ring = ring; lent = None; run = [] } → (head : IndexValue) → head ≡ index_of ring.made_with.geometry 0 → IsConsumer (own_port Consumer k) head 0
starts_idle ring k is head head_is = subst (λ (q : KeeperValue). IsConsumer (own_port Consumer q) head 0) (sym is) record { who_is = refl; head_is = head_is; taken_is = refl; current = λ s. refl }
