-- How the ring starts, and how its senders get their seats.
use Rattle.std.proofs.Common.{◌≡◌, ℕ, zero, suc, ◌+◌, ◌<◌, ◌≤◌, List, [], ◌∷◌, ◌++◌, replicate, refl, sym, ap, ◌∙◌, subst, inl, inr, ne_eqb, arith}
use Rattle.std.specs.Prelude.{slice_index}
use Rattle.std.proofs.lemmas.List.{length-replicate}
use mathlib.Core.Option.{some, some-injective, some-ne-none}
use mathlib.Core.Logic.{dite}
use native.Mathlib.Decide.{ℕ_discrete}
use lib.ListN.{get_elem?}
use Rattle.ring.specs.table.{opening, Splits, TableId, Participant, Holding, participant, participants_from, first_participants, Any, HasTrails, SitAt, RuleHolds, IsWithinLimits, IsAlone, who_of}
use Rattle.ring.specs.table.{without_first, first_alone, port_of, PortValue}
use Rattle.qindex.specs.Indexes.{IsGeometry}
use Rattle.ring.specs.Runs.{Who, Consumer, Sender, IsOne, Ring}
use Rattle.ringcore.specs.memory.Layout.{words_of}
use Rattle.ringcore.specs.memory.Shadow.{AreAfter}
use Rattle.ringcore.specs.memory.StepLaws.{OpensAllZero}
use Rattle.ring.specs.sender.{Tally, SenderValue, IsSender}
use Rattle.ring.proofs.TableLemmas.Seats.{Without, went_on_none}
use Rattle.ring.proofs.TableLemmas.Steps.{deals_at}
use Rattle.ring.specs.Rings.{RingValue}
use Rattle.ring.specs.NewRings.{new_sender, new_senders}

get_zero : (m k : ℕ) → ◌≡◌ {A = ℕ} (slice_index (replicate m 0) k) 0
get_zero zero k = refl
get_zero (suc m) zero = refl
get_zero (suc m) (suc k) = get_zero m k

no_trails : (ring : Ring) (k more : ℕ) → k + more ≡ ring.senders → HasTrails ring [] (participants_from ring k more)
no_trails ring k zero e = (record { ring_is = refl; known = tt; trail = refl; went_on = went_on_none Consumer [] }, tt)
no_trails ring k (suc more) e = (record { ring_is = refl; known = (let h : k < ring.senders = omega arith in h); trail = refl; went_on = went_on_none (Sender k) [] }, no_trails ring (suc k) more (omega arith))

all_at_0 : (ring : Ring) (k more : ℕ) → SitAt (λ w. 0) 0 (participants_from ring k more)
all_at_0 ring k zero = (refl, tt)
all_at_0 ring k (suc more) = (refl, all_at_0 ring (suc k) more)

-- The consumer comes last, and each sender from the k-th on is before it.
consumer_in : (P : Participant → Type 0) (ring : Ring) (k more : ℕ) → P (participant ring Consumer [] []) → Any P (participants_from ring k more)
consumer_in P ring k zero its = inl its
consumer_in P ring k (suc more) its = inr (consumer_in P ring (suc k) more its)

sender_in : (ring : Ring) (k more s : ℕ) → k ≤ s → s < k + more → Any (λ p. p.who ≡ Sender s) (participants_from ring k more)
sender_in ring k zero s low less = absurd (omega arith)
sender_in ring k (suc more) s low less = dite (ℕ_discrete k s)
    (λ is. inl (ap Sender is))
    (λ ne. inr (sender_in ring (suc k) more s (omega (arith, ne)) (omega arith)))

pub all_in_first : (ring : Ring) (who : Who) → IsOne ring.senders who → Any (λ p. p.who ≡ who) (first_participants ring)
all_in_first ring Consumer one = consumer_in (λ p. p.who ≡ Consumer) ring 0 ring.senders refl
all_in_first ring (Sender s) one = sender_in ring 0 ring.senders s (omega arith) (omega (arith, one))

-- zeros stand as before the first event
pub zeros_after : OpensAllZero → (ring : Ring) (m : ℕ) → IsGeometry ring.geometry → ring.flags ≡ 64 → m ≡ words_of ring.geometry ring.senders → AreAfter ring [] (replicate m 0)
zeros_after opens ring m geometry flags is = opens ring (replicate m 0) geometry flags (length-replicate m 0 ∙ is) (get_zero m)

pub starts : OpensAllZero → (ring : Ring) (m : ℕ) (words : List ℕ) → words ≡ replicate m 0 → IsWithinLimits ring → IsGeometry ring.geometry → ring.flags ≡ 64 → m ≡ words_of ring.geometry ring.senders
    → RuleHolds ring (opening words [] (first_participants ring))
starts opens ring m words zeros limits geometry flags is = subst (λ (ws : List ℕ). RuleHolds ring (opening ws [] (first_participants ring))) (sym zeros) record {
  limits = limits;
  run = [];
  after = zeros_after opens ring m geometry flags is;
  made = get_zero m;
  only = tt;
  seat = λ w. 0;
  seated = one;
  newest = record { place = 0; there = first_participants ring; at = refl; one = consumer_in (λ p. p.history ≡ []) ring 0 ring.senders refl };
  everyone = λ who known. record { place = 0; there = first_participants ring; at = refl; one = all_in_first ring who known };
}
  where
    one : (i : ℕ) (v : List Participant) → get_elem? (first_participants ring ∷ []) i ≡ some v → SitAt (λ w. 0) i v × HasTrails ring [] v
    one zero v e = subst (λ (l : List Participant). SitAt (λ w. 0) 0 l × HasTrails ring [] l) (some-injective _ _ e) (all_at_0 ring 0 ring.senders, no_trails ring 0 ring.senders (omega arith))
    one (suc i) v e = absurd (some-ne-none v (sym e))

without_from : (ring : Ring) (s k more : ℕ) → s < k → Without (Sender s) (participants_from ring k more)
without_from ring s k zero less = (refl, tt)
without_from ring s k (suc more) less = (ne_eqb k s (λ e. omega arith), without_from ring s (suc k) more (omega arith))

pub deals_as : (key : Ring) (id : ℕ) (ring : Ring) (k more : ℕ) (v : List Participant) → v ≡ participants_from ring k (suc more) → Splits (RuleHolds key) id v (without_first v) (first_alone v)
deals_as key id ring k more v is = subst (λ (l : List Participant). Splits (RuleHolds key) id l (without_first l) (first_alone l)) (sym is)
    (deals_at key id (participant ring (Sender k) [] []) (participants_from ring (suc k) more) (without_from ring k (suc k) more (omega arith)))

-- One who has taken no step stands in the empty run.
pub fresh : OpensAllZero → (ring : Ring) (who : Who) (me : Holding) → IsWithinLimits ring → IsGeometry ring.geometry → ring.flags ≡ 64 → IsOne ring.senders who → me ≡ (participant ring who [] [] ∷ [], []) → IsAlone me (who_of me.0)
fresh opens ring who me limits geometry flags known is = subst (λ (m : Holding). IsAlone m (who_of m.0)) (sym is) record {
  me_is = refl;
  words = replicate (words_of ring.geometry ring.senders) 0;
  stands = record { limits = limits; after = zeros_after opens ring (words_of ring.geometry ring.senders) geometry flags refl; only = tt; known = known; trail_is = refl };
}

-- what is split off first, from the senders from k on
pub first_of : (ring : Ring) (k more : ℕ) (m w : Holding) → m ≡ (participants_from ring k (suc more), []) → w ≡ (first_alone m.0, []) → w ≡ (participant ring (Sender k) [] [] ∷ [], [])
first_of ring k more m w is told = told ∙ ap (λ (x : Holding). let y : Holding = (first_alone x.0, []) in y) is

pub rest_of : (ring : Ring) (k more : ℕ) (m w : Holding) → m ≡ (participants_from ring k (suc more), []) → w ≡ (without_first m.0, m.1) → w ≡ (participants_from ring (k + 1) more, [])
rest_of ring k more m w is told = told ∙ ap (λ (x : Holding). let y : Holding = (without_first x.0, x.1) in y) is ∙ ap (λ (j : ℕ). let y : Holding = (participants_from ring j more, []) in y) (let e : suc k ≡ k + 1 = omega arith in e)

pub new_state : (table : TableId) (ring : Ring) (who : Who) (me : Holding) → me ≡ (participant ring who [] [] ∷ [], []) → port_of table me ≡ record { ring = record { table = table; made_with = ring }; who = who; trail = []; history = [] }
new_state table ring who me is = ap (port_of table) is

pub new_is_sender : (p : PortValue) (ring : RingValue) (k : ℕ) → p ≡ record { ring = ring; who = Sender k; trail = []; history = [] } → (t : Tally) → t ≡ record { sender = k; batches = 0; numbers = 0 } → IsSender p t
new_is_sender p ring k is t t_is = subst (λ (q : PortValue × Tally). IsSender q.0 q.1) (λ i. (sym is i, sym t_is i)) record {
  tallied = record { who_is = refl; batches_are = refl; numbers_are = refl; numbered = omega arith; most = omega arith };
  settled = λ j h. absurd (omega arith);
}

pub pushed : (ring : RingValue) (k : ℕ) (l : List SenderValue) (s : SenderValue) → l ≡ new_senders ring k → s ≡ new_sender ring k → l ++ s ∷ [] ≡ new_senders ring (k + 1)
pushed ring k l s old new = (λ i. old i ++ new i ∷ []) ∙ ap (new_senders ring) (let e : suc k ≡ k + 1 = omega arith in e)
