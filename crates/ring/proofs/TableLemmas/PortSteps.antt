-- The steps of a seat of a single participant, as contracts see it.
use Rattle.std.proofs.Common.{◌≡◌, ℕ, ◌+◌, ◌<◌, Bool, true, false, cond, ◌==◌, List, ◌∷◌, [], Some, sym, ap, ◌∙◌, subst, ◌^◌, arith}
use Rattle.std.proofs.lemmas.Option.{same_Some}
use mathlib.Core.Option.{none}
use mathlib.Core.Logic.{dite}
use native.Mathlib.Decide.{dec_le}
use Rattle.ring.specs.table.{step, Allows, TableId, Holding, participant, RuleHolds, ring_of, who_of, trail_of_first, history_of_first, IsAlone, Intent, reserves, tests, asks, IsEventOf, Added}
use Rattle.ring.specs.table.{IsNewest, adds_for, GrewBy, port_of, PortValue, IsWonOrLost, IsSlotAt, MayFlipAt}
use Rattle.ring.specs.Runs.{Raw, Control, Who, Sender, Event, Won, Lost, Test, Ask, Trail, Run, trail_of, looked, start_index, taken_by, world, control, ShareAWord, Allowed, MayWin, MayLose, MayFlip}
use Rattle.ring.specs.Runs.{Ring, IsOne, EveryRun, AcknowledgedAreTaken, NumbersAreFew}
use Rattle.qindex.specs.Positions.{IndexValue, index_of}
use Rattle.qindex.specs.ControlWord.{control_in}
use Rattle.ringcore.specs.memory.Layout.{words_of}
use Rattle.ringcore.specs.memory.Flags.{ready_in}
use Rattle.ringcore.specs.machine.StepAnswers.{next_number}
use Rattle.ring.proofs.TableLemmas.Steps.{MayStep, steps_as}
use Rattle.ring.specs.Rings.{RingValue}

-- A step that its law allows, as contracts see the seat, may be taken, whatever it is for.
module _ (table : TableId) (me : Holding) (p : PortValue) (is : port_of table me ≡ p) (alone : IsAlone me (who_of me.0)) (ring : Ring) (slots id : ℕ) (intent sought : Intent) (intent_is : intent ≡ sought) (who : Who) (who_is : p.who ≡ who) where
  may_go : (says : Intent → Ring → Trail → ℕ → Event → Type 0) (i : ℕ) (f : ℕ → ℕ) → MayStep p.ring.made_with who p.trail i f (says sought p.ring.made_with p.trail)
      → Allows (RuleHolds ring) slots id me i f (Added (ring_of me.0) (who_of me.0) (trail_of_first me.0) (history_of_first me.0) (says intent (ring_of me.0) (trail_of_first me.0)))
  may_go says i f =
      subst (λ (q : PortValue × Intent). q.0.who ≡ who → MayStep q.0.ring.made_with who q.0.trail i f (says sought q.0.ring.made_with q.0.trail)
      → Allows (RuleHolds ring) slots id me i f (Added (ring_of me.0) (who_of me.0) (trail_of_first me.0) (history_of_first me.0) (says q.1 (ring_of me.0) (trail_of_first me.0)))) (λ k. (is k, sym intent_is k))
      (λ w. steps_as ring slots id who me (subst (IsAlone me) w alone) i f (says sought (ring_of me.0) (trail_of_first me.0))) who_is

  -- for a load, an or, an exclusive or and an exchange, with this first operand
  pub may_change : (i operand next : ℕ) (f : ℕ → ℕ) → MayStep p.ring.made_with who p.trail i f (IsEventOf p.ring.made_with p.trail sought operand)
      → Allows (RuleHolds ring) slots id me i f (adds_for intent (step slots i operand next none) me)
  may_change i operand next f = may_go (λ n r t. IsEventOf r t n operand) i f

  -- for a store
  pub may_store : (i x : ℕ) → MayStep p.ring.made_with who p.trail i (λ _. x) (λ _. IsEventOf p.ring.made_with p.trail sought x x)
      → Allows (RuleHolds ring) slots id me i (λ _. x) (λ _. adds_for intent (step slots i x 0 none) me x)
  may_store i x = may_go (λ n r t _. IsEventOf r t n x x) i (λ _. x)

-- A port's sender is one of the ring's.
pub sender_known : (table : TableId) (me : Holding) (p : PortValue) → port_of table me ≡ p → IsAlone me (who_of me.0) → (s : ℕ) → p.who ≡ Sender s → s < p.ring.made_with.senders
sender_known table me p is alone s who =
    subst (λ (q : PortValue). q.who ≡ Sender s → s < q.ring.made_with.senders) is
    (λ w. subst (λ (u : Who). IsOne (ring_of me.0).senders u) w alone.stands.known) who

-- ---- the words are in the table of the ring that is lent

module _ (key : Ring) (many : ℕ) (words : many ≡ words_of key.geometry key.senders) (a : RingValue) (b : RingValue) (same : a ≡ b) (table : TableId) (b_is : b ≡ record { table = table; made_with = key }) where
  pub words_are : many ≡ words_of a.made_with.geometry a.made_with.senders
  words_are = words ∙ ap (λ (r : RingValue). words_of r.made_with.geometry r.made_with.senders) (sym (same ∙ b_is))

-- ---- what a step tells, as contracts see it

pub stepped_is : (table new_table : TableId) (me new : Holding) (e : Event) (history : Run) → new_table ≡ table → new ≡ (participant (ring_of me.0) (who_of me.0) (e ∷ trail_of_first me.0) history ∷ [], [])
    → record (port_of new_table new) { history = [] } ≡ record (port_of table me) { trail = e ∷ trail_of_first me.0; history = [] }
stepped_is table new_table me new e history same is = (λ k. let q : PortValue = record (port_of (same k) (is k)) { history = [] } in q)

module _ (table new_table : TableId) (me new : Holding) (s : ℕ) (body : List Raw) (closing : Bool) (seen : Control) (x old : ℕ)
    (who_is : who_of me.0 ≡ Sender s) (looked_is : looked (trail_of_first me.0) ≡ Some seen) (same : new_table ≡ table)
    (took : Added (ring_of me.0) (who_of me.0) (trail_of_first me.0) (history_of_first me.0) (IsEventOf (ring_of me.0) (trail_of_first me.0) (reserves body closing) old) x new) where
  abbrev t : Trail
  t = trail_of_first me.0

  abbrev Told : Bool → Type 0
  Told v = IsWonOrLost body closing seen (port_of table me) (port_of new_table new) v

  -- The exchange is last in the run that is known then.
  grown : (e : Event) → took.0 ≡ e → GrewBy (who_of me.0) e (history_of_first me.0) (port_of new_table new).history
  grown e e_is = record {
    before = took.1;
    went_on = took.4.went_on;
    run_is = ap (λ (m : Holding). history_of_first m.0) took.3 ∙ ap (λ (d : Event). let l : Run = (who_of me.0, d) ∷ took.1 in l) e_is;
  }

  trail_grown : (e : Event) → took.0 ≡ e → record (port_of new_table new) { history = [] } ≡ record (port_of table me) { trail = e ∷ t; history = [] }
  trail_grown e e_is = stepped_is table new_table me new took.0 ((who_of me.0, took.0) ∷ took.1) same took.3 ∙ ap (λ (d : Event). let q : PortValue = record (port_of table me) { trail = d ∷ t; history = [] } in q) e_is

  -- It was this sender's to take at that point of the run.
  allowed : (e : Event) → took.0 ≡ e → Allowed (ring_of me.0) (world took.1) (trail_of (Sender s) took.1) (Sender s) e
  allowed e e_is = subst (λ (q : Who × Event). Allowed (ring_of me.0) (world took.1) (trail_of q.0 took.1) q.0 q.1) (λ k. (who_is k, e_is k)) took.4.after.after.run_is.1

  found_before : looked (trail_of (Sender s) took.1) ≡ Some seen
  found_before = ap looked (ap (λ (u : Who). trail_of u took.1) (sym who_is) ∙ took.4.before.trail_is) ∙ looked_is

  told_by : (v : Bool) → took.0 ≡ cond v (Won body (next_number t closing)) (Lost body closing (control_in (ring_of me.0).geometry x)) → Told v
  unfolding grown
  told_by true e_is =
      let may : MayWin (ring_of me.0) (world took.1) (trail_of (Sender s) took.1) body (next_number t closing) = allowed _ e_is in
      record { trail_is = trail_grown _ e_is; grew = grown _ e_is; stood = same_Some _ _ (sym found_before ∙ may.looked_at) }
  told_by false e_is =
      let found : Control = control_in (ring_of me.0).geometry x in
      let may : MayLose (ring_of me.0) (world took.1) (trail_of (Sender s) took.1) body closing found = allowed _ e_is in
      let history_is : (port_of new_table new).history ≡ (Sender s, Lost body closing found) ∷ took.1 = ap (λ (m : Holding). history_of_first m.0) took.3 ∙ (λ k. let l : Run = (who_is k, e_is k) ∷ took.1 in l) in
      record {
        found = found;
        other = λ is. may.other (is ∙ same_Some _ _ (sym found_before ∙ may.tries.looked_at));
        trail_is = trail_grown _ e_is;
        grew = grown _ e_is;
        found_is = may.found_is ∙ sym (ap (λ (r : Run). control (ring_of me.0).geometry (world r)) history_is);
      }

pub exchange_told_as : (table new_table : TableId) (me new : Holding) (p : PortValue) → port_of table me ≡ p → (s : ℕ) (body : List Raw) (closing : Bool) (seen : Control) (intent : Intent) (slots i x old next : ℕ)
    → p.who ≡ Sender s → looked p.trail ≡ Some seen → new_table ≡ table → intent ≡ reserves body closing → adds_for intent (step slots i old next none) me x new
    → IsWonOrLost body closing seen p (port_of new_table new) (x == old)
exchange_told_as table new_table me new p is s body closing seen intent slots i x old next who_is looked_is same intent_is did =
    subst (λ (q : PortValue). q.who ≡ Sender s → looked q.trail ≡ Some seen → IsWonOrLost body closing seen q (port_of new_table new) (x == old)) is
    (λ w l. let took = subst (λ (n : Intent). adds_for n (step slots i old next none) me x new) intent_is did in told_by table new_table me new s body closing seen x old w l same took (x == old) took.2) who_is looked_is

-- a test, of what it answers
pub tested : (table new_table : TableId) (me new : Holding) (p : PortValue) → port_of table me ≡ p → (intent : Intent) (slots i limit word found : ℕ) → new_table ≡ table → intent ≡ tests limit
    → adds_for intent (step slots i 0 0 none) me word new → found ≡ ready_in p.ring.made_with.geometry word (taken_by p.trail) limit → record (port_of new_table new) { history = [] } ≡ record p { trail = Test limit found ∷ p.trail; history = [] }
tested table new_table me new p is intent slots i limit word found same intent_is did =
    subst (λ (q : PortValue). found ≡ ready_in q.ring.made_with.geometry word (taken_by q.trail) limit → record (port_of new_table new) { history = [] } ≡ record q { trail = Test limit found ∷ q.trail; history = [] }) is
    (λ found_is.
    let told = subst (λ (n : Intent). adds_for n (step slots i 0 0 none) me word new) intent_is did in
    let e : Event = Test limit (ready_in (ring_of me.0).geometry word (taken_by (trail_of_first me.0)) limit) in
    let history : Run = (who_of me.0, told.0) ∷ told.1 in
    stepped_is table new_table me new e history same (told.3 ∙ ap (λ (d : Event). let m : Holding = (participant (ring_of me.0) (who_of me.0) (d ∷ trail_of_first me.0) history ∷ [], []) in m) told.2)
    ∙ ap (λ (n : ℕ). let q : PortValue = record (port_of table me) { trail = Test limit n ∷ trail_of_first me.0; history = [] } in q) (sym found_is))

-- ---- a flip, by what its caller knows

pub may_flip_all : (q : PortValue) (slot : IndexValue) (offset count : ℕ) → MayFlipAt q.trail offset count → IsSlotAt q slot offset
    → ((geometry position : ℕ) → slot ≡ index_of geometry position → ShareAWord 64 geometry position count)
    → (position : ℕ) → start_index q.ring.made_with.geometry q.trail ≡ index_of q.ring.made_with.geometry position → q.ring.made_with.flags ≡ 64 → MayFlip q.ring.made_with q.trail position offset count
may_flip_all q slot offset count may at share position here flags = record {
  many = may.many;
  inside = may.inside;
  in_word = subst (λ (f : ℕ). ShareAWord f q.ring.made_with.geometry (position + offset) count) (sym flags) (share q.ring.made_with.geometry (position + offset) (at position here));
  unflipped = may.unflipped;
  written = may.written;
}

-- ---- what an ask finds is a number

last_few : EveryRun AcknowledgedAreTaken → NumbersAreFew → (ring : Ring) (who : Who) (s x : ℕ) (trail : Trail) (older run : Run) (e : Event) → IsNewest ring who trail older run e → who ≡ Sender s → e ≡ Ask x → x < 2 ^ 32
last_few taken few ring who s x trail older run e last who_is e_is =
    let found : x ≡ (world run).acknowledged s = subst (λ (q : Who × Event). Allowed ring (world run) (trail_of q.0 run) q.0 q.1) (λ k. (who_is k, e_is k)) last.after.after.run_is.1 in
    let ok = last.before.after.run_is in let most = last.before.limits.batches in
    dite (dec_le 1 x)
    (λ some. let le = few ring run ok s x (taken ring run ok s x some (omega arith)) in omega arith)
    (λ none_yet. omega arith)

pub ask_few : EveryRun AcknowledgedAreTaken → NumbersAreFew → (table : TableId) (me new : Holding) (p : PortValue) → port_of table me ≡ p → (s slots i x : ℕ) → p.who ≡ Sender s → adds_for asks (step slots i 0 0 none) me x new → x < 2 ^ 32
ask_few taken few table me new p is s slots i x who did =
    last_few taken few (ring_of me.0) (who_of me.0) s x (trail_of_first me.0) (history_of_first me.0) did.1 did.0 did.4 (ap (λ (q : PortValue). q.who) is ∙ who) did.2
