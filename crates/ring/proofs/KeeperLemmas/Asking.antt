-- One step of a sender that asks, looks or closes, and a load of the control word.
use Rattle.std.proofs.Common.{rules, ◌≡◌, ℕ, ◌<◌, Bool, cond, List, [], ◌∷◌, refl, sym, ap, ◌∙◌, subst}
use Rattle.std.specs.Prelude.{◌==◌, None, slice_index}
use Rattle.std.proofs.lemmas.Bool.{cond_both}
use mathlib.Core.Option.{none}
use Rattle.ring.specs.table.{step, Allows, TableId, Participant, Holding, RuleHolds, Any, ring_of, history_of_first, all_knowing, has_found, RunStands, AllKnow, PortValue}
use Rattle.ring.specs.Runs.{Raw, Control, Consumer, Sender, Half, Event, Look, Close, Ask, Trail, Run, trail_of, batches_made, numbers_given, reserved_length, has_written, has_flipped, start_index}
use Rattle.ring.specs.Runs.{world, control, Ring, Allowed, IsRun}
use Rattle.qindex.specs.ControlWord.{control_in}
use Rattle.ringcore.specs.memory.Layout.{control_word}
use Rattle.ringcore.specs.memory.StepLaws.{Always, LooksByALoad, reserved_commands}
use Rattle.ring.specs.sender.{Tally, IsTallied, IsSender, reserved_number, reserved_body, IsOpen}
use Rattle.ring.specs.Keepers.{KeeperValue, keeper_of, IsKeeper, own_port, has_lent, has_back, with_step, IdleReservationValue, KeepsAll}
use Rattle.ring.proofs.TableLemmas.Meetings.{finds_at}
use Rattle.ring.proofs.KeeperLemmas.Growing.{grown_run_is}
use Rattle.ring.proofs.KeeperLemmas.Seated.{all_sit, same_history}

-- ---- one step of a sender

-- The keeper's run is longer by the sender's event, which it was allowed to take.
pub record IsStep (s : ℕ) (e : Event) (old new : KeeperValue) : Type 0 where
  pub keeper_is : new ≡ with_step (Sender s) e old
  pub allowed : Allowed old.ring.made_with (world old.run) (trail_of (Sender s) old.run) (Sender s) e

pub is_step : (s : ℕ) (e : Event) (old lent back : KeeperValue) (port now : PortValue) → old.lent ≡ None → port ≡ own_port (Sender s) old → lent ≡ has_lent (Sender s) old
    → record now { history = [] } ≡ record port { trail = e ∷ port.trail; history = [] } → back ≡ has_back now.who now.trail lent → RunStands back.ring.made_with back.run → IsStep s e old back
is_step s e old lent back port now whole port_is lent_is did back_is stands =
    let trail_is : now.trail ≡ e ∷ trail_of (Sender s) old.run = ap (λ (p : PortValue). p.trail) did ∙ ap (λ (p : PortValue). let t : Trail = e ∷ p.trail in t) port_is in
    let who_is : now.who ≡ Sender s = ap (λ (p : PortValue). p.who) did ∙ ap (λ (p : PortValue). p.who) port_is in
    let run_is = grown_run_is (Sender s) old.run (e ∷ trail_of (Sender s) old.run) (e ∷ []) refl in
    let is : back ≡ with_step (Sender s) e old = back_is ∙ (λ k. has_back (who_is k) (trail_is k) (lent_is k))
    ∙ (λ k. let q : KeeperValue = record { ring = old.ring; lent = sym whole k; run = run_is k } in q) in
    let ok : IsRun old.ring.made_with ((Sender s, e) ∷ old.run) = subst (λ (q : KeeperValue). IsRun q.ring.made_with q.run) is stands.after.run_is in
    record { keeper_is = is; allowed = ok.1 }

-- ---- what it leaves

-- Everything that a sender's trail says of it is the same.
pub record Leaves (t u : Trail) : Type 0 where
  pub batches : batches_made u ≡ batches_made t
  pub numbers : numbers_given u ≡ numbers_given t
  pub many : reserved_length u ≡ reserved_length t
  pub number : reserved_number u ≡ reserved_number t
  pub body : reserved_body u ≡ reserved_body t
  pub commands : (s : ℕ) → reserved_commands s u ≡ reserved_commands s t
  pub start : (geometry : ℕ) → start_index geometry u ≡ start_index geometry t
  pub written : (slot : ℕ) (half : Half) → has_written slot half u ≡ has_written slot half t
  pub flipped : (slot : ℕ) → has_flipped slot u ≡ has_flipped slot t

abbrev pub LeavesAll : Event → Type 0
LeavesAll e = (t : Trail) → Leaves t (e ∷ t)

pub look_leaves_all : (found : Control) → LeavesAll (Look found)
look_leaves_all found t = search rules

pub close_leaves_all : LeavesAll Close
close_leaves_all t = search rules

pub ask_leaves_all : (found : ℕ) → LeavesAll (Ask found)
ask_leaves_all found t = search rules

-- whether the event is its own or not
leaves_either : (e : Event) → LeavesAll e → (own : Bool) (t : Trail) → Leaves t (cond own (e ∷ t) t)
leaves_either e leaves own t = cond_both own (e ∷ t) t (Leaves t) (λ _. leaves t) (λ _. search rules)

left_tally : (p : PortValue) (u : Trail) (h : Run) (tally : Tally) → Leaves p.trail u → IsTallied p tally → IsTallied (record p { trail = u; history = h }) tally
left_tally p u h tally leaves is = let batches = is.batches_are ∙ sym leaves.batches in let numbers = is.numbers_are ∙ sym leaves.numbers in search rules

left_sender : (p : PortValue) (u : Trail) (h : Run) (tally : Tally) → Leaves p.trail u → IsSender p tally → IsSender (record p { trail = u; history = h }) tally
left_sender p u h tally leaves is = record {
  tallied = left_tally p u h tally leaves is.tallied;
  settled = λ slot low. leaves.flipped slot ∙ is.settled slot (subst (λ (n : ℕ). slot < n) leaves.many low);
}

left_open : (p : PortValue) (u : Trail) (h : Run) (body : List Raw) (idle : IdleReservationValue) → Leaves p.trail u → IsOpen p idle.tally body idle.closes idle.start idle.written idle.flipped
    → IsOpen (record p { trail = u; history = h }) idle.tally body idle.closes idle.start idle.written idle.flipped
left_open p u h body idle leaves is =
    let tallied = left_tally p u h idle.tally leaves is.tallied in
    let number = leaves.number ∙ is.number_is in
    let reserved = leaves.body ∙ is.reserved in
    let commands = leaves.commands idle.tally.sender ∙ is.commands_are in
    let many = leaves.many ∙ is.many in
    let start = is.start_is ∙ sym (leaves.start p.ring.made_with.geometry) in
    let written = λ (slot : ℕ) (half : Half). leaves.written slot half ∙ is.in_written slot half in
    let flipped = λ (slot : ℕ). leaves.flipped slot ∙ is.in_flipped slot in search rules

pub keeps_all : (s : ℕ) (e : Event) (old new : KeeperValue) → LeavesAll e → IsStep s e old new → KeepsAll old new
keeps_all s e old new leaves did =
    let run : Run = (Sender s, e) ∷ old.run in
    let left : (u : ℕ) → Leaves (trail_of (Sender u) old.run) (trail_of (Sender u) run) = λ u. leaves_either e leaves (u == s) (trail_of (Sender u) old.run) in
    let base : KeepsAll old (with_step (Sender s) e old) = record {
      senders = λ tally is. left_sender (own_port (Sender tally.sender) old) (trail_of (Sender tally.sender) run) run tally (left tally.sender) is;
      reservations = λ body idle is. left_open (own_port (Sender idle.tally.sender) old) (trail_of (Sender idle.tally.sender) run) run body idle (left idle.tally.sender) is;
      consumer = λ head taken is. record { who_is = is.who_is; head_is = is.head_is; taken_is = is.taken_is; current = is.current };
    } in subst (KeepsAll old) (sym did.keeper_is) base

-- ---- a load of the control word

finds_of : (key : Ring) (slots id i : ℕ) (P : Participant → Type 0) (v : List Participant) → Any P v → Allows (RuleHolds key) slots id (v, []) i (λ x. x) (has_found (step slots i 0 0 none) (v, []))
finds_of key slots id i P [] one = absurd one
finds_of key slots id i P (g ∷ hs) one = finds_at key slots id i g hs

-- Those who know a run learn nothing new.
knowing_same : (z : Ring) (run : Run) (v : List Participant) → AllKnow z run v → all_knowing run v ≡ v
knowing_same z run [] all = refl
knowing_same z run (p ∷ ps) all =
    let known : run ≡ p.history = sym (ap (λ (q : Participant). q.history) all.0) in
    (λ k. let l : List Participant = record p { history = known k } ∷ knowing_same z run ps all.1 k in l)

module _ (table : TableId) (p : KeeperValue) (me : Holding) (is : keeper_of table me.0 ≡ p) (keeps : IsKeeper me) (whole : p.lent ≡ None) where
  abbrev z : Ring
  z = ring_of me.0

  pub finds_as : (key : Ring) (slots id i : ℕ) → Allows (RuleHolds key) slots id me i (λ x. x) (has_found (step slots i 0 0 none) me)
  finds_as key slots id i =
      subst (λ (m : Holding). Allows (RuleHolds key) slots id m i (λ x. x) (has_found (step slots i 0 0 none) m)) (λ k. let m : Holding = (me.0, sym keeps.no_slots k) in m)
      (finds_of key slots id i (λ q. q.who ≡ Consumer) me.0 (all_sit table p me.0 is keeps.knows whole Consumer tt))

  module _ (i word : ℕ) (last : Holding) (at : i ≡ control_word) (did : has_found (step 0 i 0 0 none) me word last) where
    met_run : history_of_first me.0 ≡ did.0.0
    met_run = same_history z (history_of_first me.0) did.0.0 me.0 keeps.knows.each (did.0.4 (all_sit table p me.0 is keeps.knows whole))

    stays : last ≡ me
    stays = did.0.3 ∙ (λ k. let m : Holding = (all_knowing (sym met_run k) me.0, me.1) in m)
        ∙ (λ k. let m : Holding = (knowing_same z (history_of_first me.0) me.0 keeps.knows.each k, me.1) in m)

    pub still_keeper : IsKeeper last
    still_keeper = subst IsKeeper (sym stays) keeps

    pub same_keeper : (last_table : TableId) → last_table ≡ table → keeper_of last_table last.0 ≡ p
    same_keeper last_table same = (λ k. keeper_of (same k) (stays k).0) ∙ is

    word_is : word ≡ slice_index did.0.1 control_word
    word_is = did.1 ∙ ap (slice_index did.0.1) at

    pub control_is : Always LooksByALoad → control_in p.ring.made_with.geometry word ≡ control p.ring.made_with.geometry (world p.run)
    control_is finds =
        let now : control_in z.geometry (slice_index did.0.1 control_word) ≡ control z.geometry (world did.0.0) = (finds z did.0.0 did.0.1 did.0.2.after Consumer).run_is.1 in
        let here : control_in z.geometry word ≡ control z.geometry (world (history_of_first me.0)) =
        ap (control_in z.geometry) word_is ∙ now ∙ ap (λ (r : Run). control z.geometry (world r)) (sym met_run) in
        subst (λ (q : KeeperValue). control_in q.ring.made_with.geometry word ≡ control q.ring.made_with.geometry (world q.run)) is here
