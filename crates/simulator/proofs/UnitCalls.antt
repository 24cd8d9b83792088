-- The results of a fill and an acknowledgement, by what the unit is answered, and how the simulator stands after them.
use Rattle.std.proofs.Common.{◌≡◌, refl, ap, sym, ◌∙◌, subst, ℕ, ◌+◌, ◌%◌, ◌^◌, ◌==◌, Bool, true, false, nat_le, List, [], Option, Some, None, Result, Ok, Err, append-nil}
use Rattle.std.specs.Prelude.{⊤, ◌↔◌, Decides, OnOk, OnErr}
use Rattle.std.specs.FinMap as finite
use Rattle.std.proofs.lemmas.Bool.{leb-true, le-leb, eq-eqb, ne_eqb, true≢false, false≢true, false_from_ne_true, true_from_ne_false}
use Rattle.std.proofs.lemmas.Bool.Decides.{Decides-like, Decides-and, Decides-eqb, not_from_Decides}
use Rattle.ring.specs.Runs.{Raw, Consumer, trail_of, Taken, world}
use Rattle.ring.specs.Keepers.{KeeperValue, IdleConsumerValue}
use Rattle.ring.specs.consumer.Completing.{taken_of}
use Rattle.caches.specs.declared.tag.Tag.{Tag}
use Rattle.caches.specs.declared.tag.Tag.TheVariants.{Ste, Cd, S1, S2, El2, Atc}
use Rattle.caches.specs.declared.tag.Entry.{Entry}
use Rattle.caches.specs.declared.fault.CacheFault.{CacheFault}
use Rattle.caches.specs.declared.fault.CacheFault.TheVariants.{Full, BadBlock, NoMemory, BadCapacity}
use Rattle.caches.specs.Blocks.{IsAligned, IsBlock}
use Rattle.caches.specs.Held.{Evict}
use Rattle.caches.specs.Stored.{Stored, IsFillAnswer}
use Rattle.engine.specs.declared.stop.Mode.{Mode}
use Rattle.engine.specs.declared.stop.Mode.TheVariants as mode
use Rattle.engine.specs.declared.remedy.Remedy.{Remedy}
use Rattle.engine.specs.declared.remedy.AckFault.{AckFault}
use Rattle.engine.specs.declared.remedy.AckFault.TheVariants.{NoError, OtherBit}
use Rattle.engine.specs.Settled.{IsSettled}
use Rattle.engine.specs.Stops.{IsStopped, IsAcknowledgementAnswer, acknowledged_by, command_queue_bit}
use Rattle.engine.specs.Counting.{CountsValue, taken, AreCountsOf}
use Rattle.engine.specs.Units.{UnitValue, StaysSettled, with_entries, filled as filled_in_unit}
use Rattle.simulator.specs.queue.{QueueValue}
use Rattle.simulator.specs.State.{State, Answered, entries, unit_of}
use Rattle.simulator.specs.{is_aligned, is_block, with_item, fill_fault, filled_unless, filled, is_stopped, same_bit, acknowledged_if, acknowledged, StandFor, IsSimulator}
use Rattle.simulator.proofs.Standings.{all_counted}

-- ---- the simulator after a call that takes nothing

-- what the unit and the consumer keep together, but for the entries
abbrev pub kept : UnitValue → CountsValue × Option Raw
kept unit = (unit.counts, unit.stop.next)

-- It stays whatever is answered.
pub stays : {X E : Type 0} (r : Result X E) (old then new : UnitValue) → kept then ≡ kept old → OnOk r (new ≡ then) → OnErr r (new ≡ old) → kept new ≡ kept old
stays (Ok x) old then new same ok err = ap kept ok ∙ same
stays (Err e) old then new same ok err = ap kept err

pub after_unit : (queue : QueueValue) (consumer : Option (IdleConsumerValue UnitValue)) (old new : UnitValue) (state : State) → kept new ≡ kept old → StaysSettled old new []
    → IsSimulator queue consumer old → StandFor queue.keeper new state → IsSimulator queue consumer new
after_unit queue consumer old new state same keeps is stands =
    let t : List Taken = taken_of (trail_of Consumer queue.keeper.run) in
    record {
      there = is.there;
      together = record {
        many = ap (λ (k : CountsValue × Option Raw). taken k.0) same ∙ is.together.many;
        counted = subst (λ (k : CountsValue × Option Raw). AreCountsOf t k.0) (sym same) is.together.counted;
        settled = subst (λ (l : List Taken). IsSettled new.caches.entries l) (append-nil t) (keeps t (sym is.together.many) is.together.settled);
        seen = λ raw e. is.together.seen raw (ap (λ (k : CountsValue × Option Raw). k.1) (sym same) ∙ e);
      };
      state = state;
      stands = stands;
    }

-- ---- an acknowledgement

module _ (keeper : KeeperValue) (unit new : UnitValue) (remedy : Remedy) (r : Result ⊤ AckFault) (ok : OnOk r (new ≡ record unit { stop = acknowledged_by remedy unit.stop })) (err : OnErr r (new ≡ unit))
    (state : State) (s : StandFor keeper unit state) where
  abbrev IsDone : Answered (Result ⊤ AckFault) → Type 0
  IsDone done = (r ≡ done.answer) × StandFor keeper new done.state

  refused : (fault : AckFault) → r ≡ Err fault → IsDone (record { answer = Err fault; state = state })
  refused fault e = (e, record { ring = s.ring; run = s.run; unit_is = subst (λ (q : Result ⊤ AckFault). OnErr q (new ≡ unit)) e err ∙ s.unit_is })

  granted : ¬ (r ≡ Err NoError) → ¬ (r ≡ Err OtherBit) → IsDone (acknowledged_if true true remedy state)
  granted active same = (
    e,
    record {
      ring = s.ring;
      run = s.run;
      unit_is = subst (λ (q : Result ⊤ AckFault). OnOk q (new ≡ record unit { stop = acknowledged_by remedy unit.stop })) e ok ∙ ap (λ (u : UnitValue). record u { stop = acknowledged_by remedy u.stop }) s.unit_is;
    },
  )
    where
      no_fault : (q : Result ⊤ AckFault) → ¬ (q ≡ Err NoError) → ¬ (q ≡ Err OtherBit) → q ≡ Ok tt
      no_fault (Ok t) active same = refl
      no_fault (Err NoError) active same = absurd (active refl)
      no_fault (Err OtherBit) active same = absurd (same refl)

      e : r ≡ Ok tt
      e = no_fault r active same

  by_tests : (m : Mode) (a b : Bool) → ((r ≡ Err NoError) ↔ ¬ IsStopped m) → ((r ≡ Err OtherBit) ↔ (IsStopped m × (a ≡ b → ⊥))) → IsDone (acknowledged_if (is_stopped m) (same_bit a b) remedy state)
  by_tests mode.Running a b none other = refused NoError (none.1 (λ is. is))
  by_tests mode.Replacing a b none other = refused NoError (none.1 (λ is. is))
  by_tests (mode.Stopped ill) true true none other = granted (λ e. none.0 e tt) (λ e. (other.0 e).1 refl)
  by_tests (mode.Stopped ill) false false none other = granted (λ e. none.0 e tt) (λ e. (other.0 e).1 refl)
  by_tests (mode.Stopped ill) true false none other = refused OtherBit (other.1 (tt, true≢false))
  by_tests (mode.Stopped ill) false true none other = refused OtherBit (other.1 (tt, false≢true))

  pub acknowledged_is : (gerrorn : ℕ) → IsAcknowledgementAnswer unit.stop gerrorn r → IsDone (acknowledged gerrorn remedy state)
  unfolding acknowledged
  acknowledged_is gerrorn answer =
      let is = subst (λ (u : UnitValue). IsAcknowledgementAnswer u.stop gerrorn r) s.unit_is answer in by_tests state.stop.mode (command_queue_bit gerrorn) state.stop.error is.none is.other

-- ---- blocks

aligned : (page span : ℕ) → Decides (is_aligned page span) (IsAligned page span)
aligned page span = Decides-like (is_aligned page span) (λ both. record { at_most = both.0; multiple = both.1 }) (λ is. (is.at_most, is.multiple))
    (Decides-and (nat_le span 52) (page % 2 ^ span == 0) (leb-true span 52, le-leb span 52) (Decides-eqb (page % 2 ^ span) 0))

block : (tag : Tag) → Decides (is_block tag) (IsBlock tag)
block (Ste sid) = (λ e. tt, λ is. refl)
block (Cd sid ssid) = (λ e. tt, λ is. refl)
block (S1 vmid scope page span) = aligned page span
block (S2 vmid page span) = Decides-and (is_aligned page span) (nat_le (page + 2 ^ span) (2 ^ 40)) (aligned page span) (leb-true (page + 2 ^ span) (2 ^ 40), le-leb (page + 2 ^ span) (2 ^ 40))
block (El2 scope page span) = aligned page span
block (Atc sid ssid page span) = aligned page span

-- ---- a fill

abbrev fault_in : Result (Option Entry) CacheFault → Option CacheFault
fault_in (Ok was) = None
fault_in (Err fault) = Some fault

-- The test has the fault that was answered; whether memory runs out is a choice.
module _ (state : State) (tag : Tag) where
  abbrev stored : Stored
  stored = record { capacity = state.capacity; entries = entries state }

  -- a well formed block, unless it was refused for that
  well_formed : (r : Result (Option Entry) CacheFault) → IsFillAnswer stored tag r → ¬ (r ≡ Err BadBlock) → is_block tag ≡ true
  well_formed r answer other = true_from_ne_false (is_block tag) (λ e. other (answer.bad.1 (not_from_Decides (is_block tag) (block tag) e)))

  not_full : (r : Result (Option Entry) CacheFault) → IsFillAnswer stored tag r → is_block tag ≡ true → finite.get (entries state) tag ≡ None → ¬ (r ≡ Err Full)
      → (finite.len (entries state) == state.capacity) ≡ false
  not_full r answer formed absent other = ne_eqb (finite.len (entries state)) state.capacity (λ same. other (answer.full.1 ((block tag).0 formed, absent, same)))

  accepted : (was given : Option Entry) → IsFillAnswer stored tag (Ok given) → finite.get (entries state) tag ≡ was → fill_fault false tag state ≡ None
  accepted (Some old) given answer there = let formed = well_formed (Ok given) answer (λ bad. absurd cc) in rw (formed, there)
  accepted None given answer there =
      let formed = well_formed (Ok given) answer (λ bad. absurd cc) in
      let room = not_full (Ok given) answer formed there (λ full. absurd cc) in rw (formed, there, room)

  fault_is : (r : Result (Option Entry) CacheFault) → IsFillAnswer stored tag r → (wanting : Bool) × (fill_fault wanting tag state ≡ fault_in r)
  fault_is (Ok given) answer = (false, accepted (finite.get (entries state) tag) given answer refl)
  fault_is (Err BadBlock) answer = let bad = false_from_ne_true (is_block tag) (λ e. answer.bad.0 refl ((block tag).0 e)) in (false, rw bad)
  fault_is (Err Full) answer =
      let is = answer.full.0 refl in
      let formed = (block tag).1 is.0 in
      let there = is.1 in
      let full = eq-eqb (finite.len (entries state)) state.capacity is.2 in (false, rw (formed, there, full))
  fault_is (Err NoMemory) answer =
      let formed = well_formed (Err NoMemory) answer (λ bad. absurd cc) in
      let there = answer.new_only refl in
      let room = not_full (Err NoMemory) answer formed there (λ full. absurd cc) in (true, rw (formed, there, room))
  fault_is (Err BadCapacity) answer = absurd (answer.named refl)

module _ (keeper : KeeperValue) (unit new : UnitValue) (state : State) (tag : Tag) (value : ℕ) (s : StandFor keeper unit state) where
  abbrev IsFilled : Result (Option Entry) CacheFault → Answered (Result (Option Entry) CacheFault) → Type 0
  IsFilled r done = (r ≡ done.answer) × StandFor keeper new done.state

  by_fault : (r : Result (Option Entry) CacheFault) → IsFillAnswer unit.caches tag r → OnOk r (new ≡ with_entries unit (filled_in_unit tag value unit)) → OnErr r (new ≡ unit)
      → IsFilled r (filled_unless (fault_in r) tag value state)
  by_fault (Ok was) answer ok err = (
    ap Ok (answer.was ∙ ap (λ (u : UnitValue). finite.get u.caches.entries tag) s.unit_is),
    record {
      ring = s.ring;
      run = s.run;
      unit_is = ok ∙ ap (λ (u : UnitValue). with_entries u (filled_in_unit tag value u)) s.unit_is
          ∙ ap (λ n. with_entries (unit_of state) (finite.insert (entries state) tag (record { tag = tag; value = value; born = n }))) (all_counted (world state.run).taken state.history);
    },
  )
  by_fault (Err fault) answer ok err = (refl, record { ring = s.ring; run = s.run; unit_is = err ∙ s.unit_is })

  pub filled_is : (r : Result (Option Entry) CacheFault) → IsFillAnswer unit.caches tag r → OnOk r (new ≡ with_entries unit (filled_in_unit tag value unit)) → OnErr r (new ≡ unit)
      → (wanting : Bool) × (r ≡ (filled wanting tag value state).answer) × StandFor keeper new (filled wanting tag value state).state
  unfolding filled
  filled_is r answer ok err =
      let fault = fault_is state tag r (subst (λ (u : UnitValue). IsFillAnswer u.caches tag r) s.unit_is answer) in
      let done = subst (λ f. IsFilled r (filled_unless f tag value state)) (sym fault.1) (by_fault r answer ok err) in (fault.0, done.0, done.1)

-- ---- an eviction

pub evicted_is : (keeper : KeeperValue) (unit new : UnitValue) (tag : Tag) (state : State) → new ≡ with_entries unit (finite.remove unit.caches.entries tag) → StandFor keeper unit state
    → StandFor keeper new (with_item (Evict tag) state)
evicted_is keeper unit new tag state e s =
    record { ring = s.ring; run = s.run; unit_is = e ∙ ap (λ (u : UnitValue). with_entries u (finite.remove u.caches.entries tag)) s.unit_is }
