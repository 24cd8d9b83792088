-- What a step of the engine comes to, in a state.
use Rattle.std.proofs.Common.{◌≡◌, ◌≢◌, ◌≤◌, ◌^◌, refl, ap, sym, ◌∙◌, subst, eq-eqb, append_assoc, arith, ℕ, ◌+◌, ◌-◌, ◌==◌, Bool, true, false, cond, List, [], ◌∷◌, ◌++◌, length, Option, Some, Result}
use Rattle.std.specs.Prelude.{◌↔◌, ◌/◌, take, slice_get, option_map}
use Rattle.std.specs.FinMap as finite
use Rattle.std.proofs.lemmas.Bool.{ne_eqb}
use Rattle.ring.specs.Runs.{Raw, Control, Consumer, Lo, Hi, Look, Test, Advance, Acknowledge, Trail, Run, trail_of, Item, World, head, world, control, Ring, IsRun, MayRead, ShareAWord}
use Rattle.ring.specs.Runs.{NeverMoreThanFull}
use Rattle.cmdcodec.specs.declared.ill.Ill.{Ill}
use Rattle.cmdcodec.specs.declared.command.Command.{Command}
use Rattle.cmdcodec.specs.Opcodes.{is_sync}
use Rattle.cmdcodec.specs.Legality.{first_ill}
use Rattle.cmdcodec.specs.Words.{decoding}
use Rattle.cmdcodec.specs.Laws.{WordsDecodeToWhatTheySpell, IllegalWordsDecodeToTheirFault}
use Rattle.qindex.specs.Indexes.{IsGeometry}
use Rattle.qindex.specs.Positions.{place}
use Rattle.qindex.specs.Laws.{IndexesTellTheQueue}
use Rattle.caches.specs.Held.{without_covered}
use Rattle.ring.specs.Rings.{RingValue}
use Rattle.ring.specs.table.Keeping.{run_by, RunStands}
use Rattle.ring.specs.Keepers.{KeeperValue, Adds}
use Rattle.ring.specs.consumer.Consumers.{ConsumerValue}
use Rattle.ring.specs.consumer.Pendings.{PendingValue, reads_from}
use Rattle.ring.specs.consumer.Taking.{TookNone}
use Rattle.ring.specs.consumer.Completing.{completed as completed_by_ring, completed_trail, unknowing, sync_sender, sync_number}
use Rattle.engine.specs.declared.answer.StepAnswer.{StepAnswer}
use Rattle.engine.specs.declared.answer.StepAnswer.TheVariants.{Empty, Drained, Unwritten, Applied, Stopped, Replaced, StillStopped, Exhausted}
use Rattle.engine.specs.declared.stop.Mode.{Mode}
use Rattle.engine.specs.declared.stop.Mode.TheVariants as mode
use Rattle.engine.specs.Stops.{IsStopped, stopped_at, gone_on}
use Rattle.engine.specs.Counting.{CountsValue, taken, AreCountsOf, counted_applied, counted_replaced}
use Rattle.engine.specs.Units.{UnitValue}
use Rattle.engine.specs.Engines.{EngineValue, IsFirst, HasStepped}
use Rattle.simulator.specs.queue.Heads as head
use Rattle.simulator.specs.queue.{Head, raw_at_head, head_of, found_by, head_taken}
use Rattle.simulator.specs.State.{State, Answered, entries, taken_so_far, removed_from, removed_in, counted, unit_of}
use Rattle.simulator.specs.{with_run, is_stopped, found, going, illegal, judged, applied, stepped, unchanged, StandFor, AreStepped}
use Rattle.simulator.proofs.Looks.{nothing_is, something_is, closed_is}
use Rattle.simulator.proofs.Standings.{own, of_own, all_counted, removed_is}

-- ---- what stands at the head, by the events that found it

module _ (tells : IndexesTellTheQueue) (within : NeverMoreThanFull) (ring : Ring) (geometry_is : IsGeometry ring.geometry) (run : Run) where
  abbrev w : World
  w = world run

  abbrev Looks : Control → Type 0
  Looks seen = IsRun ring ((Consumer, Look seen) ∷ run)

  head_itself : head w + 0 ≡ head w
  head_itself = omega arith

  -- The flag of a single command is in one word.
  one_shares : ShareAWord ring.flags ring.geometry (head w) 1
  one_shares offset less = ap (λ (k : ℕ). place ring.geometry k / ring.flags) (let e : head w + offset ≡ head w = omega (arith, less) in e)

  -- The halves that were read are those of one command.
  raw_there : (raw : Raw) (t u : Trail) → MayRead w t 0 Lo raw.lo → MayRead w u 0 Hi raw.hi → raw_at_head w ≡ Some raw
  raw_there raw t u low high =
      let one : low.item ≡ high.item = (let e : Some low.item ≡ Some high.item = sym low.there ∙ high.there in cc) in
      let lo = low.found ∙ ap (λ (i : Item). i.raw.lo) one in
      ap (λ (k : ℕ). option_map (λ (item : Item). item.raw) (slice_get w.reserved k)) (sym head_itself)
      ∙ ap (option_map (λ (item : Item). item.raw)) high.there ∙ (λ k. let o : Option Raw = Some (record { lo = sym lo k; hi = sym high.found k }) in o)

  -- what a look shows of the queue, if this is at its head
  abbrev Shows : Head → Control → Type 0
  Shows head.Empty seen = (seen.prod.number ≡ seen.cons.number) × (seen.closed ≡ false)
  Shows head.Drained seen = (seen.prod.number ≡ seen.cons.number) × (seen.closed ≡ true)
  Shows head.Unwritten seen = seen.prod.number ≢ seen.cons.number
  Shows (head.Ready raw) seen = seen.prod.number ≢ seen.cons.number

  none_there : (closed : Bool) (seen : Control) → Looks seen → seen.prod.number ≡ seen.cons.number → seen.closed ≡ closed → head_of w ≡ cond closed head.Drained head.Empty
  none_there closed seen looks nothing says =
      let empty = nothing_is tells within ring geometry_is Consumer run seen looks nothing in
      let shut : w.closed ≡ closed = closed_is tells within ring geometry_is Consumer run seen looks ∙ says in rw (empty, shut)

  head_found : (h : Head) (seen : Control) → Shows h seen → IsRun ring (run_by Consumer (found_by h (Look seen ∷ [])) ++ run) → (head_of w ≡ h) × (seen ≡ control ring.geometry w)
  head_found head.Empty seen shows ok = (none_there false seen ok shows.0 shows.1, ok.1)
  head_found head.Drained seen shows ok = (none_there true seen ok shows.0 shows.1, ok.1)
  head_found head.Unwritten seen shows ok =
      let some = something_is tells within ring geometry_is Consumer run seen ok.0 shows in
      let unflipped : w.flipped (head w) ≡ false = ap w.flipped (sym head_itself) ∙ ok.1.no_more (omega arith) one_shares in (rw (some, unflipped), ok.0.1)
  head_found (head.Ready raw) seen shows ok =
      let some = something_is tells within ring geometry_is Consumer run seen ok.0.0.0 shows in
      let flipped : w.flipped (head w) ≡ true = ap w.flipped (sym head_itself) ∙ ok.0.0.1.ready 0 (omega arith) in
      let there = raw_there raw _ _ ok.0.1 ok.1 in (rw (some, flipped, there), ok.0.0.0.1)

-- ---- events after those

earlier : (made : Ring) (more : Trail) (run : Run) → IsRun made (run_by Consumer more ++ run) → IsRun made run
earlier made [] run ok = ok
earlier made (e ∷ es) run ok = earlier made es run ok.0

run_by-append : (more t : Trail) (run : Run) → run_by Consumer (more ++ t) ++ run ≡ run_by Consumer more ++ (run_by Consumer t ++ run)
run_by-append [] t run = refl
run_by-append (e ∷ es) t run = ap (λ (r : Run). (Consumer, e) ∷ r) (run_by-append es t run)

completed_behind : (raw : Raw) (t : Trail) → completed_trail (raw ∷ []) t ≡ completed_trail (raw ∷ []) [] ++ t
completed_behind raw t = by_sync (is_sync raw)
  where
    by_sync : (b : Bool) → cond b (Acknowledge (sync_sender raw) (sync_number raw) ∷ Advance (raw ∷ []) ∷ t) (Advance (raw ∷ []) ∷ t)
        ≡ cond b (Acknowledge (sync_sender raw) (sync_number raw) ∷ Advance (raw ∷ []) ∷ []) (Advance (raw ∷ []) ∷ []) ++ t
    by_sync true = refl
    by_sync false = refl

-- a run of one command
only_one : (raws rest : List Raw) (raw : Raw) → raws ≡ raw ∷ rest → length raws ≤ 1 → raws ≡ raw ∷ []
only_one raws [] raw is few = is
only_one raws (other ∷ rest) raw is few = let long = ap (length {A = Raw}) is in absurd (omega (arith, long, few))

-- ---- the mode

stopped_by : (m : Mode) → IsStopped m → is_stopped m ≡ true
stopped_by mode.Running is = absurd is
stopped_by (mode.Stopped ill) is = refl
stopped_by mode.Replacing is = absurd is

not_stopped : (m : Mode) → ¬ IsStopped m → is_stopped m ≡ false
not_stopped mode.Running no_stop = refl
not_stopped (mode.Stopped ill) no_stop = absurd (no_stop tt)
not_stopped mode.Replacing no_stop = refl

-- ---- what the engine's step did

module _ (tells : IndexesTellTheQueue) (within : NeverMoreThanFull) (decoded : WordsDecodeToWhatTheySpell) (faults : IllegalWordsDecodeToTheirFault)
    (old new : KeeperValue) (unit moved : UnitValue) (d e : ConsumerValue UnitValue) (d_is : d.trail ≡ trail_of Consumer old.run)
    (adds : Adds Consumer e.trail old.run new.run) (stands : RunStands old.ring.made_with new.run) (same_ring : new.ring ≡ old.ring) (counts_are : AreCountsOf (world new.run).taken moved.counts) where
  -- This was found at the head, and then the consumer did as much more.
  record HasFound (h : Head) (more : Trail) : Type 0 where
    pub head_is : head_of (world old.run) ≡ h
    pub run_is : new.run ≡ run_by Consumer more ++ head_taken old.ring.made_with.geometry old.run

  finds : (h : Head) (seen : Control) (more : Trail) → Shows tells within old.ring.made_with stands.after.geometry_is old.run h seen
      → e.trail ≡ more ++ (found_by h (Look seen ∷ []) ++ trail_of Consumer old.run) → HasFound h more
  finds h seen more shows trail_is =
      let by_look : Trail = found_by h (Look seen ∷ []) in
      let run = (adds (more ++ by_look) (trail_is ∙ sym (append_assoc more by_look _))).run_is ∙ run_by-append more by_look old.run in
      let is = head_found tells within old.ring.made_with stands.after.geometry_is old.run h seen shows (earlier old.ring.made_with more _ (subst (IsRun old.ring.made_with) run stands.after.run_is)) in
      record { head_is = is.0; run_is = run ∙ (λ k. run_by Consumer more ++ (run_by Consumer (found_by (sym is.0 k) (Look (is.1 k) ∷ [])) ++ old.run)) }

  -- no event
  ran_nothing : e ≡ d → new.run ≡ old.run
  ran_nothing same = (adds [] (ap (λ (c : ConsumerValue UnitValue). c.trail) same ∙ d_is)).run_is

  looked_only : (closed : Bool) (is : TookNone closed d e) → e.trail ≡ Look is.seen ∷ trail_of Consumer old.run
  looked_only closed is = ap (λ (c : ConsumerValue UnitValue). c.trail) is.trail_is ∙ ap (λ (t : Trail). Look is.seen ∷ t) d_is

  -- the command that was read, by the one that is pending
  module _ (p : PendingValue UnitValue) (raw : Raw) (first : IsFirst 1 d p raw) where
    raws_are : p.raws ≡ raw ∷ []
    raws_are = only_one p.raws first.rest raw first.raws_are first.read.few

    pending_trail : p.consumer.trail ≡ found_by (head.Ready raw) (Look first.read.seen ∷ trail_of Consumer old.run)
    pending_trail =
        ap (λ (c : ConsumerValue UnitValue). c.trail) first.read.trail_is
        ∙ (λ k. reads_from 0 (raws_are k) (Test 1 (length (raws_are k)) ∷ Look first.read.seen ∷ d_is k))

    left_there : e ≡ p.consumer → HasFound (head.Ready raw) []
    left_there same = finds (head.Ready raw) first.read.seen [] first.read.something (ap (λ (c : ConsumerValue UnitValue). c.trail) same ∙ pending_trail)

    completed_then : record e { history = [] } ≡ completed_by_ring 1 moved (unknowing p) → HasFound (head.Ready raw) (completed_trail (raw ∷ []) [])
    completed_then same = finds (head.Ready raw) first.read.seen (completed_trail (raw ∷ []) []) first.read.something
        (ap (λ (c : ConsumerValue UnitValue). c.trail) same ∙ (λ k. completed_trail (take 1 (raws_are k)) (pending_trail k)) ∙ completed_behind raw _)

  abbrev StillAs : StepAnswer → Type 0
  StillAs answer = (answer ≡ StillStopped) ↔ IsStopped unit.stop.mode

  abbrev ExhaustedAs : StepAnswer → Type 0
  ExhaustedAs answer = (answer ≡ Exhausted) ↔ (¬ IsStopped unit.stop.mode × (taken unit.counts ≡ 2 ^ 46))

  -- The unit is that of this state but for what it counted, and so many entries were removed.
  stands_for : (state : State) (c : CountsValue) → old.ring.made_with ≡ state.ring → new.run ≡ state.run → moved ≡ record (unit_of state) { counts = c } → c.removed ≡ removed_in state.history
      → StandFor new moved state
  stands_for state c ring run is removed =
      let own_counts = ap (λ (u : UnitValue). u.counts) is in
      let counts : moved.counts ≡ counted new.run state.history = (λ k. record {
        applied = counts_are.applied k;
        replaced = counts_are.replaced k;
        syncs = counts_are.syncs k;
        removed = (ap (λ (x : CountsValue). x.removed) own_counts ∙ removed) k;
      }) in record {
        ring = ap (λ (r : RingValue). r.made_with) same_ring ∙ ring;
        run = run;
        unit_is = is ∙ ap (λ (x : CountsValue). record (unit_of state) { counts = x }) (sym own_counts ∙ counts ∙ ap (λ (r : Run). counted r state.history) run);
      }

  -- What a step of the state comes to is the answer, and they stand for the state after it.
  abbrev Comes : StepAnswer → Answered StepAnswer → Type 0
  Comes answer then = (answer ≡ then.answer) × StandFor new moved then.state

  module _ (state : State) (unit_is : unit ≡ unit_of (own old state)) where
    abbrev mine : State
    mine = own old state

    abbrev at_head : State
    at_head = with_run mine (head_taken old.ring.made_with.geometry old.run)

    many_taken : taken unit.counts ≡ taken_so_far mine
    many_taken = ap (λ (u : UnitValue). taken u.counts) unit_is ∙ all_counted (world old.run).taken state.history

    by_mode : (stopped : Bool) → is_stopped unit.stop.mode ≡ stopped → stepped mine ≡ cond stopped (unchanged StillStopped mine) (going mine)
    unfolding stepped
    by_mode stopped is = ap (λ b. cond b (unchanged StillStopped mine) (going mine)) (ap (λ (u : UnitValue). is_stopped u.stop.mode) (sym unit_is) ∙ is)

    by_count : (all : Bool) → ¬ IsStopped unit.stop.mode → (taken_so_far mine == 2 ^ 46) ≡ all → stepped mine ≡ cond all (unchanged Exhausted mine) (found (head_of (world old.run)) at_head)
    by_count all no_stop is = by_mode false (not_stopped unit.stop.mode no_stop) ∙ ap (λ b. cond b (unchanged Exhausted mine) (found (head_of (world old.run)) at_head)) is

    -- It goes on to the head.
    reads_head : (answer : StepAnswer) → StillAs answer → ExhaustedAs answer → answer ≢ StillStopped → answer ≢ Exhausted → (h : Head) (more : Trail) → HasFound h more → stepped mine ≡ found h at_head
    reads_head answer still exhausted goes more h behind is =
        let no_stop : ¬ IsStopped unit.stop.mode = (λ stop. goes (still.1 stop)) in
        by_count false no_stop (ne_eqb (taken_so_far mine) (2 ^ 46) (λ all. more (exhausted.1 (no_stop, many_taken ∙ all)))) ∙ ap (λ x. found x at_head) is.head_is

    -- an illegal command, by the mode
    refused : (raw : Raw) (ill : Ill) {m : Mode} → first_ill raw ≡ Some ill → unit.stop.mode ≡ m → judged raw (decoding raw) at_head ≡ illegal raw ill m at_head
    refused raw ill first is = ap (λ (r : Result Command Ill). judged raw r at_head) (faults raw ill first) ∙ ap (λ (x : Mode). illegal raw ill x at_head) (ap (λ (u : UnitValue). u.stop.mode) (sym unit_is) ∙ is)

    -- it takes nothing
    stays : (answer : StepAnswer) (run : Run) → new.run ≡ run → moved ≡ unit → stepped mine ≡ unchanged answer (with_run mine run) → Comes answer (stepped mine)
    stays answer run run_is same says = subst (Comes answer) (sym says) (refl, stands_for (with_run mine run) (counted old.run state.history) refl run_is (same ∙ unit_is) refl)

    by_answer : (answer : StepAnswer) → HasStepped (record { consumer = d; unit = unit }) (record { consumer = e; unit = moved }) answer → StillAs answer → ExhaustedAs answer → Comes answer (stepped mine)
    by_answer Empty did still exhausted =
        let is = finds head.Empty did.0.seen [] (did.0.nothing, did.0.closed_is) (looked_only false did.0) in
        stays Empty at_head.run is.run_is did.1 (reads_head Empty still exhausted (λ x. absurd cc) (λ x. absurd cc) head.Empty [] is)
    by_answer Drained did still exhausted =
        let is = finds head.Drained did.0.seen [] (did.0.nothing, did.0.closed_is) (looked_only true did.0) in
        stays Drained at_head.run is.run_is did.1 (reads_head Drained still exhausted (λ x. absurd cc) (λ x. absurd cc) head.Drained [] is)
    by_answer Unwritten did still exhausted =
        let trail_is = ap (λ (c : ConsumerValue UnitValue). c.trail) did.0.trail_is ∙ ap (λ (t : Trail). Test 1 0 ∷ Look did.0.seen ∷ t) d_is in
        let is = finds head.Unwritten did.0.seen [] did.0.something trail_is in
        stays Unwritten at_head.run is.run_is did.1 (reads_head Unwritten still exhausted (λ x. absurd cc) (λ x. absurd cc) head.Unwritten [] is)
    by_answer (Applied command removed) (p, raw, first, did, done) still exhausted =
        let is = completed_then p raw first done.consumer_is in
        let says = reads_head (Applied command removed) still exhausted (λ x. absurd cc) (λ x. absurd cc) (head.Ready raw) _ is ∙ ap (λ (r : Result Command Ill). judged raw r at_head) (decoded raw command did.legal.spelled) in
        let held_before = ap (λ (u : UnitValue). u.caches.entries) unit_is in
        let held_after = did.entries ∙ ap (without_covered command) held_before in
        let capacity = did.capacity ∙ ap (λ (u : UnitValue). u.caches.capacity) unit_is in
        let stop = did.stop ∙ ap (λ (u : UnitValue). gone_on u.stop) unit_is in
        let removed_are : removed ≡ removed_from command (entries mine) = removed_is removed _ _ did.removed_are ∙ (λ k. finite.len (held_before k) - finite.len (held_after k)) in
        let counts = did.counts ∙ (λ k. counted_applied raw (removed_are k) (unit_is k).counts) in
        subst (Comes (Applied command removed)) (sym says) (
          ap (Applied command) removed_are,
          stands_for (applied raw command at_head).state _ refl is.run_is (λ k. record { caches = record { capacity = capacity k; entries = held_after k }; stop = stop k; counts = counts k }) refl,
        )
    by_answer (Stopped ill) (p, raw, first, did, consumer_is) still exhausted =
        let is = left_there p raw first consumer_is in
        let says = reads_head (Stopped ill) still exhausted (λ x. absurd cc) (λ x. absurd cc) (head.Ready raw) [] is ∙ refused raw ill did.first did.running in
        subst (Comes (Stopped ill)) (sym says)
        (refl, stands_for (illegal raw ill mode.Running at_head).state _ refl is.run_is (did.new_is ∙ ap (λ (u : UnitValue). record u { stop = stopped_at raw ill u.stop }) unit_is) refl)
    by_answer (Replaced ill) (p, raw, first, did, done) still exhausted =
        let is = completed_then p raw first done.consumer_is in
        let says = reads_head (Replaced ill) still exhausted (λ x. absurd cc) (λ x. absurd cc) (head.Ready raw) _ is ∙ refused raw ill did.first did.told in
        subst (Comes (Replaced ill)) (sym says)
        (refl, stands_for (illegal raw ill mode.Replacing at_head).state _ refl is.run_is (did.new_is ∙ ap (λ (u : UnitValue). record u { stop = gone_on u.stop; counts = counted_replaced raw u.counts }) unit_is) refl)
    by_answer StillStopped did still exhausted =
        stays StillStopped old.run (ran_nothing (ap (λ (v : EngineValue). v.consumer) did.1)) (ap (λ (v : EngineValue). v.unit) did.1) (by_mode true (stopped_by unit.stop.mode did.0))
    by_answer Exhausted did still exhausted =
        let at = exhausted.0 refl in
        stays Exhausted old.run (ran_nothing (ap (λ (v : EngineValue). v.consumer) did.1)) (ap (λ (v : EngineValue). v.unit) did.1)
        (by_count true at.0 (eq-eqb (taken_so_far mine) (2 ^ 46) (sym many_taken ∙ at.1)))

  pub engine_steps : (answer : StepAnswer) → HasStepped (record { consumer = d; unit = unit }) (record { consumer = e; unit = moved }) answer → StillAs answer → ExhaustedAs answer → AreStepped old unit new moved answer
  engine_steps answer did still exhausted = of_own old unit (λ state. Comes answer (stepped state)) (λ state unit_is. by_answer state unit_is answer did still exhausted)
