-- The steps of the consumer: a machine that took one stands for the longer run.
use Rattle.std.proofs.Common.{◌≡◌, ℕ, suc, ◌+◌, ◌<◌, ◌≤◌, Bool, true, false, ◌==◌, ◌&&◌, List, ◌∷◌, Option, Some, None, refl, sym, ap, ap₂, ◌∙◌, subst, inl, inr, eq-eqb, arith}
use Rattle.ringcore.proofs.MachineLemmas.SomeAndAllBelow.{some_there}
use Rattle.std.proofs.lemmas.Bool.{cases_lt, lt-ltb}
use Rattle.std.specs.Prelude.{slice_get, slice_index, nat_lt, if◌then◌else◌}
use Rattle.cmdcodec.specs.Bodies.{most_batches}
use Rattle.cmdcodec.specs.Opcodes.{is_sync}
use Rattle.ringcore.specs.declared.world.event.Who.TheVariants.{Consumer}
use Rattle.ringcore.specs.declared.world.event.Event.{Event}
use Rattle.ringcore.specs.declared.world.event.Event.TheVariants as event
use Rattle.ringcore.specs.declared.machine.step.Step.TheVariants.{Test, Acknowledge}
use Rattle.ringcore.specs.declared.machine.step.Seen.TheVariants.{Ready, Acknowledged}
use Rattle.ringcore.specs.declared.machine.step_fault.StepFault.{StepFault}
use Rattle.ringcore.specs.declared.machine.step_fault.StepFault.TheVariants.{NotNext}
use Rattle.ringcore.specs.world.Trails.{Run, trail_of}
use Rattle.ringcore.specs.world.World.{Item, World, sync_raw, head, world}
use Rattle.ringcore.specs.world.Allowed.{Ring, FindsReady, SyncIsTaken}
use Rattle.ringcore.specs.memory.Layout.{flag_word, cell}
use Rattle.ringcore.specs.memory.Flags.{IsReadyRun}
use Rattle.ringcore.specs.world.Laws.{OnlyOf, syncs_taken, EveryRun, AcknowledgedAreTaken, SyncsAreCounted, NumbersAreFew}
use Rattle.ringcore.specs.memory.Shadow.{AreAfter}
use Rattle.ringcore.specs.memory.StepLaws.{Always, TestsByALoad, AcknowledgesByAStore}
use Rattle.ringcore.specs.memory.WordStores.{WordsValue, with_word}
use Rattle.ringcore.specs.machine.ConsumerViews.{ConsumerValue, ConsumerKnows}
use Rattle.ringcore.specs.machine.SyncTallies.{AreTallies}
use Rattle.ringcore.specs.machine.Faults.{unless_missing, sync_is_taken, has_number, is_sync_of, acknowledge_fault, fault_of}
use Rattle.ringcore.specs.machine.StepAnswers.{ready_count}
use Rattle.ringcore.specs.machine.Played.{StepsAreAllowed}
use Rattle.ringcore.specs.machine.Core.{CoreValue, ring_with, ring_of, StandsAfter, IsMachine, AfterEachRun, IsTaken}
use Rattle.ringcore.proofs.MachineLemmas.ConsumerKnows.{acknowledgement_leaves}
use Rattle.ringcore.proofs.MachineLemmas.SenderKnows.{others}
use Rattle.ringcore.proofs.WorldLemmas.Lists.{off}
use Rattle.ringcore.proofs.MachineLemmas.Standing.{stays_machine}
use Rattle.ringcore.proofs.WorldLemmas.Syncs.{sync_opcode}
use Rattle.ringcore.proofs.MachineLemmas.Tallies.{others_dont_count}

-- The senders' views stay as they are.
pub consumer_stands : (old : CoreValue) (run : Run) (e : Event) → StandsAfter old run
    → (words : WordsValue) → ring_with words.geometry words.senders ≡ ring_of old → AreAfter (ring_of old) ((Consumer, e) ∷ run) words.words
    → (consumer : ConsumerValue) → ConsumerKnows ((Consumer, e) ∷ run) consumer → (tallies : List ℕ) → AreTallies ((Consumer, e) ∷ run) tallies
    → StandsAfter (record { words = words; senders = old.senders; consumer = consumer; tallies = tallies }) ((Consumer, e) ∷ run)
consumer_stands old run e stands words ring are consumer knows tallies counted = record {
  words_are = subst (λ r. AreAfter r ((Consumer, e) ∷ run) words.words) (sym ring) are;
  only = subst (λ r. OnlyOf r.senders ((Consumer, e) ∷ run)) (sym ring) (tt, stands.only);
  senders_know = λ s view at. others run s view Consumer e (λ is. cc) (stands.senders_know s view at);
  consumer_knows = knows;
  tallies_are = counted;
}

-- ---- test

fewer_found : (ring : Ring) (w : World) (limit a b : ℕ) → FindsReady ring w limit a → FindsReady ring w limit b → a < b → ⊥
fewer_found ring w limit a b one two less =
    let most = two.most in
    let unready : w.flipped (head w + a) ≡ false = one.no_more (omega (arith, less, most)) (λ i inside. two.in_word i (omega (arith, inside, less))) in
    off (sym unready ∙ two.ready a less)

one_found : (ring : Ring) (w : World) (limit a b : ℕ) → FindsReady ring w limit a → FindsReady ring w limit b → a ≡ b
one_found ring w limit a b one two = elim (cases_lt a b) [
  | inl less ↦ absurd (fewer_found ring w limit a b one two less)
  | inr le ↦ elim (cases_lt b a) [
    | inl more ↦ absurd (fewer_found ring w limit b a two one more)
    | inr ge ↦ omega (arith, le, ge)
  ]
]

module _ (law : Always TestsByALoad) (allowed : StepsAreAllowed) (old : CoreValue) (slot count found : ℕ) (new : ConsumerValue)
    (no_fault : AfterEachRun old (λ run. None ≡ fault_of (ring_of old) run (Test slot count)))
    (known : (run : Run) (limit : ℕ) → ConsumerKnows run old.consumer → ConsumerKnows ((Consumer, event.Test limit found) ∷ run) new)
    (ready : AfterEachRun old (λ run. IsReadyRun old.words.geometry (slice_index old.words.words (flag_word old.words.geometry (head (world run)))) (head (world run)) count found)) where
  abbrev tested : CoreValue
  tested = record old { consumer = new }

  may_test : (run : Run) → StandsAfter old run → FindsReady (ring_of old) (world run) count (ready_count (ring_of old) (world run) count)
  may_test run stands = (allowed (ring_of old) run (Test slot count) stands.words_are.geometry_is stands.words_are.flags_are stands.words_are.run_is (sym (no_fault run stands))).1

  test_are : (run : Run) → StandsAfter old run → AreAfter (ring_of old) ((Consumer, event.Test count found) ∷ run) old.words.words
  test_are run stands = law (ring_of old) run old.words.words stands.words_are count found (may_test run stands).many (ready run stands)

  found_is : (run : Run) → StandsAfter old run → found ≡ ready_count (ring_of old) (world run) count
  found_is run stands =
      one_found (ring_of old) (world run) count found (ready_count (ring_of old) (world run) count) (test_are run stands).run_is.1 (may_test run stands)

  test_stands : (run : Run) → StandsAfter old run → StandsAfter tested ((Consumer, event.Test count found) ∷ run)
  test_stands run stands =
      consumer_stands old run (event.Test count found) stands old.words refl (test_are run stands) new (known run count stands.consumer_knows)
      old.tallies (others_dont_count run Consumer (event.Test count found) old.tallies refl stands.tallies_are)

  pub test_machine : IsMachine old → IsMachine tested
  test_machine was = stays_machine old tested was refl refl refl ((Consumer, event.Test count found) ∷ was.run) (test_stands was.run was.stands)

  pub test_taken : IsTaken old tested (Test slot count) (Ready found) × (ring_of tested ≡ ring_of old)
  test_taken = (
    λ run stands. record {
      no_fault = sym (no_fault run stands);
      answer = ap Ready (found_is run stands);
      stands = subst (λ n. StandsAfter tested ((Consumer, event.Test count n) ∷ run)) (found_is run stands) (test_stands run stands);
    },
    refl,
  )

-- ---- ask

-- A sender's cell has what is acknowledged, which is small.
pub cell_is : (core : CoreValue) (run : Run) (s : ℕ) → StandsAfter core run → s < core.words.senders
    → slice_index core.words.words (cell core.words.geometry s) ≡ (world run).acknowledged s
cell_is core run s stands low = stands.words_are.shadow.cells s low

pub acknowledged_few : EveryRun AcknowledgedAreTaken → NumbersAreFew → (core : CoreValue) (run : Run) (s : ℕ) → StandsAfter core run
    → (world run).acknowledged s ≤ most_batches
acknowledged_few taken few core run s stands = elim (cases_lt 0 ((world run).acknowledged s)) [
  | inl some ↦
      let ok = stands.words_are.run_is in
      let n : ℕ = (world run).acknowledged s in
      few (ring_of core) run ok s n (taken (ring_of core) run ok s n (omega (arith, some)) (omega arith))
  | inr none ↦ omega (arith, none)
]

-- ---- acknowledge

is_its_sync : (s number : ℕ) (item : Item) → item.sender ≡ s → item.number ≡ Some number → is_sync item.raw ≡ true → is_sync_of s number (Some item) ≡ true
is_its_sync s number item sender its sync =
    ap₂ (λ (a b : Bool). a && b)
    (ap₂ (λ (a b : Bool). a && b) (eq-eqb item.sender s sender) (ap (has_number number) its ∙ eq-eqb number number refl))
    sync

sync_below : (w : World) (s number : ℕ) → SyncIsTaken w s number → sync_is_taken w s number ≡ true
sync_below w s number taken =
    some_there (λ position. is_sync_of s number (slice_get w.reserved position)) taken.position
    (ap (is_sync_of s number) taken.there
    ∙ is_its_sync s number record { sender = s; number = Some number; place = taken.place; raw = sync_raw s number } refl refl (sync_opcode s number))
    (head w) taken.below

-- how an acknowledgement is judged by the cell and the tally
module _ (core : CoreValue) (run : Run) (stands : StandsAfter core run) (s number done : ℕ) (low : s < core.words.senders) (done_is : done ≡ (world run).acknowledged s) where
  abbrev here : Option StepFault → Option StepFault
  here later = unless_missing (nat_lt s core.words.senders) later

  there : (later : Option StepFault) → here later ≡ later
  there later = ap (λ b. unless_missing b later) (lt-ltb s core.words.senders low)

  abbrev tally : ℕ
  tally = syncs_taken s (trail_of Consumer run)

  pub is_next : EveryRun SyncsAreCounted → number ≡ done + 1 → number ≤ tally → None ≡ fault_of (ring_of core) run (Acknowledge s number)
  is_next counted next few =
      let taken = (counted (ring_of core) run stands.words_are.run_is s number).1 (omega (arith, next), few) in
      sym (there (acknowledge_fault (world run) s number)
      ∙ ap₂ (λ (a b : Bool). if a && b then None else Some NotNext)
      (eq-eqb number (suc ((world run).acknowledged s)) (omega (arith, next, done_is))) (sync_below (world run) s number taken))

  pub is_not_next : EveryRun SyncsAreCounted → StepsAreAllowed → (number ≡ done + 1 → number ≤ tally → ⊥)
      → Some NotNext ≡ fault_of (ring_of core) run (Acknowledge s number)
  is_not_next counted allowed not = sym (there (acknowledge_fault (world run) s number)
      ∙ by_test (number == suc ((world run).acknowledged s) && sync_is_taken (world run) s number) refl)
    where
      by_test : (v : Bool) → (number == suc ((world run).acknowledged s) && sync_is_taken (world run) s number) ≡ v → (if v then None else Some NotNext) ≡ Some NotNext
      by_test false is = refl
      by_test true is =
          let none : fault_of (ring_of core) run (Acknowledge s number) ≡ None = there (acknowledge_fault (world run) s number) ∙ ap (λ (v : Bool). if v then None else Some NotNext) is in
          let may = (allowed (ring_of core) run (Acknowledge s number) stands.words_are.geometry_is stands.words_are.flags_are stands.words_are.run_is none).1 in
          let next = may.next in
          absurd (not (omega (arith, next, done_is)) ((counted (ring_of core) run stands.words_are.run_is s number).0 may.taken).1)

module _ (law : Always AcknowledgesByAStore) (allowed : StepsAreAllowed) (old : CoreValue) (words : WordsValue) (s number : ℕ)
    (is : words ≡ with_word old.words (cell old.words.geometry s) number)
    (no_fault : AfterEachRun old (λ run. None ≡ fault_of (ring_of old) run (Acknowledge s number))) where
  abbrev done : CoreValue
  done = record old { words = words }

  done_ring : ring_with words.geometry words.senders ≡ ring_of old
  done_ring = ap (λ (w : WordsValue). ring_with w.geometry w.senders) is

  done_stands : (run : Run) → StandsAfter old run → StandsAfter done ((Consumer, event.Acknowledge s number) ∷ run)
  done_stands run stands =
      let may = (allowed (ring_of old) run (Acknowledge s number) stands.words_are.geometry_is stands.words_are.flags_are stands.words_are.run_is (sym (no_fault run stands))).1 in
      consumer_stands old run (event.Acknowledge s number) stands words done_ring
      (subst (λ (w : WordsValue). AreAfter (ring_of old) ((Consumer, event.Acknowledge s number) ∷ run) w.words) (sym is) (law (ring_of old) run old.words.words stands.words_are s number may))
      old.consumer (acknowledgement_leaves run s number old.consumer stands.consumer_knows)
      old.tallies (others_dont_count run Consumer (event.Acknowledge s number) old.tallies refl stands.tallies_are)

  pub done_machine : IsMachine old → IsMachine done
  done_machine was = stays_machine old done was done_ring refl refl ((Consumer, event.Acknowledge s number) ∷ was.run) (done_stands was.run was.stands)

  pub done_taken : IsTaken old done (Acknowledge s number) Acknowledged × (ring_of done ≡ ring_of old)
  done_taken = (λ run stands. record { no_fault = sym (no_fault run stands); answer = refl; stands = done_stands run stands }, done_ring)
