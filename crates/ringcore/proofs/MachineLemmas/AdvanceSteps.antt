-- An advance: a machine that took one stands for the longer run.
use Rattle.std.proofs.Common.{◌≡◌, ℕ, zero, suc, ◌+◌, ◌*◌, ◌^◌, ◌<◌, ◌≤◌, Bool, true, false, List, [], ◌∷◌, ◌++◌, length, take, Some, None, refl, sym, ap, ap₂, ◌∙◌, subst, inl, inr, leb-true, arith}
use Rattle.std.proofs.lemmas.Bool.{cases_lt, and_parts, lt-ltb}
use Rattle.std.proofs.lemmas.List.{take_all}
use Rattle.std.specs.Prelude.{slice_get, slice_index, nat_le, nat_lt, if◌then◌else◌}
use Rattle.cmdcodec.specs.declared.raw.Raw.{Raw}
use Rattle.qindex.specs.declared.control.Control.{Control}
use Rattle.qindex.specs.Positions.{IndexValue, size, index_of}
use Rattle.qindex.specs.ControlWord.{advance_mask}
use Rattle.cmdcodec.specs.Bodies.{most_batches}
use Rattle.ringcore.specs.declared.world.event.Who.TheVariants.{Consumer}
use Rattle.ringcore.specs.declared.world.event.Half.TheVariants.{Lo, Hi}
use Rattle.ringcore.specs.declared.world.event.Event.TheVariants as event
use Rattle.ringcore.specs.declared.machine.step.Step.TheVariants.{Advance}
use Rattle.ringcore.specs.declared.machine.step.Seen.TheVariants.{Word}
use Rattle.ringcore.specs.declared.machine.step_fault.StepFault.TheVariants.{NotSeenReady, HalfMissing}
use Rattle.ringcore.specs.world.Trails.{Trail, Run, trail_of, found_ready}
use Rattle.ringcore.specs.world.World.{tail, head, world, control}
use Rattle.ringcore.specs.world.Allowed.{Ring, MayAdvance, IsRun}
use Rattle.ringcore.specs.memory.Layout.{control_word}
use Rattle.ringcore.specs.world.Laws.{EveryRun, FewAreReserved, NumbersAreFew, SyncsAreCounted, syncs_in, syncs_taken}
use Rattle.ringcore.specs.memory.Shadow.{AreAfter}
use Rattle.ringcore.specs.memory.StepLaws.{Always, AdvancesByAnExclusiveOr, turned}
use Rattle.ringcore.specs.memory.WordStores.{WordsValue, with_turned}
use Rattle.ringcore.specs.machine.ConsumerViews.{ConsumerValue, KnowsTaken, ConsumerKnows, both_halves, command_at, and_command, commands_read}
use Rattle.ringcore.specs.machine.SyncTallies.{AreCounted}
use Rattle.ringcore.specs.machine.Faults.{is_run_length, advance_fault, fault_of}
use Rattle.ringcore.specs.machine.StepAnswers.{next_commands}
use Rattle.ringcore.specs.machine.Played.{StepsAreAllowed}
use Rattle.ringcore.specs.machine.Core.{CoreValue, ring_with, ring_of, StandsAfter, IsMachine, AfterEachRun, IsTaken}
use Rattle.ringcore.proofs.MachineLemmas.FaultlessIsAllowed.{exists, as_many}
use Rattle.ringcore.proofs.WorldLemmas.Lists.{off}
use Rattle.ringcore.proofs.MachineLemmas.ReadSteps.{found_below, found_fits}
use Rattle.ringcore.proofs.WorldLemmas.Slots.{get_there}
use Rattle.ringcore.proofs.MachineLemmas.Standing.{stays_machine}
use Rattle.ringcore.proofs.MachineLemmas.TakenSteps.{consumer_stands}
use Rattle.ringcore.proofs.MachineLemmas.Tallies.{advances_count}

-- ---- the commands that were read are those that are taken next

take_next : {A : Type 0} (xs : List A) (n : ℕ) (x : A) → slice_get xs n ≡ Some x → take n xs ++ x ∷ [] ≡ take (suc n) xs
take_next [] n x at = absurd (cc)
take_next (y ∷ xs) zero x at = let is : y ≡ x = cc in ap (λ z. z ∷ []) (sym is)
take_next (y ∷ xs) (suc n) x at = ap (λ l. y ∷ l) (take_next xs n x at)

module _ (mine : Trail) (many : ℕ) (view : ConsumerValue) (known : KnowsTaken mine many view) (raws : List Raw) (may : MayAdvance mine raws) where
  command_known : (n : ℕ) (raw : Raw) → n < 64 → slice_get raws n ≡ Some raw → command_at view n ≡ Some raw
  command_known n raw low at = ap₂ both_halves (known.read_is n Lo low ∙ may.read n raw Lo at) (known.read_is n Hi low ∙ may.read n raw Hi at)

  some_known : (n : ℕ) → n ≤ 64 → n ≤ length raws → commands_read view n ≡ take n raws
  some_known zero few within = refl
  some_known (suc n) few within =
      let there = get_there raws n (omega (arith, within)) in
      ap₂ and_command (some_known n (omega (arith, few)) (omega (arith, within))) (command_known n there.0 (omega (arith, few)) there.1)
      ∙ take_next raws n there.0 there.1

  pub commands_known : (n : ℕ) → n ≤ 64 → length raws ≡ n → commands_read view n ≡ raws
  commands_known n few long = some_known n few (omega (arith, long)) ∙ take_all n raws (omega (arith, long))

-- ---- an advance without a fault

module _ (allowed : StepsAreAllowed) (old : CoreValue) (count : ℕ) (no_fault : AfterEachRun old (λ run. None ≡ fault_of (ring_of old) run (Advance count))) where
  abbrev ring : Ring
  ring = ring_of old

  abbrev raws_of : Run → List Raw
  raws_of run = next_commands (world run) count

  module _ (run : Run) (stands : StandsAfter old run) where
    abbrev mine : Trail
    mine = trail_of Consumer run

    longer : IsRun ring ((Consumer, event.Advance (raws_of run)) ∷ run)
    longer = allowed ring run (Advance count) stands.words_are.geometry_is stands.words_are.flags_are stands.words_are.run_is (sym (no_fault run stands))

    may : MayAdvance mine (raws_of run)
    may = longer.1

    parts : (is_run_length count ≡ true) × (advance_fault mine count ≡ None)
    parts = exists (is_run_length count) (advance_fault mine count) (sym (no_fault run stands))

    pub count_few : count ≤ 64
    count_few = leb-true count 64 (and_parts (nat_le 1 count) (nat_le count 64) parts.0).1

    ready : count ≤ found_ready mine
    ready = elim (cases_lt (found_ready mine) count) [
      | inl over ↦ off (sym (first_test (nat_lt (found_ready mine) count) _ parts.1) ∙ lt-ltb (found_ready mine) count over)
      | inr le ↦ le
    ]
      where
        first_test : (a b : Bool) → (if a then Some NotSeenReady else if b then None else Some HalfMissing) ≡ None → a ≡ false
        first_test true b e = absurd (cc)
        first_test false b e = refl

    below : head (world run) + count ≤ tail (world run)
    below = found_below ring run stands.words_are.run_is count ready

    pub count_fits : count ≤ size old.words.geometry
    count_fits = found_fits ring run stands.words_are.run_is count ready

    pub raws_long : length (raws_of run) ≡ count
    raws_long = as_many ring run stands.words_are.run_is (world run).reserved (head (world run)) count below

    pub commands_are : commands_read old.consumer count ≡ raws_of run
    commands_are = commands_known mine (head (world run)) old.consumer stands.consumer_knows (raws_of run) may count count_few raws_long

    -- Positions stay far below 2^64, and counts of syncs below 2^32.
    pub taken_fits : FewAreReserved → old.words.senders ≤ 256 → old.consumer.taken + count < 2 ^ 64
    taken_fits bound few =
        let most = bound ring old.words.senders run stands.only stands.words_are.run_is in
        let taken = stands.consumer_knows.taken_is in
        let here = below in
        let senders : ℕ = old.words.senders in
        let all : 64 * (senders * most_batches) < 2 ^ 64 = omega (arith, few) in
        omega (arith, most, taken, here, all)

    pub tallies_fit : EveryRun SyncsAreCounted → NumbersAreFew → (s : ℕ) → s < length old.tallies
        → slice_index old.tallies s + syncs_in s (commands_read old.consumer count) < 2 ^ 32
    tallies_fit counted few s inside =
        let is = stands.tallies_are s inside in
        let same = ap (syncs_in s) commands_are in
        let all : ℕ = syncs_taken s mine + syncs_in s (raws_of run) in
        let later : Run = (Consumer, event.Advance (raws_of run)) ∷ run in
        let most : all ≤ most_batches = elim (cases_lt 0 all) [
          | inl some ↦ few ring later longer s all ((counted ring later longer s all).1 (omega (arith, some), omega arith))
          | inr none ↦ omega (arith, none)
        ] in
        omega (arith, is, same, most)

  module _ (law : Always AdvancesByAnExclusiveOr) (words : WordsValue) (consumer : ConsumerValue) (tallies : List ℕ) (from to : IndexValue)
      (from_is : AfterEachRun old (λ run. from ≡ index_of old.words.geometry (head (world run))))
      (to_is : AfterEachRun old (λ run. to ≡ index_of old.words.geometry (head (world run) + count)))
      (is : words ≡ with_turned old.words control_word (advance_mask from to))
      (counted : AreCounted old.tallies tallies (commands_read old.consumer count))
      (known : (run : Run) (raws : List Raw) → length raws ≡ count → ConsumerKnows run old.consumer → ConsumerKnows ((Consumer, event.Advance raws) ∷ run) consumer) where
    abbrev advanced : CoreValue
    advanced = record { words = words; senders = old.senders; consumer = consumer; tallies = tallies }

    advanced_ring : ring_with words.geometry words.senders ≡ ring_of old
    advanced_ring = ap (λ (w : WordsValue). ring_with w.geometry w.senders) is

    words_turned : (run : Run) → StandsAfter old run → AreAfter ring ((Consumer, event.Advance (raws_of run)) ∷ run) words.words
    words_turned run stands =
        let g : ℕ = old.words.geometry in
        let h : ℕ = head (world run) in
        let end : index_of g (h + length (raws_of run)) ≡ to = ap (λ n. index_of g (h + n)) (raws_long run stands) ∙ sym (to_is run stands) in
        let mask : advance_mask (index_of g h) (index_of g (h + length (raws_of run))) ≡ advance_mask from to = ap₂ advance_mask (sym (from_is run stands)) end in
        subst (λ (l : List ℕ). AreAfter ring ((Consumer, event.Advance (raws_of run)) ∷ run) l)
        (ap (turned old.words.words control_word) mask ∙ sym (ap (λ (w : WordsValue). w.words) is))
        (law ring run old.words.words stands.words_are (raws_of run) (may run stands))

    advanced_stands : (run : Run) → StandsAfter old run → StandsAfter advanced ((Consumer, event.Advance (raws_of run)) ∷ run)
    advanced_stands run stands =
        consumer_stands old run (event.Advance (raws_of run)) stands words advanced_ring (words_turned run stands)
        consumer (known run (raws_of run) (raws_long run stands) stands.consumer_knows)
        tallies (advances_count run old.tallies tallies (raws_of run) stands.tallies_are (subst (AreCounted old.tallies tallies) (commands_are run stands) counted))

    pub advanced_machine : IsMachine old → IsMachine advanced
    advanced_machine was =
        stays_machine old advanced was advanced_ring refl counted.same_senders ((Consumer, event.Advance (raws_of was.run)) ∷ was.run) (advanced_stands was.run was.stands)

    pub advance_taken : (found : Control) → AfterEachRun advanced (λ run. found ≡ control words.geometry (world run))
        → IsTaken old advanced (Advance count) (Word found) × (ring_of advanced ≡ ring_of old)
    advance_taken found finds = (
      λ run stands.
          let after = advanced_stands run stands in record {
            no_fault = sym (no_fault run stands);
            answer = ap Word (finds ((Consumer, event.Advance (raws_of run)) ∷ run) after
                ∙ ap (λ (r : Ring). control r.geometry (world ((Consumer, event.Advance (raws_of run)) ∷ run))) advanced_ring);
            stands = after;
          },
      advanced_ring,
    )
