-- A read: a machine that took one stands for the longer run.
use Rattle.std.proofs.Common.{◌≡◌, ℕ, zero, suc, ◌+◌, ◌<◌, ◌≤◌, Bool, true, false, cond, ◌==◌, [], ◌∷◌, Some, refl, sym, ap, ap₂, ◌∙◌, subst, arith}
use Rattle.std.specs.Prelude.{slice_index}
use Rattle.qindex.specs.Positions.{size, place}
use Rattle.ringcore.specs.declared.world.event.Who.{Who}
use Rattle.ringcore.specs.declared.world.event.Who.TheVariants.{Consumer}
use Rattle.ringcore.specs.declared.world.event.Half.{Half}
use Rattle.ringcore.specs.declared.world.event.Event.{Event}
use Rattle.ringcore.specs.declared.world.event.Event.TheVariants as event
use Rattle.ringcore.specs.declared.machine.step.Step.TheVariants.{Read}
use Rattle.ringcore.specs.declared.machine.step.Seen.TheVariants.{Half as HalfWord}
use Rattle.ringcore.specs.world.Trails.{Trail, Run, same, trail_of, found_ready}
use Rattle.ringcore.specs.world.World.{World, tail, head, world}
use Rattle.ringcore.specs.world.Allowed.{Ring, Allowed, IsRun}
use Rattle.ringcore.specs.memory.Layout.{data_word}
use Rattle.ringcore.specs.memory.Shadow.{AreAfter}
use Rattle.ringcore.specs.memory.StepLaws.{Always, ReadsByALoad}
use Rattle.ringcore.specs.machine.ConsumerViews.{ConsumerValue, ConsumerKnows}
use Rattle.ringcore.specs.machine.Faults.{tested_offset}
use Rattle.ringcore.specs.machine.StepAnswers.{offset_or_0, half_of_number, half_in, half_at, event_of}
use Rattle.ringcore.specs.machine.Core.{CoreValue, ring_of, StandsAfter, IsMachine, AfterEachRun, HasNoFault, IsTaken}
use Rattle.ringcore.proofs.MachineLemmas.FaultlessIsAllowed.{first_is}
use Rattle.ringcore.proofs.WorldLemmas.LookedControls.{same_is}
use Rattle.ringcore.proofs.WorldLemmas.Sound.{sound}
use Rattle.ringcore.proofs.MachineLemmas.Standing.{stays_machine}
use Rattle.ringcore.proofs.MachineLemmas.TakenSteps.{consumer_stands}
use Rattle.ringcore.proofs.MachineLemmas.Tallies.{others_dont_count}

-- ---- how many a test finds

found_more : (ring : Ring) (w : World) (mine : Trail) (e : Event) → Allowed ring w mine Consumer e → found_ready mine ≤ 64 → found_ready (e ∷ mine) ≤ 64
found_more ring w mine (event.Look found) a le = le
found_more ring w mine (event.Won body number) a le = le
found_more ring w mine (event.Lost body closes found) a le = le
found_more ring w mine (event.Write offset half) a le = le
found_more ring w mine (event.Flip offset count) a le = le
found_more ring w mine (event.Test limit found) a le = let most = a.most in let many = a.many.1 in omega (arith, most, many)
found_more ring w mine (event.Read offset half word) a le = le
found_more ring w mine (event.Advance raws) a le = omega arith
found_more ring w mine event.Close a le = le
found_more ring w mine (event.Acknowledge sender number) a le = le
found_more ring w mine (event.Ask found) a le = le

pub found_few : (ring : Ring) (run : Run) → IsRun ring run → found_ready (trail_of Consumer run) ≤ 64
found_few ring [] ok = omega arith
found_few ring (x ∷ xs) ok = by_seat (found_few ring xs ok.0) x.0 x.1 ok.1 (same Consumer x.0) refl
  where
    by_seat : found_ready (trail_of Consumer xs) ≤ 64 → (who : Who) (e : Event) → Allowed ring (world xs) (trail_of who xs) who e
        → (v : Bool) → same Consumer who ≡ v → found_ready (cond v (e ∷ trail_of Consumer xs) (trail_of Consumer xs)) ≤ 64
    by_seat le who e a true is =
        found_more ring (world xs) (trail_of Consumer xs) e (subst (λ (u : Who). Allowed ring (world xs) (trail_of u xs) u e) (sym (same_is Consumer who is)) a) le
    by_seat le who e a false is = le

-- What a test found is reserved, and so within the ring.
pub found_below : (ring : Ring) (run : Run) → IsRun ring run → (n : ℕ) → n ≤ found_ready (trail_of Consumer run) → head (world run) + n ≤ tail (world run)
found_below ring run ok zero le = let behind = (sound ring run ok).behind in omega (arith, behind)
found_below ring run ok (suc n) le =
    let s = sound ring run ok in
    let below = s.flipped_below (head (world run) + n) (s.ready n (omega (arith, le))) in
    omega (arith, below)

pub found_fits : (ring : Ring) (run : Run) → IsRun ring run → (n : ℕ) → n ≤ found_ready (trail_of Consumer run) → n ≤ size ring.geometry
found_fits ring run ok n le =
    let below = found_below ring run ok n le in
    let within = (sound ring run ok).within in
    omega (arith, below, within)

pub offset_found : (ring : Ring) (run : Run) (slot offset : ℕ) → tested_offset ring run slot ≡ Some offset → offset < found_ready (trail_of Consumer run)
offset_found ring run slot offset is = (first_is (found_ready (trail_of Consumer run)) (λ k. place ring.geometry (head (world run) + k) == slot) offset is).0

-- ---- the word that is read

module _ (law : Always ReadsByALoad) (old : CoreValue) (slot half offset word : ℕ) (which : Half) (new : ConsumerValue)
    (which_is : which ≡ half_of_number half)
    (accepted : HasNoFault old (Read slot half) (λ run. tested_offset (ring_of old) run slot ≡ Some offset))
    (word_is : AfterEachRun old (λ run. word ≡ slice_index old.words.words (data_word old.words.geometry (head (world run) + offset) which)))
    (known : (run : Run) → ConsumerKnows run old.consumer → ConsumerKnows ((Consumer, event.Read offset which word) ∷ run) new) where
  abbrev read : CoreValue
  read = record old { consumer = new }

  read_are : (run : Run) → StandsAfter old run → AreAfter (ring_of old) ((Consumer, event.Read offset which word) ∷ run) old.words.words
  read_are run stands =
      subst (λ (x : ℕ). AreAfter (ring_of old) ((Consumer, event.Read offset which x) ∷ run) old.words.words) (sym (word_is run stands))
      (law (ring_of old) run old.words.words stands.words_are offset which (offset_found (ring_of old) run slot offset (accepted run stands).1))

  read_stands : (run : Run) → StandsAfter old run → StandsAfter read ((Consumer, event.Read offset which word) ∷ run)
  read_stands run stands =
      consumer_stands old run (event.Read offset which word) stands old.words refl (read_are run stands) new (known run stands.consumer_knows)
      old.tallies (others_dont_count run Consumer (event.Read offset which word) old.tallies refl stands.tallies_are)

  pub read_machine : IsMachine old → IsMachine read
  read_machine was = stays_machine old read was refl refl refl ((Consumer, event.Read offset which word) ∷ was.run) (read_stands was.run was.stands)

  offset_is : (run : Run) → StandsAfter old run → offset ≡ offset_or_0 (tested_offset (ring_of old) run slot)
  offset_is run stands = sym (ap offset_or_0 (accepted run stands).1)

  found_is : (run : Run) → StandsAfter old run → word ≡ half_at (world run) offset which
  found_is run stands = let may = (read_are run stands).run_is.1 in may.found ∙ sym (ap (half_in which) may.there)

  read_event : (run : Run) → StandsAfter old run → event.Read offset which word ≡ (event_of (ring_of old) run (Read slot half)).1
  read_event run stands =
      ap (event.Read offset which) (found_is run stands)
      ∙ ap₂ (λ (n : ℕ) (h : Half). event.Read n h (half_at (world run) n h)) (offset_is run stands) which_is

  pub read_taken : IsTaken old read (Read slot half) (HalfWord word) × (ring_of read ≡ ring_of old)
  read_taken = (
    λ run stands. record {
      no_fault = (accepted run stands).0;
      answer = ap HalfWord (found_is run stands ∙ ap₂ (half_at (world run)) (offset_is run stands) which_is);
      stands = subst (λ (e : Event). StandsAfter read ((Consumer, e) ∷ run)) (read_event run stands) (read_stands run stands);
    },
    refl,
  )
