-- How a write and a flip are judged, and the machine after them.
use Rattle.std.proofs.Common.{◌≡◌, ℕ, ◌+◌, ◌^◌, ◌<◌, ◌≤◌, Bool, true, Option, Some, None, ◌∷◌, ◌&&◌, length, length-set, refl, sym, ap, ap₂, ◌∙◌, subst, arith}
use Rattle.std.proofs.Math.Bool.{or-false}
use Rattle.std.proofs.lemmas.Bool.{lt-ltb}
use Rattle.std.specs.Prelude.{nat_lt, slice_get, slice_set, if◌then◌else◌}
use Rattle.cmdcodec.specs.declared.raw.Raw.{Raw}
use Rattle.qindex.specs.Positions.{size}
use Rattle.ringcore.specs.declared.world.event.Who.{Who}
use Rattle.ringcore.specs.declared.world.event.Who.TheVariants.{Sender}
use Rattle.ringcore.specs.declared.world.event.Half.{Half}
use Rattle.ringcore.specs.declared.world.event.Event.{Event}
use Rattle.ringcore.specs.declared.world.event.Event.TheVariants as event
use Rattle.ringcore.specs.declared.machine.step.Step.TheVariants.{Write}
use Rattle.ringcore.specs.declared.machine.step.Seen.TheVariants.{Written}
use Rattle.ringcore.specs.declared.machine.step_fault.StepFault.{StepFault}
use Rattle.ringcore.specs.declared.machine.step_fault.StepFault.TheVariants.{Flipped}
use Rattle.ringcore.specs.world.Trails.{Trail, Run, trail_of, reserved_length, has_flipped}
use Rattle.ringcore.specs.world.World.{world, half_of}
use Rattle.ringcore.specs.world.Allowed.{Ring, MayWrite, IsRun}
use Rattle.ringcore.specs.memory.Layout.{data_word}
use Rattle.ringcore.specs.memory.Shadow.{AreAfter}
use Rattle.ringcore.specs.memory.StepLaws.{Always, WritesByAStore, reserved_commands}
use Rattle.ringcore.specs.memory.WordStores.{WordsValue, with_word}
use Rattle.ringcore.specs.machine.SenderViews.{SenderValue, Knows, WhereKnown}
use Rattle.ringcore.specs.machine.Open.{some_below, own_offset, slot_is_held}
use Rattle.ringcore.specs.machine.Faults.{unless_missing, foreign, write_at, fault_of}
use Rattle.ringcore.specs.machine.StepAnswers.{offset_or_0, half_of_number, event_of, seen_of}
use Rattle.ringcore.specs.machine.Played.{StepsAreAllowed}
use Rattle.ringcore.specs.machine.Core.{CoreValue, ring_with, ring_of, StandsAfter, IsMachine, HasNoFault, IsTaken}
use Rattle.ringcore.proofs.MachineLemmas.SenderKnows.{length_known}
use Rattle.ringcore.proofs.WorldLemmas.Sound.{sound}
use Rattle.ringcore.proofs.MachineLemmas.Standing.{all_know, sender_stands, stays_machine, few_reserved}

module _ (ring : Ring) (run : Run) (s : ℕ) (view : SenderValue) (known : Knows run s view) (slot : ℕ)
    (sender_there : s < ring.senders) (slot_there : slot < size ring.geometry) where
  abbrev mine : Trail
  mine = trail_of (Sender s) run

  module _ (half : ℕ) (half_there : half < 2) where
    -- If sender, slot and half exist, it is judged by where the slot is in the sender's own reservation.
    write_judged : (o : Option ℕ) → own_offset ring run s slot ≡ o → fault_of ring run (Write s slot half) ≡ write_at ring run s slot o
    write_judged o is =
        let there : (nat_lt s ring.senders && nat_lt slot (size ring.geometry) && nat_lt half 2) ≡ true =
        ap₂ (λ (a b : Bool). a && b) (ap₂ (λ (a b : Bool). a && b) (lt-ltb s ring.senders sender_there) (lt-ltb slot (size ring.geometry) slot_there)) (lt-ltb half 2 half_there) in
        ap (λ b. unless_missing b (write_at ring run s slot (own_offset ring run s slot))) there ∙ ap (write_at ring run s slot) is

    pub write_of_foreign : (held : Bool) (fault : StepFault) → own_offset ring run s slot ≡ None → held ≡ slot_is_held ring run slot → Some fault ≡ foreign held
        → fault_of ring run (Write s slot half) ≡ Some fault
    write_of_foreign held fault none held_is is = write_judged None none ∙ ap foreign (sym held_is) ∙ sym is

    flipped_there : (k : ℕ) (b : Bool) → k < length view.commands
        → (k + 1 ≤ reserved_length mine → b ≡ some_below 1 (λ j. has_flipped (k + j) mine)) → has_flipped k mine ≡ b
    flipped_there k b inside says =
        let many = length_known run s view known in
        let same : k ≡ k + 0 = omega arith in
        ap (λ n. has_flipped n mine) same ∙ sym (or-false (has_flipped (k + 0) mine)) ∙ sym (says (omega (arith, inside, many)))

    pub write_of_own : (k : ℕ) (b : Bool) → own_offset ring run s slot ≡ Some k → k < length view.commands
        → (k + 1 ≤ reserved_length mine → b ≡ some_below 1 (λ j. has_flipped (k + j) mine))
        → fault_of ring run (Write s slot half) ≡ (if b then Some Flipped else None)
    write_of_own k b own inside says =
        write_judged (Some k) own ∙ ap (λ (f : Bool). if f then Some Flipped else None) (flipped_there k b inside says)

-- ---- a write

module _ (may : StepsAreAllowed) (old : CoreValue) (s slot half k : ℕ) (h : Half) (h_is : h ≡ half_of_number half)
    (accepted : HasNoFault old (Write s slot half) (λ run. own_offset (ring_of old) run s slot ≡ Some k)) where
  write_event : (run : Run) → StandsAfter old run → event_of (ring_of old) run (Write s slot half) ≡ (Sender s, event.Write k h)
  write_event run stands = ap₂ (λ (o : Option ℕ) (x : Half). (Sender s, event.Write (offset_or_0 o) x)) (accepted run stands).1 (sym h_is)

  pub may_write : (run : Run) → StandsAfter old run → MayWrite (trail_of (Sender s) run) k
  may_write run stands =
      (subst (λ (x : Who × Event). IsRun (ring_of old) (x ∷ run)) (write_event run stands)
      (may (ring_of old) run (Write s slot half) stands.words_are.geometry_is stands.words_are.flags_are stands.words_are.run_is (accepted run stands).0)).1

  module _ (before : SenderValue) (there : slice_get old.senders s ≡ Some before) where
    pub write_inside : (run : Run) → StandsAfter old run → k < length before.commands
    write_inside run stands =
        let inside = (may_write run stands).inside in
        let many = length_known run s before (stands.senders_know s before there) in omega (arith, inside, many)

    module _ (start : ℕ) (start_is : WhereKnown before (λ run t mine. start ≡ (world run).start t)) where
      pub write_fits : IsMachine old → (run : Run) → StandsAfter old run → start + k < 2 ^ 46
      write_fits is run stands =
          let may_be = may_write run stands in
          let inside = may_be.inside in
          let within = (sound (ring_of old) run stands.words_are.run_is).each_within s in
          let starts = start_is run s (stands.senders_know s before there) in
          let few = few_reserved old is run stands in omega (arith, inside, within, starts, few)

      module _ (law : Always WritesByAStore) (low : s < old.words.senders) (raw : Raw)
          (raw_is : WhereKnown before (λ run t mine. slice_get (reserved_commands t mine) k ≡ Some raw))
          (words : WordsValue) (words_are : words ≡ with_word old.words (data_word old.words.geometry (start + k) h) (half_of h raw))
          (view : SenderValue) (writes : (run : Run) (t : ℕ) → Knows run t before → Knows ((Sender t, event.Write k h) ∷ run) t view) where
        abbrev new : CoreValue
        new = record old { words = words; senders = slice_set old.senders s view }

        wrote_ring : ring_of new ≡ ring_of old
        wrote_ring = ap (λ (w : WordsValue). ring_with w.geometry w.senders) words_are

        wrote_stands : (run : Run) → StandsAfter old run → StandsAfter new (event_of (ring_of old) run (Write s slot half) ∷ run)
        wrote_stands run stands =
            let known = stands.senders_know s before there in
            let are = law (ring_of old) run old.words.words stands.words_are s k h raw (may_write run stands) (raw_is run s known) in
            let same : words.words ≡ slice_set old.words.words (data_word old.words.geometry ((world run).start s + k) h) (half_of h raw) =
            ap (λ (w : WordsValue). w.words) words_are ∙ ap (λ n. slice_set old.words.words (data_word old.words.geometry (n + k) h) (half_of h raw)) (start_is run s known) in
            subst (λ (x : Who × Event). StandsAfter new (x ∷ run)) (sym (write_event run stands))
            (sender_stands old run s (event.Write k h) stands low words wrote_ring
            (subst (AreAfter (ring_of old) ((Sender s, event.Write k h) ∷ run)) (sym same) are)
            (slice_set old.senders s view)
            (all_know run s (event.Write k h) old.senders view stands.senders_know (writes run s known)))

        pub wrote_machine : IsMachine old → IsMachine new
        wrote_machine was =
            stays_machine old new was wrote_ring (length-set old.senders s view) refl
            (event_of (ring_of old) was.run (Write s slot half) ∷ was.run) (wrote_stands was.run was.stands)

        pub write_taken : IsTaken old new (Write s slot half) Written × (ring_of new ≡ ring_of old)
        write_taken = (
          λ run stands. record {
            no_fault = (accepted run stands).0;
            answer = sym (ap (λ (x : Who × Event). seen_of (ring_of old) (world run) x.0 x.1) (write_event run stands));
            stands = wrote_stands run stands;
          },
          wrote_ring,
        )
