-- How a flip is judged, and the machine after it.
use Rattle.std.proofs.Common.{◌≡◌, ℕ, ◌+◌, ◌*◌, ◌%◌, ◌^◌, ◌<◌, ◌≤◌, Bool, true, Option, Some, None, ◌∷◌, ◌&&◌, length-set, refl, sym, ap, ap₂, ◌∙◌, subst, arith}
use Rattle.std.proofs.lemmas.Bool.{lt-ltb, le-ltb}
use Rattle.std.specs.Prelude.{slice_get, slice_set, if◌then◌else◌}
use Rattle.qindex.specs.Positions.{IndexValue, size, place, index_of}
use Rattle.qindex.specs.Laws.{IndexesTellPlaceAndWrapBit}
use Rattle.ringcore.specs.declared.world.event.Who.{Who}
use Rattle.ringcore.specs.declared.world.event.Who.TheVariants.{Sender}
use Rattle.ringcore.specs.declared.world.event.Half.TheVariants.{Lo, Hi}
use Rattle.ringcore.specs.declared.world.event.Event.{Event}
use Rattle.ringcore.specs.declared.world.event.Event.TheVariants as event
use Rattle.ringcore.specs.declared.machine.step.Step.TheVariants.{Flip}
use Rattle.ringcore.specs.declared.machine.step.Seen.TheVariants as seen
use Rattle.ringcore.specs.declared.machine.step_fault.StepFault.{StepFault}
use Rattle.ringcore.specs.declared.machine.step_fault.StepFault.TheVariants.{Flipped, HalfMissing}
use Rattle.ringcore.specs.world.Trails.{Trail, Run, trail_of, reserved_length, has_written, has_flipped}
use Rattle.ringcore.specs.world.World.{world}
use Rattle.ringcore.specs.world.Allowed.{Ring, MayFlip, IsRun}
use Rattle.ringcore.specs.memory.Layout.{flag_word}
use Rattle.ringcore.specs.world.Allowed.{ShareAWord}
use Rattle.ringcore.specs.memory.Flags.{IsFlipMask}
use Rattle.ringcore.specs.memory.Shadow.{AreAfter}
use Rattle.ringcore.specs.memory.StepLaws.{Always, FlipsByAnExclusiveOr, turned}
use Rattle.ringcore.specs.memory.WordStores.{WordsValue, IsFlipped}
use Rattle.ringcore.specs.machine.SenderViews.{SenderValue, Knows, WhereKnown}
use Rattle.ringcore.specs.machine.Open.{some_below, all_below, own_offset, is_held, slot_is_held}
use Rattle.ringcore.specs.machine.Faults.{has_sender, has_slot, is_run_length, share_a_word, unless_missing, foreign, flip_at, fault_of}
use Rattle.ringcore.specs.machine.StepAnswers.{offset_or_0, event_of, new_flags, seen_of}
use Rattle.ringcore.specs.machine.Played.{StepsAreAllowed}
use Rattle.ringcore.specs.machine.Core.{CoreValue, ring_with, ring_of, StandsAfter, IsMachine, HasNoFault, IsTaken}
use Rattle.ringcore.proofs.MemoryLemmas.FlagPlaces.{index_of_number, alike_shares}
use Rattle.ringcore.proofs.WorldLemmas.Sound.{sound}
use Rattle.ringcore.proofs.MachineLemmas.Standing.{all_know, sender_stands, stays_machine, few_reserved}

-- whether the sender and the run of slots exist
abbrev pub has_run : Ring → ℕ → ℕ → ℕ → Bool
has_run ring s slot count = has_sender ring s && has_slot ring slot && is_run_length count && share_a_word ring slot count

module _ (ring : Ring) (run : Run) (s slot count : ℕ) (exists : has_run ring s slot count ≡ true) where
  abbrev mine : Trail
  mine = trail_of (Sender s) run

  -- If they exist, it is judged by where the slot is in the sender's own reservation.
  judged : (o : Option ℕ) → own_offset ring run s slot ≡ o → fault_of ring run (Flip s slot count) ≡ flip_at ring run s slot count o
  judged o is =
      ap (λ b. unless_missing b (flip_at ring run s slot count (own_offset ring run s slot))) exists ∙ ap (flip_at ring run s slot count) is

  pub flip_of_foreign : (held : Bool) (fault : StepFault) → own_offset ring run s slot ≡ None
      → held ≡ all_below count (λ k. slot_is_held ring run (place ring.geometry (slot + k))) → Some fault ≡ foreign held
      → fault_of ring run (Flip s slot count) ≡ Some fault
  flip_of_foreign held fault none held_is is = judged None none ∙ ap foreign (sym held_is) ∙ sym is

  module _ (k : ℕ) (own : own_offset ring run s slot ≡ Some k) where
    -- the judgement on positions of its own
    abbrev of_own : Bool → Option StepFault
    of_own over =
        if over then foreign (all_below count (λ j. is_held ring run ((world run).start s + k + j)))
        else if some_below count (λ j. has_flipped (k + j) mine) then Some Flipped
        else if all_below count (λ j. has_written (k + j) Lo mine && has_written (k + j) Hi mine) then None
        else Some HalfMissing

    pub flip_past_end : (held : Bool) (fault : StepFault) → reserved_length mine < k + count
        → held ≡ all_below count (λ j. is_held ring run ((world run).start s + k + j)) → Some fault ≡ foreign held
        → fault_of ring run (Flip s slot count) ≡ Some fault
    flip_past_end held fault past held_is is =
        judged (Some k) own ∙ ap of_own (lt-ltb (reserved_length mine) (k + count) past) ∙ ap foreign (sym held_is) ∙ sym is

    pub flip_of_own : (flipped written : Bool) → k + count ≤ reserved_length mine
        → flipped ≡ some_below count (λ j. has_flipped (k + j) mine)
        → written ≡ all_below count (λ j. has_written (k + j) Lo mine && has_written (k + j) Hi mine)
        → fault_of ring run (Flip s slot count) ≡ (if flipped then Some Flipped else if written then None else Some HalfMissing)
    flip_of_own flipped written inside flipped_is written_is =
        judged (Some k) own ∙ ap of_own (le-ltb (reserved_length mine) (k + count) inside)
        ∙ ap₂ (λ (f w : Bool). if f then Some Flipped else if w then None else Some HalfMissing) (sym flipped_is) (sym written_is)

-- ---- a flip

module _ (may : StepsAreAllowed) (old : CoreValue) (s slot count k : ℕ)
    (accepted : HasNoFault old (Flip s slot count) (λ run. own_offset (ring_of old) run s slot ≡ Some k)) where
  flip_event : (run : Run) → StandsAfter old run → event_of (ring_of old) run (Flip s slot count) ≡ (Sender s, event.Flip k count)
  flip_event run stands = ap (λ (o : Option ℕ). (Sender s, event.Flip (offset_or_0 o) count)) (accepted run stands).1

  may_flip : (run : Run) → StandsAfter old run → MayFlip (ring_of old) (trail_of (Sender s) run) ((world run).start s) k count
  may_flip run stands =
      (subst (λ (x : Who × Event). IsRun (ring_of old) (x ∷ run)) (flip_event run stands)
      (may (ring_of old) run (Flip s slot count) stands.words_are.geometry_is stands.words_are.flags_are stands.words_are.run_is (accepted run stands).0)).1

  module _ (before : SenderValue) (there : slice_get old.senders s ≡ Some before)
      (start : ℕ) (start_is : WhereKnown before (λ run t mine. start ≡ (world run).start t)) where
    pub flip_fits : IsMachine old → (run : Run) → StandsAfter old run → start + k + count ≤ 2 ^ 46
    flip_fits is run stands =
        let inside = (may_flip run stands).inside in
        let within = (sound (ring_of old) run stands.words_are.run_is).each_within s in
        let starts = start_is run s (stands.senders_know s before there) in
        let few = few_reserved old is run stands in omega (arith, inside, within, starts, few)

    pub flip_shares : IndexesTellPlaceAndWrapBit → (run : Run) → StandsAfter old run → (index : IndexValue) → index ≡ index_of old.words.geometry (start + k)
        → ShareAWord 64 index.geometry index.number count
    flip_shares alike run stands index is =
        let g = old.words.geometry in
        let p : ℕ = start + k in
        let one = (may_flip run stands).in_word in
        let starts = start_is run s (stands.senders_know s before there) in
        let at : ShareAWord 64 g p count = subst (λ n. ShareAWord 64 g (n + k) count) (sym starts) one in
        subst (λ (i : IndexValue). ShareAWord 64 i.geometry i.number count) (sym is)
        (alike_shares alike g p (p % (2 * size g)) (sym (index_of_number g p)) count at)

    module _ (law : Always FlipsByAnExclusiveOr) (low : s < old.words.senders)
        (words : WordsValue) (flipped : IsFlipped old.words words (start + k) count)
        (view : SenderValue) (flips : (run : Run) (t : ℕ) → Knows run t before → Knows ((Sender t, event.Flip k count) ∷ run) t view) where
      abbrev new : CoreValue
      new = record old { words = words; senders = slice_set old.senders s view }

      flipped_ring : ring_of new ≡ ring_of old
      flipped_ring = ap (λ (w : WordsValue). ring_with w.geometry w.senders) flipped.words

      flipped_stands : (run : Run) → StandsAfter old run → StandsAfter new (event_of (ring_of old) run (Flip s slot count) ∷ run)
      flipped_stands run stands =
          let known = stands.senders_know s before there in
          let starts = start_is run s known in
          let mask = subst (λ n. IsFlipMask old.words.geometry (n + k) count flipped.mask) starts flipped.mask_is in
          let are = law (ring_of old) run old.words.words stands.words_are s k count flipped.mask (may_flip run stands) mask in
          let same : words.words ≡ turned old.words.words (flag_word old.words.geometry ((world run).start s + k)) flipped.mask =
          ap (λ (w : WordsValue). w.words) flipped.words ∙ ap (λ n. turned old.words.words (flag_word old.words.geometry (n + k)) flipped.mask) starts in
          subst (λ (x : Who × Event). StandsAfter new (x ∷ run)) (sym (flip_event run stands))
          (sender_stands old run s (event.Flip k count) stands low words flipped_ring
          (subst (AreAfter (ring_of old) ((Sender s, event.Flip k count) ∷ run)) (sym same) are)
          (slice_set old.senders s view)
          (all_know run s (event.Flip k count) old.senders view stands.senders_know (flips run s known)))

      pub flipped_machine : IsMachine old → IsMachine new
      flipped_machine was =
          stays_machine old new was flipped_ring (length-set old.senders s view) refl
          (event_of (ring_of old) was.run (Flip s slot count) ∷ was.run) (flipped_stands was.run was.stands)

      pub flip_taken : (flags : ℕ) → flags ≡ new_flags old.words.geometry (start + k) count
          → IsTaken old new (Flip s slot count) (seen.Flipped flags) × (ring_of new ≡ ring_of old)
      flip_taken flags flags_are = (
        λ run stands.
            let starts = start_is run s (stands.senders_know s before there) in record {
              no_fault = (accepted run stands).0;
              answer = ap seen.Flipped (flags_are ∙ ap (λ n. new_flags old.words.geometry (n + k) count) starts)
                  ∙ sym (ap (λ (x : Who × Event). seen_of (ring_of old) (world run) x.0 x.1) (flip_event run stands));
              stands = flipped_stands run stands;
            },
        flipped_ring,
      )
