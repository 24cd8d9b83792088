-- The steps on the data words: write and read.
use Rattle.std.proofs.Common.{◌≡◌, ℕ, zero, suc, ◌+◌, ◌<◌, ◌≤◌, false, ◌==◌, ◌&&◌, List, [], ◌∷◌, Option, Some, refl, sym, ap, ap₂, ◌∙◌, subst, inl, inr, eqb-true, arith, length-set}
use Rattle.std.proofs.lemmas.Option.{same_Some}
use Rattle.std.proofs.lemmas.Bool.{true≢false, cases_lt, cases_eq, or_cases, and_parts}
use Rattle.std.specs.Prelude.{slice_get, slice_index, slice_set}
use Rattle.cmdcodec.specs.declared.raw.Raw.{Raw}
use Rattle.qindex.specs.Positions.{size, place}
use Rattle.qindex.specs.Laws.{SlotsAreApart}
use Rattle.ringcore.specs.declared.world.event.Who.TheVariants.{Consumer, Sender}
use Rattle.ringcore.specs.declared.world.event.Half.{Half}
use Rattle.ringcore.specs.declared.world.event.Event.{Event}
use Rattle.ringcore.specs.declared.world.event.Event.TheVariants.{Look, Won, Lost, Write, Flip, Test, Read, Advance, Close, Acknowledge, Ask}
use Rattle.ringcore.specs.world.Trails.{Run, trail_of, same_half, reserved_length, has_flipped, found_ready}
use Rattle.ringcore.specs.world.World.{Item, World, commands, items_from, tail, head, world, half_of}
use Rattle.ringcore.specs.world.Allowed.{Ring, MayWrite, MayRead}
use Rattle.ringcore.specs.memory.Layout.{control_word, data_word, cell}
use Rattle.ringcore.specs.memory.Shadow.{AreAfter}
use Rattle.ringcore.specs.memory.StepLaws.{reserved_commands}
use Rattle.ringcore.proofs.WorldLemmas.Lists.{none_some}
use Rattle.ringcore.proofs.WorldLemmas.Sound.{Sound, sound, half_is}
use Rattle.ringcore.proofs.WorldLemmas.Slots.{Deep, deep, last_items, get_there}
use Rattle.ringcore.proofs.MemoryLemmas.Places.{data_within, control_not_data, flag_not_data, data_not_cell, same_data, others_stay, is_stored, flags_stay}

as_item : (place s : ℕ) (number : Option ℕ) (raws : List Raw) (k : ℕ) (raw : Raw) → slice_get raws k ≡ Some raw
    → (item : Item) × ((slice_get (items_from place s number raws) k ≡ Some item) × (item.raw ≡ raw))
as_item place s number [] k raw is = none_some raw is
as_item place s number (x ∷ xs) zero raw is = (record { sender = s; number = number; place = place; raw = x }, (refl, same_Some x raw is))
as_item place s number (x ∷ xs) (suc k) raw is = as_item (suc place) s number xs k raw is

-- a command of a sender's last reservation, as an item
item_there : (s : ℕ) (t : List Event) (k : ℕ) (raw : Raw) → slice_get (reserved_commands s t) k ≡ Some raw
    → (item : Item) × ((slice_get (last_items s t) k ≡ Some item) × (item.raw ≡ raw))
item_there s [] k raw is = none_some raw is
item_there s (Look found ∷ es) k raw is = item_there s es k raw is
item_there s (Won body number ∷ es) k raw is = as_item 0 s number (commands s number body) k raw is
item_there s (Lost body closes found ∷ es) k raw is = item_there s es k raw is
item_there s (Write offset half ∷ es) k raw is = item_there s es k raw is
item_there s (Flip offset count ∷ es) k raw is = item_there s es k raw is
item_there s (Test limit found ∷ es) k raw is = item_there s es k raw is
item_there s (Read offset half word ∷ es) k raw is = item_there s es k raw is
item_there s (Advance raws ∷ es) k raw is = item_there s es k raw is
item_there s (Close ∷ es) k raw is = item_there s es k raw is
item_there s (Acknowledge sender number ∷ es) k raw is = item_there s es k raw is
item_there s (Ask found ∷ es) k raw is = item_there s es k raw is

module _ (ring : Ring) (run : Run) (words : List ℕ) (is : AreAfter ring run words) where
  abbrev g : ℕ
  g = ring.geometry

  abbrev w : World
  w = world run

  i : Sound ring run
  i = sound ring run is.run_is

  d : Deep run
  d = deep ring run is.run_is

  pub record InWindow (p : ℕ) : Type 0 where
    pub low : head w ≤ p
    pub high : p < head w + size g

  -- What a sender may still write or flip is in the window.
  pub open_slot : (s k : ℕ) → k < reserved_length (trail_of (Sender s) run) → has_flipped k (trail_of (Sender s) run) ≡ false → InWindow (w.start s + k)
  open_slot s k inside unflipped =
      let each = i.each_within s in let top = i.within in record {
        low = elim (cases_lt (w.start s + k) (head w)) [
          | inl passed ↦ absurd (true≢false (sym (d.passed (w.start s + k) passed) ∙ (d.owns s).flipped_is k inside ∙ unflipped))
          | inr not ↦ not
        ];
        high = omega (arith, each, top, inside);
      }

  below_top : (p : ℕ) → p < tail w → p < head w + size g
  below_top p l = let top = i.within in omega (arith, l, top)

  -- ---- write and read

  pub write : SlotsAreApart → (s k : ℕ) (half : Half) (raw : Raw)
      → MayWrite (trail_of (Sender s) run) k
      → slice_get (reserved_commands s (trail_of (Sender s) run)) k ≡ Some raw
      → AreAfter ring ((Sender s, Write k half) ∷ run) (slice_set words (data_word g (w.start s + k) half) (half_of half raw))
  write one_place s k half raw a there =
      let p : ℕ = w.start s + k in
      let at : ℕ = data_word g p half in
      let x : ℕ = half_of half raw in
      let own = item_there s (trail_of (Sender s) run) k raw there in
      let placed : slice_get w.reserved p ≡ Some own.0 = (d.owns s).placed k own.0 own.1.0 in
      let here = open_slot s k a.inside a.unflipped in
      let each = i.each_within s in let inside = a.inside in
      record {
        geometry_is = is.geometry_is;
        flags_are = is.flags_are;
        run_is = (is.run_is, a);
        shadow = record {
          many = length-set words at x ∙ is.shadow.many;
          control_is = others_stay words at control_word x (λ e. control_not_data g p half (sym e)) ∙ is.shadow.control_is;
          flags = λ q low high. flags_stay g words at x q (flag_not_data g q p half) ∙ is.shadow.flags q low high;
          commands = λ q other item low wrote found. elim (or_cases (q == p && same_half other half) (w.written q other) wrote) [
            | inl new ↦
                let both = and_parts (q == p) (same_half other half) new in
                let q_is : q ≡ p = eqb-true q p both.0 in
                let other_is : other ≡ half = half_is other half both.1 in
                let item_is : own.0 ≡ item = same_Some own.0 item (sym placed ∙ ap (slice_get w.reserved) (sym q_is) ∙ found) in
                ap₂ (λ (n : ℕ) (h : Half). slice_index (slice_set words at x) (data_word g n h)) q_is other_is
                ∙ is_stored words at x (subst (λ n. at < n) (sym is.shadow.many) (data_within g p ring.senders half))
                ∙ ap₂ half_of (sym other_is) (sym own.1.1 ∙ ap (λ (z : Item). z.raw) item_is)
            | inr old ↦ elim (cases_eq (data_word g q other) at) [
              | inl one ↦
                  let both = same_data g q p other half one in
                  let q_is : q ≡ p = one_place g (head w) q p low (below_top q (i.written_below q other old)) here.low here.high both.0 in
                  let item_is : own.0 ≡ item = same_Some own.0 item (sym placed ∙ ap (slice_get w.reserved) (sym q_is) ∙ found) in
                  ap₂ (λ (n : ℕ) (h : Half). slice_index (slice_set words at x) (data_word g n h)) q_is both.1
                  ∙ is_stored words at x (subst (λ n. at < n) (sym is.shadow.many) (data_within g p ring.senders half))
                  ∙ ap₂ half_of (sym both.1) (sym own.1.1 ∙ ap (λ (z : Item). z.raw) item_is)
              | inr two ↦ others_stay words at (data_word g q other) x two ∙ is.shadow.commands q other item low old found
            ]
          ];
          cells = λ u inside. others_stay words at (cell g u) x (λ e. data_not_cell g p u half (sym e)) ∙ is.shadow.cells u inside;
        };
      }

  pub read : (k : ℕ) (half : Half) → k < found_ready (trail_of Consumer run)
      → AreAfter ring ((Consumer, Read k half (slice_index words (data_word g (head w + k) half))) ∷ run) words
  read k half ready =
      let p : ℕ = head w + k in
      let flipped = i.ready k ready in
      let at = get_there w.reserved p (i.flipped_below p flipped) in
      let low : head w ≤ p = omega arith in
      let may : MayRead w (trail_of Consumer run) k half (slice_index words (data_word g p half)) = record {
        ready = ready;
        item = at.0;
        there = at.1;
        found = is.shadow.commands p half at.0 low (d.whole p half flipped) at.1;
      } in record { geometry_is = is.geometry_is; flags_are = is.flags_are; run_is = (is.run_is, may); shadow = is.shadow }
