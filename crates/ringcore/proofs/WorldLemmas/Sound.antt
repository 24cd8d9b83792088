-- What every run keeps: the ring is never more than full, what is taken begins what is reserved, and what the
-- consumer tested and read is true.
use Rattle.std.proofs.Common.{◌≡◌, ℕ, suc, ◌+◌, ◌<◌, ◌≤◌, Bool, true, false, cond, ◌&&◌, List, [], ◌∷◌, ◌++◌, length, map, Option, Some, None, refl, sym, ap, ap₂, ◌∙◌, subst, inl, inr, eqb-true, ltb-true, leb-true, arith, length-append, append_assoc}
use Rattle.std.proofs.lemmas.Option.{same_Some}
use Rattle.std.proofs.lemmas.Bool.{or_cases, and_parts, or_right}
use Rattle.std.proofs.lemmas.List.{length-map, map-append}
use Rattle.std.specs.Prelude.{slice_get, ◌==◌, nat_le, nat_lt}
use Rattle.cmdcodec.specs.declared.raw.Raw.{Raw}
use Rattle.qindex.specs.Positions.{size}
use Rattle.ringcore.specs.declared.world.event.Who.{Who}
use Rattle.ringcore.specs.declared.world.event.Who.TheVariants.{Consumer, Sender}
use Rattle.ringcore.specs.declared.world.event.Half.{Half}
use Rattle.ringcore.specs.declared.world.event.Half.TheVariants.{Lo, Hi}
use Rattle.ringcore.specs.declared.world.event.Event.{Event}
use Rattle.ringcore.specs.declared.world.event.Event.TheVariants.{Look, Won, Lost, Write, Flip, Test, Read, Advance, Close, Acknowledge, Ask}
use Rattle.ringcore.specs.world.Trails.{Trail, Run, same, same_half, trail_of, is_among, batch_length, reserved_length, found_ready, half_read}
use Rattle.ringcore.specs.world.World.{Item, Taken, World, commands, items_from, items, taken_as, tail, head, after, world, half_of}
use Rattle.ringcore.specs.world.Allowed.{Ring, MayWin, MayWrite, MayFlip, FindsReady, MayRead, MayAdvance, Allowed, IsRun}
use Rattle.ringcore.specs.world.Delivery.{Begins}
use Rattle.ringcore.proofs.WorldLemmas.Lists.{off, none_some, get_longer, get_behind, get_map, follows}
use Rattle.ringcore.proofs.WorldLemmas.Reading.{raws_of, raws_taken, taken_again}

-- This word is that half of the command at the offset from the head.
abbrev pub AtHead : World → ℕ → Half → ℕ → Type 0
AtHead w offset half word = (item : Item) × (slice_get w.reserved (head w + offset) ≡ Some item) × (word ≡ half_of half item.raw)

pub record IsSound (ring : Ring) (w : World) (trail : Who → Trail) : Type 0 where
  pub behind : head w ≤ tail w
  pub within : tail w ≤ head w + size ring.geometry
  pub delivered : Begins (raws_taken w.taken) (raws_of w.reserved)
  pub written_below : (p : ℕ) (half : Half) → w.written p half ≡ true → p < tail w
  pub flipped_below : (p : ℕ) → w.flipped p ≡ true → p < tail w
  pub each_within : (s : ℕ) → w.start s + reserved_length (trail (Sender s)) ≤ tail w
  pub ready : (i : ℕ) → i < found_ready (trail Consumer) → w.flipped (head w + i) ≡ true
  pub reading : (i : ℕ) (half : Half) (word : ℕ) → half_read i half (trail Consumer) ≡ Some word → AtHead w i half word

abbrev pub Sound : Ring → Run → Type 0
Sound ring run = IsSound ring (world run) (λ who. trail_of who run)

length_from : (place s : ℕ) (number : Option ℕ) (raws : List Raw) → length (items_from place s number raws) ≡ length raws
length_from place s number [] = refl
length_from place s number (raw ∷ raws) = ap suc (length_from (suc place) s number raws)

pub length_commands : (s : ℕ) (number : Option ℕ) (body : List Raw) → length (commands s number body) ≡ batch_length body number
length_commands s None body = refl
length_commands s (Some number) body = length-append body _

pub length_items : (s : ℕ) (number : Option ℕ) (body : List Raw) → length (items s number body) ≡ batch_length body number
length_items s number body = length_from 0 s number (commands s number body) ∙ length_commands s number body

-- An event other than a reserve leaves the length of the last reservation.
same_length : (v : Bool) (e : Event) (t : Trail) → reserved_length (e ∷ t) ≡ reserved_length t → reserved_length (cond v (e ∷ t) t) ≡ reserved_length t
same_length true e t is = is
same_length false e t is = refl

pub among : (first count i : ℕ) → is_among first count i ≡ true → (first ≤ i) × (i < first + count)
among first count i is =
    let both = and_parts (nat_le first i) (nat_lt i (first + count)) is in (leb-true first i both.0, ltb-true i (first + count) both.1)

pub half_is : (half which : Half) → same_half half which ≡ true → half ≡ which
half_is Lo Lo is = refl
half_is Lo Hi is = off is
half_is Hi Lo is = off is
half_is Hi Hi is = refl

module _ (ring : Ring) (xs : Run) (i : Sound ring xs) where
  abbrev w : World
  w = world xs

  abbrev mine : Trail
  mine = trail_of Consumer xs

  lengths : (who : Who) (e : Event) → ((t : Trail) → reserved_length (e ∷ t) ≡ reserved_length t)
      → (s : ℕ) → w.start s + reserved_length (trail_of (Sender s) ((who, e) ∷ xs)) ≤ tail w
  lengths who e is s =
      let t = trail_of (Sender s) xs in
      subst (λ (n : ℕ). w.start s + n ≤ tail w) (sym (same_length (same (Sender s) who) e t (is t))) (i.each_within s)

  -- an event that leaves the world, and what the consumer read
  sound_unmoved_by_others : (who : Who) (e : Event) → after w who e ≡ w → ((t : Trail) → reserved_length (e ∷ t) ≡ reserved_length t)
      → ((k : ℕ) → k < found_ready (trail_of Consumer ((who, e) ∷ xs)) → w.flipped (head w + k) ≡ true)
      → ((k : ℕ) (half : Half) (x : ℕ) → half_read k half (trail_of Consumer ((who, e) ∷ xs)) ≡ Some x → AtHead w k half x)
      → Sound ring ((who, e) ∷ xs)
  sound_unmoved_by_others who e is l ready reading =
      subst (λ (v : World). IsSound ring v (λ u. trail_of u ((who, e) ∷ xs))) (sym is) record {
        behind = i.behind;
        within = i.within;
        delivered = i.delivered;
        written_below = i.written_below;
        flipped_below = i.flipped_below;
        each_within = lengths who e l;
        ready = ready;
        reading = reading;
      }

  -- a sender's event that leaves the world
  silent : (s : ℕ) (e : Event) → after w (Sender s) e ≡ w → ((t : Trail) → reserved_length (e ∷ t) ≡ reserved_length t) → Sound ring ((Sender s, e) ∷ xs)
  silent s e is l = sound_unmoved_by_others (Sender s) e is l i.ready i.reading

  won : (s : ℕ) (body : List Raw) (number : Option ℕ) → MayWin ring w (trail_of (Sender s) xs) body number
      → Sound ring ((Sender s, Won body number) ∷ xs)
  won s body number a =
      let new = items s number body in
      let grown : length (w.reserved ++ new) ≡ tail w + batch_length body number = length-append w.reserved new ∙ ap (λ n. tail w + n) (length_items s number body) in
      let behind = i.behind in
      let room = a.room in
      record {
        behind = omega (arith, behind, grown);
        within = omega (arith, room, grown);
        delivered = (
          i.delivered.0 ++ raws_of new,
          map-append (λ (x : Item). x.raw) w.reserved new ∙ ap (λ l. l ++ raws_of new) i.delivered.1 ∙ append_assoc (raws_taken w.taken) i.delivered.0 (raws_of new),
        );
        written_below = λ p half is. let low = i.written_below p half is in omega (arith, low, grown);
        flipped_below = λ p is. let low = i.flipped_below p is in omega (arith, low, grown);
        each_within = λ t. starts t (t == s) grown;
        ready = i.ready;
        reading = λ k half x is. let r = i.reading k half x is in (r.0, get_longer w.reserved new (head w + k) r.0 r.1, r.2);
      }
    where
      starts : (t : ℕ) (v : Bool) → length (w.reserved ++ items s number body) ≡ tail w + batch_length body number
          → cond v (tail w) (w.start t) + reserved_length (cond v (Won body number ∷ trail_of (Sender t) xs) (trail_of (Sender t) xs)) ≤ length (w.reserved ++ items s number body)
      starts t true grown = omega (arith, grown)
      starts t false grown = let low = i.each_within t in omega (arith, low, grown)

  wrote : (s offset : ℕ) (half : Half) → MayWrite (trail_of (Sender s) xs) offset → Sound ring ((Sender s, Write offset half) ∷ xs)
  wrote s offset half a = record {
    behind = i.behind;
    within = i.within;
    delivered = i.delivered;
    written_below = λ p h is. elim (or_cases (p == w.start s + offset && same_half h half) (w.written p h) is) [
      | inl here ↦
          let at = eqb-true p (w.start s + offset) (and_parts (p == w.start s + offset) (same_half h half) here).0 in
          let low = i.each_within s in
          let inside = a.inside in
          omega (arith, at, low, inside)
      | inr before ↦ i.written_below p h before
    ];
    flipped_below = i.flipped_below;
    each_within = lengths (Sender s) (Write offset half) (λ t. refl);
    ready = i.ready;
    reading = i.reading;
  }

  flips : (s offset count : ℕ) → MayFlip ring (trail_of (Sender s) xs) (w.start s) offset count → Sound ring ((Sender s, Flip offset count) ∷ xs)
  flips s offset count a = record {
    behind = i.behind;
    within = i.within;
    delivered = i.delivered;
    written_below = i.written_below;
    flipped_below = λ p is. elim (or_cases (is_among (w.start s + offset) count p) (w.flipped p) is) [
      | inl here ↦
          let at = among (w.start s + offset) count p here in
          let low = i.each_within s in
          let inside = a.inside in
          omega (arith, at.1, low, inside)
      | inr before ↦ i.flipped_below p before
    ];
    each_within = lengths (Sender s) (Flip offset count) (λ t. refl);
    ready = λ k less. or_right (is_among (w.start s + offset) count (head w + k)) (w.flipped (head w + k)) (i.ready k less);
    reading = i.reading;
  }

  tested : (limit found : ℕ) → FindsReady ring w limit found → Sound ring ((Consumer, Test limit found) ∷ xs)
  tested limit found a = sound_unmoved_by_others Consumer (Test limit found) refl (λ t. refl) a.ready (λ k half x is. none_some x is)

  reads : (offset : ℕ) (half : Half) (word : ℕ) → MayRead w mine offset half word → Sound ring ((Consumer, Read offset half word) ∷ xs)
  reads offset half word a =
      sound_unmoved_by_others Consumer (Read offset half word) refl (λ t. refl) i.ready (λ k h x is. by_half k h x (k == offset && same_half h half) refl is)
    where
      by_half : (k : ℕ) (h : Half) (x : ℕ) (v : Bool) → (k == offset && same_half h half) ≡ v → cond v (Some word) (half_read k h mine) ≡ Some x → AtHead w k h x
      by_half k h x true here is =
          let both = and_parts (k == offset) (same_half h half) here in (
            a.item,
            ap (λ n. slice_get w.reserved (head w + n)) (eqb-true k offset both.0) ∙ a.there,
            sym (same_Some word x is) ∙ a.found ∙ ap (λ g. half_of g a.item.raw) (sym (half_is h half both.1)),
          )
      by_half k h x false else is = i.reading k h x is

  advances : (raws : List Raw) → MayAdvance mine raws → Sound ring ((Consumer, Advance raws) ∷ xs)
  advances raws a =
      let before = raws_taken w.taken in
      let rest = i.delivered.0 in
      let next = follows rest raws (λ k raw at.
      let low = i.reading k Lo raw.lo (a.read k raw Lo at) in
      let high = i.reading k Hi raw.hi (a.read k raw Hi at) in
      let one : low.0 ≡ high.0 = same_Some low.0 high.0 (sym low.1 ∙ high.1) in
      let is : low.0.raw ≡ raw = (λ j. record { lo = (sym low.2) j; hi = (ap (λ (x : Item). x.raw.hi) one ∙ sym high.2) j }) in
      let here : length before + k ≡ head w + k = ap (λ n. n + k) (length-map w.taken (λ (t : Taken). t.raw)) in
      sym (get_behind before rest k) ∙ ap₂ slice_get (sym i.delivered.1) here
      ∙ get_map (λ (x : Item). x.raw) w.reserved (head w + k) low.0 low.1 ∙ ap Some is) in
      let whole : raws_of w.reserved ≡ (before ++ raws) ++ next.0 =
      i.delivered.1 ∙ ap (λ l. before ++ l) next.1 ∙ sym (append_assoc before raws next.0) in
      let long : tail w ≡ length (before ++ raws) + length next.0 =
      sym (length-map w.reserved (λ (x : Item). x.raw)) ∙ ap length whole ∙ length-append (before ++ raws) next.0 in
      let taken : length (before ++ raws) ≡ head w + length raws =
      length-append before raws ∙ ap (λ n. n + length raws) (length-map w.taken (λ (t : Taken). t.raw)) in
      let grown : length (w.taken ++ map taken_as raws) ≡ head w + length raws =
      length-append w.taken (map taken_as raws) ∙ ap (λ n. head w + n) (length-map raws taken_as) in
      let fits = i.within in
      let now : raws_taken (w.taken ++ map taken_as raws) ≡ before ++ raws =
      map-append (λ (t : Taken). t.raw) w.taken (map taken_as raws) ∙ ap (λ l. before ++ l) (taken_again raws) in
      record {
        behind = omega (arith, long, taken, grown);
        within = omega (arith, fits, grown);
        delivered = (next.0, whole ∙ ap (λ l. l ++ next.0) (sym now));
        written_below = i.written_below;
        flipped_below = i.flipped_below;
        each_within = lengths Consumer (Advance raws) (λ t. refl);
        ready = λ k less. absurd (omega (arith, less));
        reading = λ k half x is. none_some x is;
      }

  closes : (s : ℕ) → Sound ring ((Sender s, Close) ∷ xs)
  closes s = record {
    behind = i.behind;
    within = i.within;
    delivered = i.delivered;
    written_below = i.written_below;
    flipped_below = i.flipped_below;
    each_within = lengths (Sender s) Close (λ t. refl);
    ready = i.ready;
    reading = i.reading;
  }

  acknowledges : (sender number : ℕ) → Sound ring ((Consumer, Acknowledge sender number) ∷ xs)
  acknowledges sender number = record {
    behind = i.behind;
    within = i.within;
    delivered = i.delivered;
    written_below = i.written_below;
    flipped_below = i.flipped_below;
    each_within = lengths Consumer (Acknowledge sender number) (λ t. refl);
    ready = i.ready;
    reading = i.reading;
  }

  pub sound_after_event : (who : Who) (e : Event) → Allowed ring w (trail_of who xs) who e → Sound ring ((who, e) ∷ xs)
  sound_after_event Consumer (Look found) a = sound_unmoved_by_others Consumer (Look found) refl (λ t. refl) i.ready i.reading
  sound_after_event Consumer (Won body number) a = absurd a
  sound_after_event Consumer (Lost body closes found) a = absurd a
  sound_after_event Consumer (Write offset half) a = absurd a
  sound_after_event Consumer (Flip offset count) a = absurd a
  sound_after_event Consumer (Test limit found) a = tested limit found a
  sound_after_event Consumer (Read offset half word) a = reads offset half word a
  sound_after_event Consumer (Advance raws) a = advances raws a
  sound_after_event Consumer Close a = absurd a
  sound_after_event Consumer (Acknowledge sender number) a = acknowledges sender number
  sound_after_event Consumer (Ask found) a = absurd a
  sound_after_event (Sender s) (Look found) a = silent s (Look found) refl (λ t. refl)
  sound_after_event (Sender s) (Won body number) a = won s body number a
  sound_after_event (Sender s) (Lost body closes found) a = silent s (Lost body closes found) refl (λ t. refl)
  sound_after_event (Sender s) (Write offset half) a = wrote s offset half a
  sound_after_event (Sender s) (Flip offset count) a = flips s offset count a
  sound_after_event (Sender s) (Test limit found) a = absurd a
  sound_after_event (Sender s) (Read offset half word) a = absurd a
  sound_after_event (Sender s) (Advance raws) a = absurd a
  sound_after_event (Sender s) Close a = closes s
  sound_after_event (Sender s) (Acknowledge sender number) a = absurd a
  sound_after_event (Sender s) (Ask found) a = silent s (Ask found) refl (λ t. refl)

pub sound : (ring : Ring) (run : Run) → IsRun ring run → Sound ring run
sound ring [] ok = record {
  behind = omega arith;
  within = omega arith;
  delivered = ([], refl);
  written_below = λ p half is. off is;
  flipped_below = λ p is. off is;
  each_within = λ s. omega arith;
  ready = λ k less. absurd (omega (arith, less));
  reading = λ k half x is. none_some x is;
}
sound ring (x ∷ xs) ok = sound_after_event ring xs (sound ring xs ok.0) x.0 x.1 ok.1
