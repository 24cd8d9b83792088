-- What every run keeps of each sender's slots.
use Rattle.std.proofs.Common.{◌≡◌, ◌≢◌, ℕ, zero, suc, ◌+◌, ◌-◌, ◌<◌, Bool, true, false, cond, ◌||◌, ◌&&◌, List, [], ◌∷◌, ◌++◌, length, map, Option, Some, refl, sym, ap, ap₂, ◌∙◌, inl, inr, eqb-true, eq-eqb, ne_eqb, arith, length-append}
use Rattle.std.proofs.lemmas.Option.{same_Some}
use Rattle.std.proofs.lemmas.Bool.{true≢false, cases_lt, cases_eq, false_from_ne_true, lt-ltb, le-ltb, le-leb, lt-leb, or_cases, or_right}
use Rattle.std.proofs.lemmas.List.{length-map}
use Rattle.std.specs.Prelude.{slice_get, ◌==◌, nat_le, nat_lt}
use Rattle.cmdcodec.specs.declared.raw.Raw.{Raw}
use Rattle.ringcore.specs.declared.world.event.Who.{Who}
use Rattle.ringcore.specs.declared.world.event.Who.TheVariants.{Consumer, Sender}
use Rattle.ringcore.specs.declared.world.event.Half.{Half}
use Rattle.ringcore.specs.declared.world.event.Event.{Event}
use Rattle.ringcore.specs.declared.world.event.Event.TheVariants.{Look, Won, Lost, Write, Flip, Test, Read, Advance, Close, Acknowledge, Ask}
use Rattle.ringcore.specs.world.Trails.{Trail, Run, same, same_half, trail_of, is_among, reserved_length, has_written, has_flipped}
use Rattle.ringcore.specs.world.World.{Item, World, commands, items, taken_as, with_at, tail, head, after, world}
use Rattle.ringcore.specs.world.Allowed.{Ring, MayWrite, MayFlip, MayAdvance, Allowed, IsRun}
use Rattle.ringcore.proofs.WorldLemmas.Lists.{off, none_some, get_longer, get_behind}
use Rattle.ringcore.proofs.WorldLemmas.Reading.{item_of}
use Rattle.ringcore.proofs.WorldLemmas.Sound.{Sound, sound, among, length_items}

-- the items of a sender's last reservation, by its own trail
abbrev pub last_items : ℕ → Trail → List Item
last_items s [] = []
last_items s (Won body number ∷ es) = items s number body
last_items s (e ∷ es) = last_items s es

pub length_of_last : (s : ℕ) (t : Trail) → length (last_items s t) ≡ reserved_length t
length_of_last s [] = refl
length_of_last s (Look found ∷ es) = length_of_last s es
length_of_last s (Won body number ∷ es) = length_items s number body
length_of_last s (Lost body closes found ∷ es) = length_of_last s es
length_of_last s (Write offset half ∷ es) = length_of_last s es
length_of_last s (Flip offset count ∷ es) = length_of_last s es
length_of_last s (Test limit found ∷ es) = length_of_last s es
length_of_last s (Read offset half word ∷ es) = length_of_last s es
length_of_last s (Advance raws ∷ es) = length_of_last s es
length_of_last s (Close ∷ es) = length_of_last s es
length_of_last s (Acknowledge sender number ∷ es) = length_of_last s es
length_of_last s (Ask found ∷ es) = length_of_last s es

pub sender_of_last : (s : ℕ) (t : Trail) (j : ℕ) (item : Item) → slice_get (last_items s t) j ≡ Some item → item.sender ≡ s
sender_of_last s [] j item is = none_some item is
sender_of_last s (Look found ∷ es) j item is = sender_of_last s es j item is
sender_of_last s (Won body number ∷ es) j item is = (item_of 0 s number (commands s number body) j item is).sender_is
sender_of_last s (Lost body closes found ∷ es) j item is = sender_of_last s es j item is
sender_of_last s (Write offset half ∷ es) j item is = sender_of_last s es j item is
sender_of_last s (Flip offset count ∷ es) j item is = sender_of_last s es j item is
sender_of_last s (Test limit found ∷ es) j item is = sender_of_last s es j item is
sender_of_last s (Read offset half word ∷ es) j item is = sender_of_last s es j item is
sender_of_last s (Advance raws ∷ es) j item is = sender_of_last s es j item is
sender_of_last s (Close ∷ es) j item is = sender_of_last s es j item is
sender_of_last s (Acknowledge sender number ∷ es) j item is = sender_of_last s es j item is
sender_of_last s (Ask found ∷ es) j item is = sender_of_last s es j item is

pub get_there : {A : Type 0} (xs : List A) (i : ℕ) → i < length xs → (x : A) × (slice_get xs i ≡ Some x)
get_there [] i h = absurd (omega (arith, h))
get_there (x ∷ xs) zero h = (x, refl)
get_there (x ∷ xs) (suc i) h = get_there xs i (omega (arith, h))

eqb_add : (a i j : ℕ) → (a + i == a + j) ≡ (i == j)
eqb_add a i j =
    elim (cases_eq i j) [
      | inl is ↦ eq-eqb (a + i) (a + j) (omega (arith, is)) ∙ sym (eq-eqb i j is)
      | inr not ↦ ne_eqb (a + i) (a + j) (λ e. not (omega (arith, e))) ∙ sym (ne_eqb i j not)
    ]

among_add : (a first count i : ℕ) → is_among (a + first) count (a + i) ≡ is_among first count i
among_add a first count i = ap₂ (λ x y. x && y) low high
  where
    low : nat_le (a + first) (a + i) ≡ nat_le first i
    low = elim (cases_lt i first) [
      | inl less ↦ lt-leb (a + first) (a + i) (omega (arith, less)) ∙ sym (lt-leb first i less)
      | inr over ↦ le-leb (a + first) (a + i) (omega (arith, over)) ∙ sym (le-leb first i over)
    ]

    high : nat_lt (a + i) (a + first + count) ≡ nat_lt i (first + count)
    high = elim (cases_lt i (first + count)) [
      | inl less ↦ lt-ltb (a + i) (a + first + count) (omega (arith, less)) ∙ sym (lt-ltb i (first + count) less)
      | inr over ↦ le-ltb (a + i) (a + first + count) (omega (arith, over)) ∙ sym (le-ltb i (first + count) over)
    ]

-- ---- what a sender owns

pub record Owns (w : World) (s : ℕ) (mine : Trail) : Type 0 where
  pub placed : (j : ℕ) (item : Item) → slice_get (last_items s mine) j ≡ Some item → slice_get w.reserved (w.start s + j) ≡ Some item
  pub written_is : (j : ℕ) (half : Half) → j < reserved_length mine → w.written (w.start s + j) half ≡ has_written j half mine
  pub flipped_is : (j : ℕ) → j < reserved_length mine → w.flipped (w.start s + j) ≡ has_flipped j mine

pub record Holds (w : World) (trail : Who → Trail) : Type 0 where
  pub owns : (s : ℕ) → Owns w s (trail (Sender s))
  pub whole : (p : ℕ) (half : Half) → w.flipped p ≡ true → w.written p half ≡ true
  pub passed : (p : ℕ) → p < head w → w.flipped p ≡ true

abbrev pub Deep : Run → Type 0
Deep run = Holds (world run) (λ who. trail_of who run)

-- The last reservations of two senders have no position in common.
pub apart : (w : World) (s u : ℕ) (mine other : Trail) → Owns w s mine → Owns w u other → (j i : ℕ) → j < reserved_length mine → i < reserved_length other
    → u ≢ s → w.start u + i ≢ w.start s + j
apart w s u mine other a b j i j_in i_in not same =
    let long = length_of_last s mine in
    let wide = length_of_last u other in
    let x = get_there (last_items s mine) j (omega (arith, j_in, long)) in
    let y = get_there (last_items u other) i (omega (arith, i_in, wide)) in
    let one : y.0 ≡ x.0 = same_Some y.0 x.0 (sym (b.placed i y.0 y.1) ∙ ap (slice_get w.reserved) same ∙ a.placed j x.0 x.1) in
    not (sym (sender_of_last u other i y.0 y.1) ∙ ap (λ (z : Item). z.sender) one ∙ sender_of_last s mine j x.0 x.1)

by_trail : (w v : World) (s : ℕ) (b : Bool) (e : Event) (t : Trail) → (Owns w s t → Owns v s (e ∷ t)) → (Owns w s t → Owns v s t) → Owns w s t → Owns v s (cond b (e ∷ t) t)
by_trail w v s true e t f g o = f o
by_trail w v s false e t f g o = g o

module _ (ring : Ring) (xs : Run) (ok : IsRun ring xs) (d : Deep xs) where
  abbrev w : World
  w = world xs

  abbrev mine : ℕ → Trail
  mine s = trail_of (Sender s) xs

  i : Sound ring xs
  i = sound ring xs ok

  won : (s : ℕ) (body : List Raw) (number : Option ℕ) → Deep ((Sender s, Won body number) ∷ xs)
  won s body number = record { owns = λ u. own u (u == s) refl; whole = d.whole; passed = d.passed }
    where
      own : (u : ℕ) (v : Bool) → (u == s) ≡ v → Owns (after w (Sender s) (Won body number)) u (cond v (Won body number ∷ mine u) (mine u))
      own u true is =
          let at : s ≡ u = sym (eqb-true u s is) in
          let first : with_at s (tail w) w.start u ≡ tail w = ap (λ (v : Bool). cond v (tail w) (w.start u)) is in record {
            placed = λ j item there.
                ap (λ p. slice_get (w.reserved ++ items s number body) (p + j)) first ∙ get_behind w.reserved (items s number body) j
                ∙ ap (λ (x : ℕ). slice_get (items x number body) j) at ∙ there;
            written_is = λ j half inside. ap (λ p. w.written (p + j) half) first
                ∙ false_from_ne_true (w.written (tail w + j) half) (λ e. let low = i.written_below (tail w + j) half e in omega (arith, low));
            flipped_is = λ j inside. ap (λ p. w.flipped (p + j)) first
                ∙ false_from_ne_true (w.flipped (tail w + j)) (λ e. let low = i.flipped_below (tail w + j) e in omega (arith, low));
          }
      own u false is =
          let o = d.owns u in
          let first : with_at s (tail w) w.start u ≡ w.start u = ap (λ (v : Bool). cond v (tail w) (w.start u)) is in record {
            placed = λ j item there.
                ap (λ p. slice_get (w.reserved ++ items s number body) (p + j)) first
                ∙ get_longer w.reserved (items s number body) (w.start u + j) item (o.placed j item there);
            written_is = λ j half inside. ap (λ p. w.written (p + j) half) first ∙ o.written_is j half inside;
            flipped_is = λ j inside. ap (λ p. w.flipped (p + j)) first ∙ o.flipped_is j inside;
          }

  wrote : (s offset : ℕ) (half : Half) → MayWrite (mine s) offset → Deep ((Sender s, Write offset half) ∷ xs)
  wrote s offset half a = record {
    owns = λ u. own u (u == s) refl;
    whole = λ p h f. or_right (p == w.start s + offset && same_half h half) (w.written p h) (d.whole p h f);
    passed = d.passed;
  }
    where
      own : (u : ℕ) (v : Bool) → (u == s) ≡ v → Owns (after w (Sender s) (Write offset half)) u (cond v (Write offset half ∷ mine u) (mine u))
      own u true is =
          let o = d.owns u in
          let at : s ≡ u = sym (eqb-true u s is) in record {
            placed = o.placed;
            written_is = λ j h inside.
                ap (λ (x : ℕ). (w.start u + j == w.start x + offset && same_half h half) || w.written (w.start u + j) h) at
                ∙ ap (λ (v : Bool). (v && same_half h half) || w.written (w.start u + j) h) (eqb_add (w.start u) j offset)
                ∙ ap (λ (v : Bool). (j == offset && same_half h half) || v) (o.written_is j h inside);
            flipped_is = o.flipped_is;
          }
      own u false is =
          let o = d.owns u in
          let not : u ≢ s = (λ e. true≢false (sym (eq-eqb u s e) ∙ is)) in record {
            placed = o.placed;
            written_is = λ j h inside.
                ap (λ (v : Bool). (v && same_half h half) || w.written (w.start u + j) h)
                (ne_eqb (w.start u + j) (w.start s + offset) (apart w s u (mine s) (mine u) (d.owns s) o offset j a.inside inside not))
                ∙ o.written_is j h inside;
            flipped_is = o.flipped_is;
          }

  flips : (s offset count : ℕ) → MayFlip ring (mine s) (w.start s) offset count → Deep ((Sender s, Flip offset count) ∷ xs)
  flips s offset count a = record {
    owns = λ u. own u (u == s) refl;
    whole = λ p half f. elim (or_cases (is_among (w.start s + offset) count p) (w.flipped p) f) [
      | inl here ↦
          let at = among (w.start s + offset) count p here in
          let n = p - (w.start s + offset) in
          let small : n < count = omega (arith, at.0, at.1) in
          let inside = a.inside in
          let is : p ≡ w.start s + (offset + n) = omega (arith, at.0) in
          ap (λ x. w.written x half) is ∙ (d.owns s).written_is (offset + n) half (omega (arith, small, inside)) ∙ a.written n half small
      | inr before ↦ d.whole p half before
    ];
    passed = λ p low. or_right (is_among (w.start s + offset) count p) (w.flipped p) (d.passed p low);
  }
    where
      own : (u : ℕ) (v : Bool) → (u == s) ≡ v → Owns (after w (Sender s) (Flip offset count)) u (cond v (Flip offset count ∷ mine u) (mine u))
      own u true is =
          let o = d.owns u in
          let at : s ≡ u = sym (eqb-true u s is) in record {
            placed = o.placed;
            written_is = o.written_is;
            flipped_is = λ j inside.
                ap (λ (x : ℕ). is_among (w.start x + offset) count (w.start u + j) || w.flipped (w.start u + j)) at
                ∙ ap (λ (v : Bool). v || w.flipped (w.start u + j)) (among_add (w.start u) offset count j)
                ∙ ap (λ (v : Bool). is_among offset count j || v) (o.flipped_is j inside);
          }
      own u false is =
          let o = d.owns u in
          let not : u ≢ s = (λ e. true≢false (sym (eq-eqb u s e) ∙ is)) in record {
            placed = o.placed;
            written_is = o.written_is;
            flipped_is = λ j inside.
                ap (λ (v : Bool). v || w.flipped (w.start u + j))
                (false_from_ne_true (is_among (w.start s + offset) count (w.start u + j)) (λ e.
                let at = among (w.start s + offset) count (w.start u + j) e in
                let most = a.inside in
                let n = w.start u + j - (w.start s + offset) in
                apart w s u (mine s) (mine u) (d.owns s) o (offset + n) j (omega (arith, at.0, at.1, most)) inside not (omega (arith, at.0))))
                ∙ o.flipped_is j inside;
          }

  advances : (raws : List Raw) → MayAdvance (trail_of Consumer xs) raws → Deep ((Consumer, Advance raws) ∷ xs)
  advances raws a = record {
    owns = λ s. let o = d.owns s in record { placed = o.placed; written_is = o.written_is; flipped_is = o.flipped_is };
    whole = d.whole;
    passed = λ p low.
        let grown = length-append w.taken (map taken_as raws) in
        let many = length-map raws taken_as in
        let ready = a.ready in
        elim (cases_lt p (head w)) [
          | inl old ↦ d.passed p old
          | inr new ↦
              let is : p ≡ head w + (p - head w) = omega (arith, new) in
              ap w.flipped is ∙ i.ready (p - head w) (omega (arith, new, low, grown, many, ready))
        ];
  }

  -- what stays as it was
  kept : (v : World) (u : ℕ) (t : Trail) → v.reserved ≡ w.reserved → v.start ≡ w.start → v.written ≡ w.written → v.flipped ≡ w.flipped → Owns w u t → Owns v u t
  kept v u t r s wr f o = record {
    placed = λ j item there. ap₂ (λ l (g : ℕ → ℕ). slice_get l (g u + j)) r s ∙ o.placed j item there;
    written_is = λ j half inside. ap₂ (λ (g : ℕ → Half → Bool) (h : ℕ → ℕ). g (h u + j) half) wr s ∙ o.written_is j half inside;
    flipped_is = λ j inside. ap₂ (λ (g : ℕ → Bool) (h : ℕ → ℕ). g (h u + j)) f s ∙ o.flipped_is j inside;
  }

  pub slots_after_event : (who : Who) (e : Event) → Allowed ring w (trail_of who xs) who e → Deep ((who, e) ∷ xs)
  slots_after_event Consumer (Look found) a = record { owns = λ u. kept (after w Consumer (Look found)) u (mine u) refl refl refl refl (d.owns u); whole = d.whole; passed = d.passed }
  slots_after_event Consumer (Won body number) a = absurd a
  slots_after_event Consumer (Lost body closes found) a = absurd a
  slots_after_event Consumer (Write offset half) a = absurd a
  slots_after_event Consumer (Flip offset count) a = absurd a
  slots_after_event Consumer (Test limit found) a = record { owns = λ u. kept (after w Consumer (Test limit found)) u (mine u) refl refl refl refl (d.owns u); whole = d.whole; passed = d.passed }
  slots_after_event Consumer (Read offset half word) a = record { owns = λ u. kept (after w Consumer (Read offset half word)) u (mine u) refl refl refl refl (d.owns u); whole = d.whole; passed = d.passed }
  slots_after_event Consumer (Advance raws) a = advances raws a
  slots_after_event Consumer Close a = absurd a
  slots_after_event Consumer (Acknowledge sender number) a = record { owns = λ u. kept (after w Consumer (Acknowledge sender number)) u (mine u) refl refl refl refl (d.owns u); whole = d.whole; passed = d.passed }
  slots_after_event Consumer (Ask found) a = absurd a
  slots_after_event (Sender s) (Look found) a = record { owns = λ u. by_trail w (after w (Sender s) (Look found)) u (u == s) (Look found) (mine u) (λ o. record { placed = o.placed; written_is = o.written_is; flipped_is = o.flipped_is }) (λ o. record { placed = o.placed; written_is = o.written_is; flipped_is = o.flipped_is }) (d.owns u); whole = d.whole; passed = d.passed }
  slots_after_event (Sender s) (Won body number) a = won s body number
  slots_after_event (Sender s) (Lost body closes found) a = record { owns = λ u. by_trail w (after w (Sender s) (Lost body closes found)) u (u == s) (Lost body closes found) (mine u) (λ o. record { placed = o.placed; written_is = o.written_is; flipped_is = o.flipped_is }) (λ o. record { placed = o.placed; written_is = o.written_is; flipped_is = o.flipped_is }) (d.owns u); whole = d.whole; passed = d.passed }
  slots_after_event (Sender s) (Write offset half) a = wrote s offset half a
  slots_after_event (Sender s) (Flip offset count) a = flips s offset count a
  slots_after_event (Sender s) (Test limit found) a = absurd a
  slots_after_event (Sender s) (Read offset half word) a = absurd a
  slots_after_event (Sender s) (Advance raws) a = absurd a
  slots_after_event (Sender s) Close a = record { owns = λ u. by_trail w (after w (Sender s) Close) u (u == s) Close (mine u) (λ o. record { placed = o.placed; written_is = o.written_is; flipped_is = o.flipped_is }) (λ o. record { placed = o.placed; written_is = o.written_is; flipped_is = o.flipped_is }) (d.owns u); whole = d.whole; passed = d.passed }
  slots_after_event (Sender s) (Acknowledge sender number) a = absurd a
  slots_after_event (Sender s) (Ask found) a = record { owns = λ u. by_trail w (after w (Sender s) (Ask found)) u (u == s) (Ask found) (mine u) (λ o. record { placed = o.placed; written_is = o.written_is; flipped_is = o.flipped_is }) (λ o. record { placed = o.placed; written_is = o.written_is; flipped_is = o.flipped_is }) (d.owns u); whole = d.whole; passed = d.passed }

pub deep : (ring : Ring) (run : Run) → IsRun ring run → Deep run
deep ring [] ok = record {
  owns = λ s. record { placed = λ j item there. none_some item there; written_is = λ j half inside. absurd (omega (arith, inside)); flipped_is = λ j inside. absurd (omega (arith, inside)) };
  whole = λ p half f. off f;
  passed = λ p low. absurd (omega (arith, low));
}
deep ring (x ∷ xs) ok = slots_after_event ring xs ok.0 (deep ring xs ok.0) x.0 x.1 ok.1
