-- The steps on the flags: flip and test, and advance, which opens places for the lap that follows.
use Rattle.std.proofs.Common.{◌≡◌, ◌≢◌, ℕ, zero, suc, ◌+◌, ◌-◌, ◌/◌, ◌%◌, ◌<◌, ◌≤◌, Bool, true, false, ◌==◌, ◌||◌, ◌&&◌, List, ◌∷◌, ◌++◌, length, map, refl, sym, ap, ap₂, ◌∙◌, subst, inl, inr, eqb-true, eq-eqb, ne_eqb, arith, length-append, length-set, bit_xor}
use Rattle.ringcore.proofs.MemoryLemmas.FlagPlaces.{polarity-lt}
use Rattle.std.proofs.lemmas.Bool.{true≢false, cases_lt, cases_eq, false_from_ne_true, le-leb, lt-ltb, eqb-false}
use Rattle.std.proofs.lemmas.List.{length-map}
use Rattle.std.proofs.lemmas.Nat.Bits.{bit_at_xor, bit_at-lt}
use Rattle.std.specs.Prelude.{slice_index}
use Rattle.std.specs.Int.{bit_at}
use Rattle.cmdcodec.specs.declared.raw.Raw.{Raw}
use Rattle.qindex.specs.declared.control.Control.{Control}
use Rattle.qindex.specs.Positions.{size, place, wrap_bit, index_of}
use Rattle.qindex.specs.ControlWord.{packed, advance_mask}
use Rattle.qindex.specs.Laws.{QueuesHaveAControl, IndexesArePlaceAndWrapBit, SlotsAreApart, WrapBitsTurnByLap, XorAdvances}
use Rattle.ringcore.specs.declared.world.event.Who.TheVariants.{Consumer, Sender}
use Rattle.ringcore.specs.declared.world.event.Event.TheVariants.{Flip, Test, Advance}
use Rattle.ringcore.specs.world.Trails.{Run, trail_of, is_among, found_ready}
use Rattle.ringcore.specs.world.World.{World, taken_as, tail, head, after, world, control}
use Rattle.ringcore.specs.world.Allowed.{Ring, MayFlip, FindsReady, MayAdvance, IsRunLength, ShareAWord, IsRun}
use Rattle.ringcore.specs.memory.Layout.{control_word, flag_word, data_word, cell}
use Rattle.ringcore.specs.memory.Flags.{flag_bit, polarity, says_flipped, IsFlipMask, IsReadyRun}
use Rattle.ringcore.specs.memory.Shadow.{AreAfter}
use Rattle.ringcore.specs.memory.StepLaws.{turned}
use Rattle.ringcore.proofs.WorldLemmas.Sound.{Sound, sound, among}
use Rattle.ringcore.proofs.WorldLemmas.Slots.{Deep, deep}
use Rattle.ringcore.proofs.WorldLemmas.LookedControls.{is_control}
use Rattle.ringcore.proofs.MemoryLemmas.DataWords.{InWindow, open_slot}
use Rattle.ringcore.proofs.MemoryLemmas.Places.{flag_within, control_within, control_not_flag, control_not_data, control_not_cell, flag_not_data, flag_not_cell, same_flag, others_stay, is_stored, flags_stay}

in_one_word : (g p count : ℕ) → ShareAWord 64 g p count → (k : ℕ) → k < count → flag_word g (p + k) ≡ flag_word g p
in_one_word g p count share k less = ap (λ (n : ℕ). 8 + n) (share k less)

-- A bit that isn't p is p once flipped.
other_bit : (b p : ℕ) → b < 2 → p < 2 → b ≢ p → (b + 1) % 2 ≡ p
other_bit zero zero b_lt p_lt not = absurd (not refl)
other_bit zero (suc zero) b_lt p_lt not = refl
other_bit (suc zero) zero b_lt p_lt not = refl
other_bit (suc zero) (suc zero) b_lt p_lt not = absurd (not refl)
other_bit (suc (suc b)) p b_lt p_lt not = absurd (omega (arith, b_lt))
other_bit b (suc (suc p)) b_lt p_lt not = absurd (omega (arith, p_lt))

kept_bit : (b : ℕ) → b < 2 → (b + 0) % 2 ≡ b
kept_bit zero l = refl
kept_bit (suc zero) l = refl
kept_bit (suc (suc b)) l = absurd (omega (arith, l))

no_bit : (b : ℕ) → b < 2 → (b ≡ 1 → ⊥) → b ≡ 0
no_bit zero l not = refl
no_bit (suc zero) l not = absurd (not refl)
no_bit (suc (suc b)) l not = absurd (omega (arith, l))

is_in : (first count q : ℕ) → first ≤ q → q < first + count → is_among first count q ≡ true
is_in first count q low high = ap₂ (λ x y. x && y) (le-leb first q low) (lt-ltb q (first + count) high)

module _ (ring : Ring) (run : Run) (words : List ℕ) (is : AreAfter ring run words) where
  abbrev g : ℕ
  g = ring.geometry

  abbrev w : World
  w = world run

  i : Sound ring run
  i = sound ring run is.run_is

  d : Deep run
  d = deep ring run is.run_is

  -- ---- flip

  module _ (one_place : SlotsAreApart) (s offset count mask : ℕ) (a : MayFlip ring (trail_of (Sender s) run) (w.start s) offset count)
      (m : IsFlipMask g (w.start s + offset) count mask) where
    abbrev p : ℕ
    p = w.start s + offset

    abbrev at : ℕ
    at = flag_word g p

    abbrev x : ℕ
    x = slice_index words at

    abbrev y : ℕ
    y = bit_xor x mask

    own : (k : ℕ) → k < count → InWindow ring run words is (p + k)
    own k less =
        let inside = a.inside in
        subst (InWindow ring run words is) (omega arith) (open_slot ring run words is s (offset + k) (omega (arith, less, inside)) (a.unflipped k less))

    not_flipped : (k : ℕ) → k < count → w.flipped (p + k) ≡ false
    not_flipped k less =
        let inside = a.inside in
        let n : p + k ≡ w.start s + (offset + k) = omega arith in
        ap w.flipped n ∙ (d.owns s).flipped_is (offset + k) (omega (arith, less, inside)) ∙ a.unflipped k less

    -- what the word says once it is flipped
    in_word : (q : ℕ) → flag_word g q ≡ at → slice_index (turned words at mask) (flag_word g q) ≡ y
    in_word q one =
        ap (slice_index (turned words at mask)) one
        ∙ is_stored words at y (subst (λ n. at < n) (sym is.shadow.many) (flag_within g p ring.senders))

    was : (q : ℕ) → flag_word g q ≡ at → says_flipped g words q ≡ (bit_at x (flag_bit g q) == polarity g q)
    was q one = ap (λ (n : ℕ). bit_at (slice_index words n) (flag_bit g q) == polarity g q) one

    now : (q : ℕ) → flag_word g q ≡ at → says_flipped g (turned words at mask) q ≡ ((bit_at x (flag_bit g q) + bit_at mask (flag_bit g q)) % 2 == polarity g q)
    now q one =
        ap (λ (n : ℕ). bit_at n (flag_bit g q) == polarity g q) (in_word q one)
        ∙ ap (λ (n : ℕ). n == polarity g q) (bit_at_xor x mask (flag_bit g q))

    turns : (q : ℕ) → InWindow ring run words is q → flag_word g q ≡ at → bit_at mask (flag_bit g q) ≡ 1 → w.flipped q ≡ false → says_flipped g (turned words at mask) q ≡ true
    turns q here one set fresh =
        let b : ℕ = bit_at x (flag_bit g q) in
        let not : b ≢ polarity g q = eqb-false b (polarity g q) (sym (was q one) ∙ is.shadow.flags q here.low here.high ∙ fresh) in
        now q one ∙ ap (λ (n : ℕ). (b + n) % 2 == polarity g q) set
        ∙ eq-eqb ((b + 1) % 2) (polarity g q) (other_bit b (polarity g q) (bit_at-lt x (flag_bit g q)) (polarity-lt g q) not)

    stays : (q : ℕ) → InWindow ring run words is q → (bit_at mask (flag_bit g q) ≡ 1 → flag_word g q ≡ at → ⊥) → says_flipped g (turned words at mask) q ≡ w.flipped q
    stays q here none = elim (cases_eq (flag_word g q) at) [
      | inl one ↦
          let b : ℕ = bit_at x (flag_bit g q) in
          let clear : bit_at mask (flag_bit g q) ≡ 0 = no_bit (bit_at mask (flag_bit g q)) (bit_at-lt mask (flag_bit g q)) (λ set. none set one) in
          now q one ∙ ap (λ (n : ℕ). (b + n) % 2 == polarity g q) clear
          ∙ ap (λ (n : ℕ). n == polarity g q) (kept_bit b (bit_at-lt x (flag_bit g q)))
          ∙ sym (was q one) ∙ is.shadow.flags q here.low here.high
      | inr other ↦ flags_stay g words at y q other ∙ is.shadow.flags q here.low here.high
    ]

    shows : (q : ℕ) → head w ≤ q → q < head w + size g → says_flipped g (turned words at mask) q ≡ (is_among p count q || w.flipped q)
    shows q low high = by_run (is_among p count q) refl
      where
        here : InWindow ring run words is q
        here = record { low = low; high = high }

        by_run : (v : Bool) → is_among p count q ≡ v → says_flipped g (turned words at mask) q ≡ (v || w.flipped q)
        by_run true inside =
            let its = among p count q inside in
            let k : ℕ = q - p in
            let q_is : q ≡ p + k = omega (arith, its.0) in
            let less : k < count = omega (arith, its.0, its.1) in
            let one : flag_word g q ≡ at = ap (flag_word g) q_is ∙ in_one_word g p count (subst (λ f. ShareAWord f g p count) is.flags_are a.in_word) k less in
            let set : bit_at mask (flag_bit g q) ≡ 1 = (m.bits (flag_bit g q)).1 record { offset = k; among = less; is_its = ap (flag_bit g) q_is } in
            turns q here one set (ap w.flipped q_is ∙ not_flipped k less)
        by_run false outside = stays q here (λ set one.
            let its = (m.bits (flag_bit g q)).0 set in
            let k : ℕ = its.offset in
            let share : flag_word g (p + k) ≡ at = in_one_word g p count (subst (λ f. ShareAWord f g p count) is.flags_are a.in_word) k its.among in
            let place_is : place g q ≡ place g (p + k) = same_flag g q (p + k) (one ∙ sym share) its.is_its in
            let window = own k its.among in
            let q_is : q ≡ p + k = one_place g (head w) q (p + k) low high window.low window.high place_is in
            true≢false (sym (is_in p count q (omega (arith, q_is)) (omega (arith, q_is, its.among))) ∙ outside))

    pub flip : AreAfter ring ((Sender s, Flip offset count) ∷ run) (turned words at mask)
    flip = record {
      geometry_is = is.geometry_is;
      flags_are = is.flags_are;
      run_is = (is.run_is, a);
      shadow = record {
        many = length-set words at y ∙ is.shadow.many;
        control_is = others_stay words at control_word y (λ e. control_not_flag g p (sym e)) ∙ is.shadow.control_is;
        flags = shows;
        commands = λ q half item low written there. others_stay words at (data_word g q half) y (λ e. flag_not_data g p q half (sym e)) ∙ is.shadow.commands q half item low written there;
        cells = λ u there. others_stay words at (cell g u) y (λ e. flag_not_cell g p u (sym e)) ∙ is.shadow.cells u there;
      };
    }

  -- ---- test

  pub test : WrapBitsTurnByLap → (limit found : ℕ) → IsRunLength limit
      → IsReadyRun g (slice_index words (flag_word g (head w))) (head w) limit found
      → AreAfter ring ((Consumer, Test limit found) ∷ run) words
  test laps limit found many r = record { geometry_is = is.geometry_is; flags_are = is.flags_are; run_is = (is.run_is, may); shadow = is.shadow }
    where
      h : ℕ
      h = head w

      says : (k : ℕ) → flag_word g (h + k) ≡ flag_word g h → says_flipped g words (h + k) ≡ (bit_at (slice_index words (flag_word g h)) (flag_bit g (h + k)) == polarity g (h + k))
      says k one = ap (λ (n : ℕ). bit_at (slice_index words n) (flag_bit g (h + k)) == polarity g (h + k)) one

      -- One lap further on, the head's flag says the opposite.
      not_round : size g < found → ⊥
      not_round over =
          let first = r.ready 0 (omega (arith, over)) in
          let last = r.ready (size g) over in
          let lap = laps g h in
          let zero_is : h + 0 ≡ h = omega arith in
          let bit_is : flag_bit g (h + size g) ≡ flag_bit g (h + 0) = ap (λ (n : ℕ). n % 64) lap.place ∙ ap (flag_bit g) (sym zero_is) in
          let same : polarity g (h + size g) ≡ polarity g h =
          sym last ∙ ap (bit_at (slice_index words (flag_word g h))) bit_is ∙ first ∙ ap (polarity g) zero_is in
          let a : ℕ = wrap_bit g (h + size g) in let b : ℕ = wrap_bit g h in
          let turn : a + b ≡ 1 = lap.wrap_bit in let e : 1 - a ≡ 1 - b = same in omega (arith, turn, e)

      at_most : found ≤ size g
      at_most = elim (cases_lt (size g) found) [ inl over ↦ absurd (not_round over) | inr le ↦ le ]

      shared : ShareAWord ring.flags g h (suc found) → ShareAWord 64 g h (suc found)
      shared = subst (λ f. ShareAWord f g h (suc found)) is.flags_are

      may : FindsReady ring w limit found
      may = record {
        many = many;
        most = r.most;
        in_word = subst (λ f. ShareAWord f g h found) (sym is.flags_are) r.in_word;
        ready = λ k less.
            let high : h + k < h + size g = omega (arith, less, at_most) in
            sym (is.shadow.flags (h + k) (omega arith) high) ∙ says k (in_one_word g h found r.in_word k less) ∙ eq-eqb _ _ (r.ready k less);
        no_more = λ less share. elim (cases_lt found (size g)) [
          | inl inside ↦
              let high : h + found < h + size g = omega (arith, inside) in
              sym (is.shadow.flags (h + found) (omega arith) high) ∙ says found (in_one_word g h (suc found) (shared share) found (omega arith)) ∙ ne_eqb _ _ (r.no_more less (shared share))
          | inr whole ↦ false_from_ne_true (w.flipped (h + found)) (λ f.
              let below = i.flipped_below (h + found) f in let top = i.within in omega (arith, below, top, whole))
        ];
      }

  -- ---- advance

  pub advance : QueuesHaveAControl → IndexesArePlaceAndWrapBit → WrapBitsTurnByLap → XorAdvances → (raws : List Raw) → MayAdvance (trail_of Consumer run) raws
      → AreAfter ring ((Consumer, Advance raws) ∷ run) (turned words control_word (advance_mask (index_of g (head w)) (index_of g (head w + length raws))))
  advance queue indexes laps advances raws a = record {
    geometry_is = is.geometry_is;
    flags_are = is.flags_are;
    run_is = longer;
    shadow = record {
      many = length-set words control_word x ∙ is.shadow.many;
      control_is = is_stored words control_word x (subst (λ n. control_word < n) (sym is.shadow.many) (control_within g ring.senders)) ∙ word_is;
      flags = λ q low high. flags_stay g words control_word x q (control_not_flag g q) ∙ shows q (omega (arith, low, grown)) (omega (arith, high, grown));
      commands = λ q half item low written there.
          others_stay words control_word (data_word g q half) x (control_not_data g q half)
          ∙ is.shadow.commands q half item (omega (arith, low, grown)) written there;
      cells = λ u there. others_stay words control_word (cell g u) x (control_not_cell g u) ∙ is.shadow.cells u there;
    };
  }
    where
      h : ℕ
      h = head w

      k : ℕ
      k = length raws

      mask : ℕ
      mask = advance_mask (index_of g (head w)) (index_of g (head w + length raws))

      x : ℕ
      x = bit_xor (slice_index words control_word) mask

      longer : IsRun ring ((Consumer, Advance raws) ∷ run)
      longer = (is.run_is, a)

      grown : length (w.taken ++ map taken_as raws) ≡ head w + length raws
      grown = length-append w.taken (map taken_as raws) ∙ ap (λ n. head w + n) (length-map raws taken_as)

      word_is : x ≡ packed (control g (after w Consumer (Advance raws)))
      word_is =
          ap (λ (y : ℕ). bit_xor y mask) is.shadow.control_is
          ∙ advances g (control g w) (index_of g (head w + length raws)) (is_control queue ring is.geometry_is run is.run_is)
          (indexes g (head w + length raws) is.geometry_is).index
          ∙ ap (λ (n : ℕ). let c : Control = record { prod = index_of g (tail w); cons = index_of g n; closed = w.closed } in packed c) (sym grown)

      within : head w + length raws ≤ tail w
      within = let behind = (sound ring ((Consumer, Advance raws) ∷ run) longer).behind in omega (arith, behind, grown)

      shows : (q : ℕ) → head w + length raws ≤ q → q < head w + length raws + size g → says_flipped g words q ≡ w.flipped q
      shows q low high = elim (cases_lt q (head w + size g)) [
        | inl old ↦ is.shadow.flags q (omega (arith, low)) old
        | inr new ↦
            let o : ℕ = q - size g in
            let q_is : q ≡ o + size g = omega (arith, new) in
            let above : head w ≤ o = omega (arith, new) in
            let below : o < head w + length raws = omega (arith, high, new) in
            let top = i.within in
            let ready = a.ready in
            let o_is : o ≡ head w + (o - head w) = omega (arith, above) in
            let less : o - head w < found_ready (trail_of Consumer run) = omega (arith, above, below, ready) in
            let done : w.flipped o ≡ true = ap w.flipped o_is ∙ i.ready (o - head w) less in
            let says : says_flipped g words o ≡ true = is.shadow.flags o above (omega (arith, below, within, top)) ∙ done in
            let fresh : w.flipped q ≡ false = false_from_ne_true (w.flipped q) (λ f. let b = i.flipped_below q f in omega (arith, b, top, new)) in
            ap (says_flipped g words) q_is ∙ turned_lap o says ∙ sym fresh
      ]
        where
          turned_lap : (o : ℕ) → says_flipped g words o ≡ true → says_flipped g words (o + size g) ≡ false
          turned_lap o says =
              let lap = laps g o in
              let bit : ℕ = bit_at (slice_index words (flag_word g o)) (flag_bit g o) in
              let is_bit : bit ≡ polarity g o = eqb-true bit (polarity g o) says in
              ap (λ (n : ℕ). bit_at (slice_index words (8 + n / 64)) (n % 64) == polarity g (o + size g)) lap.place
              ∙ ne_eqb bit (polarity g (o + size g)) (λ e.
              let a : ℕ = wrap_bit g (o + size g) in let b : ℕ = wrap_bit g o in
              let turn : a + b ≡ 1 = lap.wrap_bit in let same : 1 - b ≡ 1 - a = sym is_bit ∙ e in omega (arith, turn, same))
