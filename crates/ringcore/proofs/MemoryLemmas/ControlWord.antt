-- The steps on the control word and on the cells, and those that store nothing.
use Rattle.std.proofs.Common.{◌≡◌, ◌≢◌, ℕ, ◌+◌, ◌-◌, ◌*◌, ◌/◌, ◌%◌, ◌<◌, Bool, false, ◌==◌, cond, List, ◌∷◌, Option, Some, sym, ap, ap₂, ◌∙◌, subst, inl, inr, eq-eqb, ne_eqb, arith, length-append, length-set}
use Rattle.std.proofs.Math.Nat.{mod-add-mod, zero-mod, div-eq_of_lt}
use Rattle.std.proofs.lemmas.Bool.{cases_eq}
use Rattle.std.proofs.lemmas.Nat.Bits.{bit_at-zero}
use Rattle.std.specs.Prelude.{slice_index, slice_set, bit_or}
use Rattle.std.specs.Int.{bit_at}
use Rattle.cmdcodec.specs.declared.raw.Raw.{Raw}
use Rattle.qindex.specs.declared.control.Control.{Control}
use Rattle.qindex.specs.Positions.{size, index_of}
use Rattle.qindex.specs.Indexes.{distance}
use Rattle.qindex.specs.ControlWord.{IsControlWord, packed, control_in, close_mask, closed}
use Rattle.qindex.specs.Laws.{QueuesHaveAControl, WordsSayTheirControl, IndexesTellTheQueue, OrCloses}
use Rattle.ringcore.specs.declared.world.event.Who.{Who}
use Rattle.ringcore.specs.declared.world.event.Who.TheVariants.{Consumer, Sender}
use Rattle.ringcore.specs.declared.world.event.Event.{Event}
use Rattle.ringcore.specs.declared.world.event.Event.TheVariants.{Look, Won, Lost, Close, Acknowledge, Ask}
use Rattle.ringcore.specs.world.Trails.{Run, trail_of, batch_length}
use Rattle.ringcore.specs.world.World.{World, items, tail, head, after, world, control}
use Rattle.ringcore.specs.world.Allowed.{Ring, Allowed, MayTry, MayWin, MayLose, IsNextNumber, MayAcknowledge, length_with}
use Rattle.ringcore.specs.memory.Layout.{control_word, flag_word, data_word, cell}
use Rattle.ringcore.specs.memory.Flags.{flag_bit, polarity}
use Rattle.ringcore.specs.memory.Shadow.{IsShadow, AreAfter}
use Rattle.ringcore.specs.memory.StepLaws.{OpensAllZero, with_reserved, StartsWhereItLooked}
use Rattle.ringcore.proofs.WorldLemmas.Lists.{off, get_shorter}
use Rattle.ringcore.proofs.WorldLemmas.Sound.{Sound, sound, length_items}
use Rattle.ringcore.proofs.WorldLemmas.Starts.{starts_there}
use Rattle.ringcore.proofs.WorldLemmas.LookedControls.{is_control, looked_is_control, one_control}
use Rattle.ringcore.proofs.MemoryLemmas.Places.{cell_high, control_not_flag, control_not_data, control_not_cell, flag_not_cell, data_not_cell, control_within, same_cell, others_stay, is_stored, flags_stay}

module _ (ring : Ring) (run : Run) (words : List ℕ) (is : AreAfter ring run words) where
  abbrev g : ℕ
  g = ring.geometry

  abbrev w : World
  w = world run

  i : Sound ring run
  i = sound ring run is.run_is

  -- an event that leaves the world as it was
  pub words_unmoved_by_others : (who : Who) (e : Event) → Allowed ring w (trail_of who run) who e → IsShadow ring words (after w who e) → AreAfter ring ((who, e) ∷ run) words
  words_unmoved_by_others who e a shadow = record { geometry_is = is.geometry_is; flags_are = is.flags_are; run_is = (is.run_is, a); shadow = shadow }

  same : IsShadow ring words w
  same = is.shadow

  pub found_is : WordsSayTheirControl → QueuesHaveAControl → control_in g (slice_index words control_word) ≡ control g w
  found_is said queue =
      ap (control_in g) is.shadow.control_is ∙ (said g (control g w) (is_control queue ring is.geometry_is run is.run_is)).says

  pub is_control_word : WordsSayTheirControl → QueuesHaveAControl → IsControlWord g (slice_index words control_word)
  is_control_word said queue =
      subst (IsControlWord g) (sym is.shadow.control_is) (said g (control g w) (is_control queue ring is.geometry_is run is.run_is)).is_control_word

  pub look : WordsSayTheirControl → QueuesHaveAControl → (who : Who) → AreAfter ring ((who, Look (control_in g (slice_index words control_word))) ∷ run) words
  look said queue Consumer = words_unmoved_by_others Consumer (Look (control_in g (slice_index words control_word))) (found_is said queue) same
  look said queue (Sender s) = words_unmoved_by_others (Sender s) (Look (control_in g (slice_index words control_word))) (found_is said queue) same

  pub ask : (s : ℕ) → s < ring.senders → AreAfter ring ((Sender s, Ask (slice_index words (cell g s))) ∷ run) words
  ask s there = words_unmoved_by_others (Sender s) (Ask (slice_index words (cell g s))) (is.shadow.cells s there) same

  pub start : StartsWhereItLooked ring run words
  start = starts_there ring run is.run_is

  -- ---- a store in the control word

  stored_control : (x : ℕ) → slice_index (slice_set words control_word x) control_word ≡ x
  stored_control x = is_stored words control_word x (subst (λ n. control_word < n) (sym is.shadow.many) (control_within g ring.senders))

  pub won : WordsSayTheirControl → QueuesHaveAControl → IndexesTellTheQueue → (s : ℕ) (body : List Raw) (number : Option ℕ) (before : Control)
      → MayTry ring (trail_of (Sender s) run) body (batch_length body number) before
      → IsNextNumber (trail_of (Sender s) run) number
      → slice_index words control_word ≡ packed before
      → AreAfter ring ((Sender s, Won body number) ∷ run) (slice_set words control_word (packed (with_reserved before (batch_length body number))))
  won said queue tells s body number before a next word =
      let k : ℕ = batch_length body number in
      let new : World = after w (Sender s) (Won body number) in
      let x : ℕ = packed (with_reserved before k) in
      let before_is : before ≡ control g w =
      one_control said g before (control g w) (looked_is_control queue ring is.geometry_is run is.run_is (Sender s) before a.looked_at)
      (is_control queue ring is.geometry_is run is.run_is) (sym word ∙ is.shadow.control_is) in
      let far : distance before.prod before.cons ≡ tail w - head w =
      ap (λ (c : Control). distance c.prod c.cons) before_is ∙ (tells g (tail w) (head w) is.geometry_is i.behind i.within).distance in
      let behind = i.behind in let room = a.room in
      let may : MayWin ring w (trail_of (Sender s) run) body number = record {
        looked_at = a.looked_at ∙ ap Some before_is;
        unclosed = sym (ap (λ (c : Control). c.closed) before_is) ∙ a.unclosed;
        settled = a.settled;
        left = a.left;
        body_is = a.body_is;
        next = next;
        room = omega (arith, behind, room, far);
      } in
      let grown : tail new ≡ tail w + k = length-append w.reserved (items s number body) ∙ ap (λ n. tail w + n) (length_items s number body) in
      let prod : (tail w % (2 * size g) + k) % (2 * size g) ≡ tail new % (2 * size g) =
      mod-add-mod (tail w) (2 * size g) k ∙ sym (ap (λ n. n % (2 * size g)) grown) in
      let word_is : x ≡ packed (control g new) =
      ap (λ (c : Control). packed (with_reserved c k)) before_is
      ∙ ap (λ (n : ℕ). let c : Control = record { prod = record { geometry = g; number = n }; cons = index_of g (head w); closed = w.closed } in packed c) prod in
      record {
        geometry_is = is.geometry_is;
        flags_are = is.flags_are;
        run_is = (is.run_is, may);
        shadow = record {
          many = length-set words control_word x ∙ is.shadow.many;
          control_is = stored_control x ∙ word_is;
          flags = λ p low high. flags_stay g words control_word x p (control_not_flag g p) ∙ is.shadow.flags p low high;
          commands = λ p half item low written there.
              let below = i.written_below p half written in
              others_stay words control_word (data_word g p half) x (control_not_data g p half)
              ∙ is.shadow.commands p half item low written (sym (get_shorter w.reserved (items s number body) p below) ∙ there);
          cells = λ u there. others_stay words control_word (cell g u) x (control_not_cell g u) ∙ is.shadow.cells u there;
        };
      }

  pub lost : WordsSayTheirControl → QueuesHaveAControl → (s : ℕ) (body : List Raw) (closes : Bool) (before : Control)
      → MayTry ring (trail_of (Sender s) run) body (length_with closes body) before
      → slice_index words control_word ≢ packed before
      → AreAfter ring ((Sender s, Lost body closes (control_in g (slice_index words control_word))) ∷ run) words
  lost said queue s body closes before a other =
      let found = control_in g (slice_index words control_word) in
      let may : MayLose ring w (trail_of (Sender s) run) body closes found = record {
        before = before;
        tries = a;
        found_is = found_is said queue;
        other = λ e. other (is.shadow.control_is ∙ ap packed (sym (found_is said queue) ∙ e));
      } in words_unmoved_by_others (Sender s) (Lost body closes found) may same

  pub close : QueuesHaveAControl → OrCloses → (s : ℕ)
      → AreAfter ring ((Sender s, Close) ∷ run) (slice_set words control_word (bit_or (slice_index words control_word) close_mask))
  close queue closes s =
      let x : ℕ = bit_or (slice_index words control_word) close_mask in
      let word_is : x ≡ packed (closed (control g w)) =
      ap (λ (y : ℕ). bit_or y close_mask) is.shadow.control_is ∙ closes g (control g w) (is_control queue ring is.geometry_is run is.run_is) in
      record {
        geometry_is = is.geometry_is;
        flags_are = is.flags_are;
        run_is = (is.run_is, tt);
        shadow = record {
          many = length-set words control_word x ∙ is.shadow.many;
          control_is = stored_control x ∙ word_is;
          flags = λ p low high. flags_stay g words control_word x p (control_not_flag g p) ∙ is.shadow.flags p low high;
          commands = λ p half item low written there.
              others_stay words control_word (data_word g p half) x (control_not_data g p half) ∙ is.shadow.commands p half item low written there;
          cells = λ u there. others_stay words control_word (cell g u) x (control_not_cell g u) ∙ is.shadow.cells u there;
        };
      }

  -- ---- a store in a cell

  pub acknowledge : (s number : ℕ) → MayAcknowledge w s number → AreAfter ring ((Consumer, Acknowledge s number) ∷ run) (slice_set words (cell g s) number)
  acknowledge s number a = record {
    geometry_is = is.geometry_is;
    flags_are = is.flags_are;
    run_is = (is.run_is, a);
    shadow = record {
      many = length-set words (cell g s) number ∙ is.shadow.many;
      control_is = others_stay words (cell g s) control_word number (λ e. control_not_cell g s (sym e)) ∙ is.shadow.control_is;
      flags = λ p low high. flags_stay g words (cell g s) number p (flag_not_cell g p s) ∙ is.shadow.flags p low high;
      commands = λ p half item low written there.
          others_stay words (cell g s) (data_word g p half) number (data_not_cell g p s half) ∙ is.shadow.commands p half item low written there;
      cells = λ u there. elim (cases_eq u s) [
        | inl one ↦
            ap (λ (t : ℕ). slice_index (slice_set words (cell g s) number) (cell g t)) one
            ∙ is_stored words (cell g s) number (subst (λ n. cell g s < n) (sym is.shadow.many) (cell_high g s ring.senders (subst (λ t. t < ring.senders) one there)))
            ∙ sym (ap (λ (v : Bool). cond v number (w.acknowledged u)) (eq-eqb u s one))
        | inr two ↦
            others_stay words (cell g s) (cell g u) number (λ e. two (same_cell g u s e)) ∙ is.shadow.cells u there
            ∙ sym (ap (λ (v : Bool). cond v number (w.acknowledged u)) (ne_eqb u s two))
      ];
    };
  }

-- ---- before the first event

pub opens : OpensAllZero
opens ring words geometry_is flags_are many zeros = record {
  geometry_is = geometry_is;
  flags_are = flags_are;
  run_is = tt;
  shadow = record {
    many = many;
    control_is = zeros control_word ∙ sym (ap (λ (n : ℕ). let c : Control = record { prod = record { geometry = ring.geometry; number = n }; cons = record { geometry = ring.geometry; number = n }; closed = false } in packed c) (zero-mod (2 * size ring.geometry)));
    flags = λ p low high.
        ap (λ (y : ℕ). bit_at y (flag_bit ring.geometry p) == polarity ring.geometry p) (zeros (flag_word ring.geometry p))
        ∙ ap₂ (λ (a b : ℕ). a == b) (bit_at-zero (flag_bit ring.geometry p)) (even ring.geometry p high);
    commands = λ p half item low written there. off written;
    cells = λ s there. zeros (cell ring.geometry s);
  };
}
  where
    even : (g p : ℕ) → p < 0 + size g → polarity g p ≡ 1
    even g p high = let below : p < size g = omega (arith, high) in let first : p / size g ≡ 0 = div-eq_of_lt below in ap (λ (n : ℕ). 1 - n % 2) first
