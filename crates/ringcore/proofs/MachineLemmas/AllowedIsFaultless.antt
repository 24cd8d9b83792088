-- An allowed event is taken by the step that names it.
use Rattle.std.proofs.Common.{◌≡◌, ◌≢◌, ℕ, zero, suc, ◌+◌, ◌-◌, ◌/◌, ◌%◌, ◌<◌, ◌≤◌, Bool, true, false, not, ◌==◌, ◌||◌, ◌&&◌, cond, List, [], ◌∷◌, length, map, take, drop, Option, Some, None, refl, sym, ap, ap₂, ◌∙◌, subst, inl, inr, eqb-true, eq-eqb, arith}
use Rattle.std.proofs.lemmas.Bool.{cases_lt, le-leb, lt-leb, lt-ltb}
use Rattle.std.proofs.lemmas.Option.{same_Some}
use Rattle.std.proofs.Math.Nat.{mod-eq_of_lt}
use Rattle.std.specs.Prelude.{slice_get, nat_lt, is_some, if◌then◌else◌}
use Rattle.std.specs.List.{list_any}
use Rattle.cmdcodec.specs.declared.raw.Raw.{Raw}
use Rattle.cmdcodec.specs.Bodies.{IsBody}
use Rattle.cmdcodec.specs.Opcodes.{is_sync}
use Rattle.qindex.specs.declared.control.Control.{Control}
use Rattle.qindex.specs.Positions.{size, place}
use Rattle.qindex.specs.Indexes.{IsGeometry, distance}
use Rattle.qindex.specs.ControlWord.{packed}
use Rattle.qindex.specs.Laws.{QueuesHaveAControl, WordsSayTheirControl, IndexesTellTheQueue}
use Rattle.ringcore.specs.declared.world.event.Who.{Who}
use Rattle.ringcore.specs.declared.world.event.Who.TheVariants.{Consumer, Sender}
use Rattle.ringcore.specs.declared.world.event.Half.{Half}
use Rattle.ringcore.specs.declared.world.event.Half.TheVariants.{Lo, Hi}
use Rattle.ringcore.specs.declared.world.event.Event.{Event}
use Rattle.ringcore.specs.declared.world.event.Event.TheVariants as event
use Rattle.ringcore.specs.declared.machine.step_fault.StepFault.{StepFault}
use Rattle.ringcore.specs.declared.machine.step_fault.StepFault.TheVariants.{Flipped, HalfMissing, NotSeenReady, NotTheHead, NotNext, NoRoom, NotSettled, BadBody}
use Rattle.ringcore.specs.world.Trails.{Trail, Run, same, trail_of, looked, batches_made, batch_length, reserved_length, has_written, has_flipped, IsSettled, found_ready, half_read}
use Rattle.ringcore.specs.world.World.{Item, World, sync_raw, tail, head, world, control}
use Rattle.ringcore.specs.world.Allowed.{Ring, ShareAWord, IsNextNumber, MayTry, MayWin, MayLose, length_with, MayWrite, MayFlip, FindsReady, MayRead, MayAdvance, MayAcknowledge, Allowed, IsRun}
use Rattle.ringcore.specs.memory.Flags.{flag_bit, shared_word}
use Rattle.ringcore.specs.machine.Open.{some_below, all_below, first_below, is_open, own_offset}
use Rattle.ringcore.specs.machine.Faults.{is_run_length, share_a_word, is_body, has_room, reserve_fault, flip_at, write_at, tested_offset, advance_fault, is_sync_of, acknowledge_fault, unless_missing, is_head}
use Rattle.ringcore.specs.machine.StepAnswers.{half_of_number, is_same_word, next_number, in_a_row, ready_count, half_in, half_at, next_commands, offset_or_0}
use Rattle.arrayvec.specs.ArrayVec.{ArrayVec}
use Rattle.ringcore.specs.declared.machine.step.Step.{Step}
use Rattle.ringcore.specs.declared.machine.step.Step.TheVariants.{Reserve, Write, Flip, Test, Read, Advance}
use Rattle.ringcore.specs.world.Laws.{OnlyOf, IsOne}
use Rattle.ringcore.specs.machine.NamedSteps.{number_of_half, AsksFor, IsTakenAs, AllowedAreTaken}
use Rattle.ringcore.proofs.WorldLemmas.LookedControls.{is_control, looked_is_control, one_control}
use Rattle.ringcore.specs.world.Delivery.{batches}
use Rattle.ringcore.proofs.WorldLemmas.Lists.{off, get_behind}
use Rattle.ringcore.proofs.WorldLemmas.Owners.{have_owners}
use Rattle.ringcore.proofs.WorldLemmas.Syncs.{batch_of_sync, sync_opcode}
use Rattle.ringcore.proofs.WorldLemmas.Reading.{is_read}
use Rattle.ringcore.proofs.WorldLemmas.Numbering.{is_kept}
use Rattle.ringcore.proofs.WorldLemmas.Slots.{get_there}
use Rattle.ringcore.proofs.WorldLemmas.Sound.{Sound, sound}
use Rattle.ringcore.proofs.MemoryLemmas.Places.{place-lt}
use Rattle.ringcore.proofs.MemoryLemmas.FlagPlaces.{further_place, next_place, shares_no_more}
use Rattle.ringcore.proofs.MachineLemmas.SomeAndAllBelow.{some_there, first_is}
use Rattle.ringcore.proofs.MachineLemmas.ReadSteps.{found_few, found_fits}

-- ---- tests below a number

none_is : (n : ℕ) (f : ℕ → Bool) → ((k : ℕ) → k < n → f k ≡ false) → some_below n f ≡ false
none_is zero f each = refl
none_is (suc n) f each = ap₂ (λ a b. a || b) (each n (omega arith)) (none_is n f (λ k less. each k (omega (arith, less))))

all_are : (n : ℕ) (f : ℕ → Bool) → ((k : ℕ) → k < n → f k ≡ true) → all_below n f ≡ true
all_are zero f each = refl
all_are (suc n) f each = ap₂ (λ a b. a && b) (each n (omega arith)) (all_are n f (λ k less. each k (omega (arith, less))))

streak_is : (f : ℕ → Bool) (limit found : ℕ) → found ≤ limit → ((i : ℕ) → i < found → f i ≡ true) → (found < limit → f found ≡ false) → in_a_row f limit ≡ found
streak_is f zero found most all stop = omega (arith, most)
streak_is f (suc limit) zero most all stop = ap (λ (v : Bool). if v then suc (in_a_row (λ k. f (suc k)) limit) else 0) (stop (omega arith))
streak_is f (suc limit) (suc found) most all stop =
    ap (λ (v : Bool). if v then suc (in_a_row (λ k. f (suc k)) limit) else 0) (all 0 (omega arith))
    ∙ ap suc (streak_is (λ k. f (suc k)) limit found (omega (arith, most)) (λ i less. all (suc i) (omega (arith, less))) (λ less. stop (omega (arith, less))))

not_same : (a b : ℕ) → a ≢ b → (a == b) ≡ false
not_same a b other = by_value (a == b) refl
  where
    by_value : (v : Bool) → (a == b) ≡ v → v ≡ false
    by_value true is = absurd (other (eqb-true a b is))
    by_value false is = refl

-- ---- places

-- Two positions less than a lap apart have different places.
places_differ : (g p j : ℕ) → 0 < j → j < size g → place g (p + j) ≢ place g p
places_differ g p j some few is =
    let n : ℕ = size g in
    let r : ℕ = place g p in
    let low : r < n = place-lt g p in
    elim (cases_lt (r + j) n) [
      | inl inside ↦ let there : place g (p + j) ≡ r + j = further_place g p j inside in omega (arith, there, is, some)
      | inr over ↦ let there : place g (p + j) ≡ r + j - n = next_place g p j over (omega (arith, low, few)) in omega (arith, there, is, few, over)
    ]

-- So the first of some positions from a start on with this one's place is this one.
place_found : (g start offset many : ℕ) → offset < many → many ≤ size g → first_below many (λ k. place g (start + k) == place g (start + offset)) ≡ Some offset
place_found g start offset many inside fits =
    first_is (λ k. place g (start + k) == place g (start + offset)) offset
    (λ k before. not_same (place g (start + k)) (place g (start + offset))
    (λ is. let apart : start + k + (offset - k) ≡ start + offset = omega (arith, before) in
    places_differ g (start + k) (offset - k) (omega (arith, before)) (omega (arith, inside, fits)) (ap (place g) apart ∙ sym is)))
    (eq-eqb (place g (start + offset)) (place g (start + offset)) refl) many inside

-- ---- reservations

no_longer : (ring : Ring) (run : Run) (who : Who) (e : Event) (s : ℕ) → Sound ring run → Allowed ring (world run) (trail_of who run) who e
    → reserved_length (trail_of (Sender s) run) ≤ size ring.geometry → reserved_length (e ∷ trail_of (Sender s) run) ≤ size ring.geometry
no_longer ring run who (event.Look found) s i a le = le
no_longer ring run Consumer (event.Won body number) s i a le = absurd a
no_longer ring run (Sender t) (event.Won body number) s i a le = let room = a.room in let behind = i.behind in omega (arith, room, behind)
no_longer ring run who (event.Lost body closes found) s i a le = le
no_longer ring run who (event.Write offset half) s i a le = le
no_longer ring run who (event.Flip offset count) s i a le = le
no_longer ring run who (event.Test limit found) s i a le = le
no_longer ring run who (event.Read offset half word) s i a le = le
no_longer ring run who (event.Advance raws) s i a le = le
no_longer ring run who event.Close s i a le = le
no_longer ring run who (event.Acknowledge sender number) s i a le = le
no_longer ring run who (event.Ask found) s i a le = le

length_fits : (ring : Ring) (run : Run) → IsRun ring run → (s : ℕ) → reserved_length (trail_of (Sender s) run) ≤ size ring.geometry
length_fits ring [] ok s = omega arith
length_fits ring (x ∷ xs) ok s = by_seat (same (Sender s) x.0) (length_fits ring xs ok.0 s)
  where
    by_seat : (v : Bool) → reserved_length (trail_of (Sender s) xs) ≤ size ring.geometry → reserved_length (cond v (x.1 ∷ trail_of (Sender s) xs) (trail_of (Sender s) xs)) ≤ size ring.geometry
    by_seat true before = no_longer ring xs x.0 x.1 s (sound ring xs ok.0) ok.1 before
    by_seat false before = before

module _ (ring : Ring) (run : Run) (ok : IsRun ring run) where
  abbrev g : ℕ
  g = ring.geometry

  abbrev w : World
  w = world run

  i : Sound ring run
  i = sound ring run ok

  -- ---- reserve

  pub is_settled : (mine : Trail) → IsSettled mine → is_open mine ≡ false
  is_settled mine settled = none_is (reserved_length mine) (λ offset. not (has_flipped offset mine)) (λ k less. ap not (settled k less))

  body_is : (body : List Raw) → IsBody body → is_body body ≡ true
  body_is body is =
      ap₂ (λ (a b : Bool). a && b)
      (ap₂ (λ (a b : Bool). a && b) (le-leb 1 (length body) is.some) (le-leb (length body) 63 is.few))
      (ap not (is_false (list_any is_sync body) is.no_sync))
    where
      is_false : (v : Bool) → v ≡ false → v ≡ false
      is_false v e = e

  tried : (mine : Trail) (body : List Raw) (closes : Bool) (before : Control) → MayTry ring mine body (length_with closes body) before → reserve_fault ring mine body closes ≡ None
  tried mine body closes before may =
      ap₂ (λ (a b : Bool). if a then Some NotSettled else if not b then Some BadBody else if has_room ring (looked mine) (length_with closes body) then None else Some NoRoom)
      (ap₂ (λ (a b : Bool). a || b) (is_settled mine may.settled) (lt-leb ring.max_batches (batches_made mine) may.left)) (body_is body may.body_is)
      ∙ ap (λ (v : Bool). if v then None else Some NoRoom)
      (ap (λ (c : Option Control). has_room ring c (length_with closes body)) may.looked_at
      ∙ ap₂ (λ (a b : Bool). not a && b) may.unclosed (le-leb (distance before.prod before.cons + length_with closes body) (size g) may.room))

  -- ---- write and flip

  module _ (s offset : ℕ) (inside : offset < reserved_length (trail_of (Sender s) run)) (unflipped : has_flipped offset (trail_of (Sender s) run) ≡ false) where
    open_now : is_open (trail_of (Sender s) run) ≡ true
    open_now = some_there (λ k. not (has_flipped k (trail_of (Sender s) run))) offset (ap not unflipped) (reserved_length (trail_of (Sender s) run)) inside

    pub own_is : own_offset ring run s (place g (w.start s + offset)) ≡ Some offset
    own_is =
        ap (λ (v : Bool). if v then first_below (reserved_length (trail_of (Sender s) run)) (λ k. place g (w.start s + k) == place g (w.start s + offset)) else None) open_now
        ∙ place_found g (w.start s) offset (reserved_length (trail_of (Sender s) run)) inside (length_fits ring run ok s)

  pub write_free : (s offset : ℕ) → MayWrite (trail_of (Sender s) run) offset → write_at ring run s (place g (w.start s + offset)) (Some offset) ≡ None
  write_free s offset may = ap (λ (v : Bool). if v then Some Flipped else None) may.unflipped

  module _ (s offset count : ℕ) (may : MayFlip ring (trail_of (Sender s) run) (w.start s) offset count) where
    abbrev mine : Trail
    mine = trail_of (Sender s) run

    pub flip_inside : offset < reserved_length mine
    flip_inside = let some = may.many.0 in let inside = may.inside in omega (arith, some, inside)

    pub flip_first : has_flipped offset mine ≡ false
    flip_first = let some = may.many.0 in ap (λ (k : ℕ). has_flipped k mine) (let e : offset ≡ offset + 0 = omega arith in e) ∙ may.unflipped 0 (omega (arith, some))

    pub flip_free : flip_at ring run s (place g (w.start s + offset)) count (Some offset) ≡ None
    flip_free =
        by_tests (nat_lt (reserved_length mine) (offset + count)) (lt-leb (suc (reserved_length mine)) (offset + count) (let inside = may.inside in omega (arith, inside)))
        (some_below count (λ k. has_flipped (offset + k) mine)) (none_is count (λ k. has_flipped (offset + k) mine) may.unflipped)
        (all_below count (λ k. has_written (offset + k) Lo mine && has_written (offset + k) Hi mine))
        (all_are count (λ k. has_written (offset + k) Lo mine && has_written (offset + k) Hi mine) (λ k less. ap₂ (λ (a b : Bool). a && b) (may.written k Lo less) (may.written k Hi less))) _
      where
        by_tests : (a : Bool) → a ≡ false → (b : Bool) → b ≡ false → (c : Bool) → c ≡ true → (far : Option StepFault)
            → (if a then far else if b then Some Flipped else if c then None else Some HalfMissing) ≡ None
        by_tests true e b f c h far = off (sym e)
        by_tests false e true f c h far = off (sym f)
        by_tests false e false f true h far = refl
        by_tests false e false f false h far = off h

    pub flip_shares : ring.flags ≡ 64 → share_a_word ring (place g (w.start s + offset)) count ≡ true
    flip_shares flags = le-leb count (shared_word g slot) (elim (cases_lt 64 (size g)) [
      | inl large ↦
          let bit : flag_bit g p + count ≤ 64 = shares_no_more g p count large (subst (λ f. ShareAWord f g p count) flags may.in_word) in
          let word : shared_word g slot ≡ 64 - place g slot % 64 = ap (λ (v : Bool). cond v (size g) (64 - place g slot % 64)) (lt-leb (size g) 64 large) in
          let whole : place g slot ≡ slot = mod-eq_of_lt (place-lt g p) in
          let same_bit : flag_bit g p ≡ place g slot % 64 = ap (λ (n : ℕ). n % 64) (sym whole) in
          omega (arith, bit, word, same_bit)
      | inr tiny ↦
          let word : shared_word g slot ≡ size g = ap (λ (v : Bool). cond v (size g) (64 - place g slot % 64)) (le-leb (size g) 64 tiny) in
          let inside = may.inside in
          let fits = length_fits ring run ok s in
          omega (arith, word, inside, fits)
    ])
      where
        p : ℕ
        p = w.start s + offset

        slot : ℕ
        slot = place g p

  -- ---- test, read and advance

  pub ready_is : (limit found : ℕ) → ring.flags ≡ 64 → FindsReady ring w limit found → ready_count ring w limit ≡ found
  ready_is limit found flags is =
      streak_is (λ k. w.flipped (head w + k) && here k) limit found is.most
      (λ k less. ap₂ (λ (a b : Bool). a && b) (is.ready k less) (eq-eqb (place g (head w + k) / 64) (place g (head w) / 64) (shares k less)))
      (λ less. by_word (here found) refl less)
    where
      here : ℕ → Bool
      here k = place g (head w + k) / 64 == place g (head w) / 64

      shares : ShareAWord 64 g (head w) found
      shares = subst (λ f. ShareAWord f g (head w) found) flags is.in_word

      further : here found ≡ true → ShareAWord 64 g (head w) (suc found)
      further e k less = elim (cases_lt k found) [
        | inl before ↦ shares k before
        | inr last ↦ let at : k ≡ found = omega (arith, less, last) in ap (λ (n : ℕ). place g (head w + n) / 64) at ∙ eqb-true (place g (head w + found) / 64) (place g (head w) / 64) e
      ]

      and_false : (a : Bool) → (a && false) ≡ false
      and_false true = refl
      and_false false = refl

      by_word : (v : Bool) → here found ≡ v → found < limit → (w.flipped (head w + found) && here found) ≡ false
      by_word true e less = ap (λ (b : Bool). b && here found) (is.no_more less (subst (λ f. ShareAWord f g (head w) (suc found)) (sym flags) (further e)))
      by_word false e less = ap (λ (b : Bool). w.flipped (head w + found) && b) e ∙ and_false (w.flipped (head w + found))

  pub tested_is : (offset : ℕ) → offset < found_ready (trail_of Consumer run) → tested_offset ring run (place g (head w + offset)) ≡ Some offset
  tested_is offset ready =
      place_found g (head w) offset (found_ready (trail_of Consumer run)) ready (found_fits ring run ok (found_ready (trail_of Consumer run)) (omega arith))

  pub counted : (count : ℕ) → 1 ≤ count → count ≤ 64 → is_run_length count ≡ true
  counted count some few = ap₂ (λ (a b : Bool). a && b) (le-leb 1 count some) (le-leb count 64 few)

  module _ (raws : List Raw) (may : MayAdvance (trail_of Consumer run) raws) where
    abbrev took : Trail
    took = trail_of Consumer run

    pub advance_few : length raws ≤ 64
    advance_few = let ready = may.ready in let few = found_few ring run ok in omega (arith, ready, few)

    pub advance_free : advance_fault took (length raws) ≡ None
    advance_free =
        by_tests (nat_lt (found_ready took) (length raws)) (lt-leb (suc (found_ready took)) (length raws) (let ready = may.ready in omega (arith, ready)))
        (all_below (length raws) (λ k. is_some (half_read k Lo took) && is_some (half_read k Hi took)))
        (all_are (length raws) (λ k. is_some (half_read k Lo took) && is_some (half_read k Hi took)) (λ k less.
        let there = get_there raws k less in
        ap₂ (λ (a b : Bool). a && b) (ap is_some (may.read k there.0 Lo there.1)) (ap is_some (may.read k there.0 Hi there.1))))
      where
        by_tests : (a : Bool) → a ≡ false → (b : Bool) → b ≡ true → (if a then Some NotSeenReady else if b then None else Some HalfMissing) ≡ None
        by_tests true e b f = off (sym e)
        by_tests false e true f = refl
        by_tests false e false f = off f

    one_half : (a b : ℕ) → Some a ≡ Some b → a ≡ b
    one_half a b e = cc

    pub advance_is : next_commands w (length raws) ≡ raws
    advance_is = next_is w.reserved (head w) raws (λ j raw at.
        let lo = i.reading j Lo raw.lo (may.read j raw Lo at) in
        let hi = i.reading j Hi raw.hi (may.read j raw Hi at) in
        let one : lo.0 ≡ hi.0 = same_Some lo.0 hi.0 (sym lo.1 ∙ hi.1) in
        let low : raw.lo ≡ lo.0.raw.lo = lo.2 in
        let high : raw.hi ≡ lo.0.raw.hi = hi.2 ∙ sym (ap (λ (x : Item). x.raw.hi) one) in
        (lo.0, (lo.1, (λ q. record { lo = sym low q; hi = sym high q }))))
      where
        drop_at : (items : List Item) (h : ℕ) (item : Item) → slice_get items h ≡ Some item → drop h items ≡ item ∷ drop (suc h) items
        drop_at [] h item at = absurd (cc)
        drop_at (x ∷ items) zero item at = ap (λ (y : Item). y ∷ items) (same_Some x item at)
        drop_at (x ∷ items) (suc h) item at = drop_at items h item at

        next_is : (items : List Item) (h : ℕ) (rs : List Raw)
            → ((j : ℕ) (raw : Raw) → slice_get rs j ≡ Some raw → (item : Item) × ((slice_get items (h + j) ≡ Some item) × (item.raw ≡ raw)))
            → map (λ (item : Item). item.raw) (take (length rs) (drop h items)) ≡ rs
        next_is items h [] each = refl
        next_is items h (r ∷ rs) each =
            let first = each 0 r refl in
            let at : slice_get items h ≡ Some first.0 = ap (slice_get items) (let e : h ≡ h + 0 = omega arith in e) ∙ first.1.0 in
            ap (λ (l : List Item). map (λ (item : Item). item.raw) (take (suc (length rs)) l)) (drop_at items h first.0 at)
            ∙ ap₂ (λ (x : Raw) (l : List Raw). x ∷ l) first.1.1
            (next_is items (suc h) rs (λ j raw there. let next = each (suc j) raw there in (next.0, (ap (slice_get items) (let e : suc h + j ≡ h + suc j = omega arith in e) ∙ next.1.0, next.1.1))))

  -- ---- acknowledge

  pub acknowledge_free : (s number : ℕ) → MayAcknowledge w s number → is_sync (sync_raw s number) ≡ true → acknowledge_fault w s number ≡ None
  acknowledge_free s number may is =
      ap (λ (v : Bool). if v then None else Some NotNext)
      (ap₂ (λ (a b : Bool). a && b) (eq-eqb number (suc (w.acknowledged s)) may.next)
      (some_there (λ position. is_sync_of s number (slice_get w.reserved position)) may.taken.position
      (ap (is_sync_of s number) may.taken.there
      ∙ ap₂ (λ (a b : Bool). a && b) (ap₂ (λ (a b : Bool). a && b) (eq-eqb s s refl) (eq-eqb number number refl)) is)
      (head w) may.taken.below))

-- ---- all of them

module _ (said : WordsSayTheirControl) (queue : QueuesHaveAControl) (tells : IndexesTellTheQueue)
    (ring : Ring) (run : Run) (is_geometry : IsGeometry ring.geometry) (flags : ring.flags ≡ 64) (ok : IsRun ring run) where
  abbrev now : World
  now = world run

  abbrev here : Control
  here = control ring.geometry (world run)

  far : distance here.prod here.cons ≡ tail now - head now
  far = let i = sound ring run ok in (tells ring.geometry (tail now) (head now) is_geometry i.behind i.within).distance

  exists : (b : Bool) (fault : Option StepFault) → b ≡ true → fault ≡ None → unless_missing b fault ≡ None
  exists true fault is none = none
  exists false fault is none = off is

  half_low : (half : Half) → number_of_half half < 2
  half_low Lo = omega arith
  half_low Hi = omega arith

  half_back : (half : Half) → half_of_number (number_of_half half) ≡ half
  half_back Lo = refl
  half_back Hi = refl

  module _ (s : ℕ) (there : s < ring.senders) where
    abbrev its : Trail
    its = trail_of (Sender s) run

    seat : nat_lt s ring.senders ≡ true
    seat = lt-ltb s ring.senders there

    slot_there : (p half : ℕ) → half < 2 → (nat_lt s ring.senders && nat_lt (place ring.geometry p) (size ring.geometry) && nat_lt half 2) ≡ true
    slot_there p half low =
        ap₂ (λ (a b : Bool). a && b) (ap₂ (λ (a b : Bool). a && b) seat (lt-ltb (place ring.geometry p) (size ring.geometry) (place-lt ring.geometry p))) (lt-ltb half 2 low)

    won : (body : ArrayVec Raw) (number : Option ℕ) → MayWin ring now its body.items number → IsTakenAs ring run (Reserve s body (is_some number)) (Sender s) (event.Won body.items number)
    won body number may = record {
      no_fault = exists (nat_lt s ring.senders) (reserve_fault ring its body.items (is_some number)) seat
          (tried ring run ok its body.items (is_some number) here record {
            looked_at = may.looked_at;
            unclosed = may.unclosed;
            settled = may.settled;
            left = may.left;
            body_is = may.body_is;
            room =
                let room = may.room in let long = as_long number in let apart = far in let behind = (sound ring run ok).behind in
                omega (arith, room, long, apart, behind);
          });
      event_is =
          ap (λ (b : Bool). (Sender s, if b then event.Won body.items (next_number its (is_some number)) else event.Lost body.items (is_some number) here))
          (ap (λ (c : Option Control). is_same_word c here) may.looked_at ∙ eq-eqb (packed here) (packed here) refl)
          ∙ ap (λ (n : Option ℕ). (Sender s, event.Won body.items n)) (numbered number may.next);
    }
      where
        as_long : (n : Option ℕ) → length_with (is_some n) body.items ≡ batch_length body.items n
        as_long None = refl
        as_long (Some k) = refl

        numbered : (n : Option ℕ) → IsNextNumber its n → next_number its (is_some n) ≡ n
        numbered None next = refl
        numbered (Some k) next = ap Some (sym next)

    lost : (body : ArrayVec Raw) (closes : Bool) (found : Control) → MayLose ring now its body.items closes found
        → IsTakenAs ring run (Reserve s body closes) (Sender s) (event.Lost body.items closes found)
    lost body closes found may = record {
      no_fault = exists (nat_lt s ring.senders) (reserve_fault ring its body.items closes) seat (tried ring run ok its body.items closes may.before may.tries);
      event_is =
          ap (λ (b : Bool). (Sender s, if b then event.Won body.items (next_number its closes) else event.Lost body.items closes here))
          (ap (λ (c : Option Control). is_same_word c here) may.tries.looked_at
          ∙ not_same (packed may.before) (packed here) (λ same_word.
          may.other (may.found_is
          ∙ sym (one_control said ring.geometry may.before here (looked_is_control queue ring is_geometry run ok (Sender s) may.before may.tries.looked_at) (is_control queue ring is_geometry run ok) same_word))))
          ∙ ap (λ (c : Control). (Sender s, event.Lost body.items closes c)) (sym may.found_is);
    }

    write : (offset : ℕ) (half : Half) → MayWrite its offset
        → IsTakenAs ring run (Write s (place ring.geometry (now.start s + offset)) (number_of_half half)) (Sender s) (event.Write offset half)
    write offset half may = record {
      no_fault = exists _ _ (slot_there (now.start s + offset) (number_of_half half) (half_low half))
          (ap (write_at ring run s (place ring.geometry (now.start s + offset))) own ∙ write_free ring run ok s offset may);
      event_is = ap₂ (λ (o : Option ℕ) (h : Half). (Sender s, event.Write (offset_or_0 o) h)) own (half_back half);
    }
      where
        own : own_offset ring run s (place ring.geometry (now.start s + offset)) ≡ Some offset
        own = own_is ring run ok s offset may.inside may.unflipped

    flip : (offset count : ℕ) → MayFlip ring its (now.start s) offset count
        → IsTakenAs ring run (Flip s (place ring.geometry (now.start s + offset)) count) (Sender s) (event.Flip offset count)
    flip offset count may = record {
      no_fault = exists _ _
          (ap₂ (λ (a b : Bool). a && b)
          (ap₂ (λ (a b : Bool). a && b)
          (ap₂ (λ (a b : Bool). a && b) seat (lt-ltb (place ring.geometry (now.start s + offset)) (size ring.geometry) (place-lt ring.geometry (now.start s + offset))))
          (counted ring run ok count may.many.0 may.many.1))
          (flip_shares ring run ok s offset count may flags))
          (ap (flip_at ring run s (place ring.geometry (now.start s + offset)) count) own ∙ flip_free ring run ok s offset count may);
      event_is = ap (λ (o : Option ℕ). (Sender s, event.Flip (offset_or_0 o) count)) own;
    }
      where
        own : own_offset ring run s (place ring.geometry (now.start s + offset)) ≡ Some offset
        own = own_is ring run ok s offset (flip_inside ring run ok s offset count may) (flip_first ring run ok s offset count may)

  test : (limit found : ℕ) → FindsReady ring now limit found → IsTakenAs ring run (Test (place ring.geometry (head now)) limit) Consumer (event.Test limit found)
  test limit found may = record {
    no_fault = exists _ _
        (ap₂ (λ (a b : Bool). a && b) (lt-ltb (place ring.geometry (head now)) (size ring.geometry) (place-lt ring.geometry (head now))) (counted ring run ok limit may.many.0 may.many.1))
        (ap (λ (b : Bool). if b then None else Some NotTheHead) (eq-eqb (place ring.geometry (head now)) (place ring.geometry (head now)) refl));
    event_is = ap (λ (n : ℕ). (Consumer, event.Test limit n)) (ready_is ring run ok limit found flags may);
  }

  read : (offset : ℕ) (half : Half) (word : ℕ) → MayRead now (trail_of Consumer run) offset half word
      → IsTakenAs ring run (Read (place ring.geometry (head now + offset)) (number_of_half half)) Consumer (event.Read offset half word)
  read offset half word may = record {
    no_fault = exists _ _
        (ap₂ (λ (a b : Bool). a && b) (lt-ltb (place ring.geometry (head now + offset)) (size ring.geometry) (place-lt ring.geometry (head now + offset))) (lt-ltb (number_of_half half) 2 (half_low half)))
        (ap (λ (o : Option ℕ). if is_some o then None else if is_head ring run (place ring.geometry (head now + offset)) then Some NotSeenReady else Some NotTheHead) tested);
    event_is =
        ap₂ (λ (o : Option ℕ) (h : Half). (Consumer, event.Read (offset_or_0 o) h (half_at now (offset_or_0 o) h))) tested (half_back half)
        ∙ ap (λ (n : ℕ). (Consumer, event.Read offset half n)) (ap (half_in half) may.there ∙ sym may.found);
  }
    where
      tested : tested_offset ring run (place ring.geometry (head now + offset)) ≡ Some offset
      tested = tested_is ring run ok offset may.ready

  advance : (raws : List Raw) → MayAdvance (trail_of Consumer run) raws → IsTakenAs ring run (Advance (length raws)) Consumer (event.Advance raws)
  advance raws may = record {
    no_fault = exists _ _ (counted ring run ok (length raws) may.some (advance_few ring run ok raws may)) (advance_free ring run ok raws may);
    event_is = ap (λ (l : List Raw). (Consumer, event.Advance l)) (advance_is ring run ok raws may);
  }

  sender_there : OnlyOf ring.senders run → (s number : ℕ) → MayAcknowledge now s number → nat_lt s ring.senders ≡ true
  sender_there only s number may =
      let there = ap (λ l. slice_get l may.taken.position) (sym (is_read run).reserved) ∙ may.taken.there in
      let r = batch_of_sync (batches run) (is_kept ring run ok).bodies may.taken.position _ there (sync_opcode s number) in
      let at : slice_get (batches run) (length r.ahead + 0) ≡ Some r.batch = ap (λ l. slice_get l (length r.ahead + 0)) r.whole ∙ get_behind r.ahead (r.batch ∷ r.behind) 0 in
      lt-ltb s ring.senders (subst (λ (n : ℕ). n < ring.senders) (sym r.sender_is) (have_owners ring.senders run only (length r.ahead + 0) r.batch at))

  by_event : OnlyOf ring.senders run → (step : Step) (who : Who) (e : Event) → IsOne ring.senders who → Allowed ring now (trail_of who run) who e → AsksFor ring now step who e → IsTakenAs ring run step who e
  by_event only step Consumer (event.Look found) there may is =
      subst (λ (x : Step). IsTakenAs ring run x Consumer (event.Look found)) (sym is) (record { no_fault = refl; event_is = ap (λ (c : Control). (Consumer, event.Look c)) (sym may) })
  by_event only step Consumer (event.Test limit found) there may is = subst (λ (x : Step). IsTakenAs ring run x Consumer (event.Test limit found)) (sym is) (test limit found may)
  by_event only step Consumer (event.Read offset half word) there may is =
      subst (λ (x : Step). IsTakenAs ring run x Consumer (event.Read offset half word)) (sym is) (read offset half word may)
  by_event only step Consumer (event.Advance raws) there may is = subst (λ (x : Step). IsTakenAs ring run x Consumer (event.Advance raws)) (sym is) (advance raws may)
  by_event only step Consumer (event.Acknowledge sender number) there may is =
      subst (λ (x : Step). IsTakenAs ring run x Consumer (event.Acknowledge sender number)) (sym is) (record {
        no_fault = exists _ _ (sender_there only sender number may) (acknowledge_free ring run ok sender number may (sync_opcode sender number));
        event_is = refl;
      })
  by_event only step Consumer (event.Won commands number) there may is = absurd may
  by_event only step Consumer (event.Lost commands closes found) there may is = absurd may
  by_event only step Consumer (event.Write offset half) there may is = absurd may
  by_event only step Consumer (event.Flip offset count) there may is = absurd may
  by_event only step Consumer event.Close there may is = absurd may
  by_event only step Consumer (event.Ask found) there may is = absurd may
  by_event only step (Sender s) (event.Look found) there may is =
      subst (λ (x : Step). IsTakenAs ring run x (Sender s) (event.Look found)) (sym is)
      (record { no_fault = exists _ _ (seat s there) refl; event_is = ap (λ (c : Control). (Sender s, event.Look c)) (sym may) })
  by_event only step (Sender s) (event.Won commands number) there may (body, items, is) =
      subst (λ (x : Step). IsTakenAs ring run x (Sender s) (event.Won commands number)) (sym is)
      (subst (λ (l : List Raw). IsTakenAs ring run (Reserve s body (is_some number)) (Sender s) (event.Won l number)) items
      (won s there body number (subst (λ (l : List Raw). MayWin ring now (trail_of (Sender s) run) l number) (sym items) may)))
  by_event only step (Sender s) (event.Lost commands closes found) there may (body, items, is) =
      subst (λ (x : Step). IsTakenAs ring run x (Sender s) (event.Lost commands closes found)) (sym is)
      (subst (λ (l : List Raw). IsTakenAs ring run (Reserve s body closes) (Sender s) (event.Lost l closes found)) items
      (lost s there body closes found (subst (λ (l : List Raw). MayLose ring now (trail_of (Sender s) run) l closes found) (sym items) may)))
  by_event only step (Sender s) (event.Write offset half) there may is = subst (λ (x : Step). IsTakenAs ring run x (Sender s) (event.Write offset half)) (sym is) (write s there offset half may)
  by_event only step (Sender s) (event.Flip offset count) there may is = subst (λ (x : Step). IsTakenAs ring run x (Sender s) (event.Flip offset count)) (sym is) (flip s there offset count may)
  by_event only step (Sender s) event.Close there may is =
      subst (λ (x : Step). IsTakenAs ring run x (Sender s) event.Close) (sym is) (record { no_fault = exists _ _ (seat s there) refl; event_is = refl })
  by_event only step (Sender s) (event.Ask found) there may is =
      subst (λ (x : Step). IsTakenAs ring run x (Sender s) (event.Ask found)) (sym is)
      (record { no_fault = exists _ _ (seat s there) refl; event_is = ap (λ (n : ℕ). (Sender s, event.Ask n)) (sym may) })
  by_event only step (Sender s) (event.Test limit found) there may is = absurd may
  by_event only step (Sender s) (event.Read offset half word) there may is = absurd may
  by_event only step (Sender s) (event.Advance raws) there may is = absurd may
  by_event only step (Sender s) (event.Acknowledge sender number) there may is = absurd may

pub taken : WordsSayTheirControl → QueuesHaveAControl → IndexesTellTheQueue → AllowedAreTaken
taken said queue tells ring run step who e is_geometry flags only ok asks =
    by_event said queue tells ring run is_geometry flags ok.0 only.1 step who e only.0 ok.1 asks
