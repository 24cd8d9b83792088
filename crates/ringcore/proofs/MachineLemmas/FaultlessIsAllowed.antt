-- A step without a fault is an allowed event.
use Rattle.std.proofs.Common.{◌≡◌, ℕ, zero, suc, ◌+◌, ◌-◌, ◌/◌, ◌%◌, ◌<◌, ◌≤◌, Bool, true, false, not, ◌==◌, ◌||◌, ◌&&◌, cond, List, [], ◌∷◌, length, map, take, drop, Option, Some, None, refl, sym, ap, ap₂, ◌∙◌, subst, inl, inr, eqb-true, eq-eqb, leb-true, arith}
use Rattle.std.proofs.Math.Nat.{mod-lt, mod-eq_of_lt}
use Rattle.std.proofs.lemmas.Bool.{and_parts, or_parts, cases_lt, cases_eq, eqb-false, not-true, le-leb, lt-leb, lt-ltb}
use Rattle.std.proofs.lemmas.Option.{slice_get_within, same_Some}
use Rattle.std.specs.Prelude.{slice_get, nat_le, nat_lt, is_some, if◌then◌else◌}
use Rattle.std.specs.List.{list_any}
use Rattle.cmdcodec.specs.declared.raw.Raw.{Raw}
use Rattle.cmdcodec.specs.Bodies.{IsBody}
use Rattle.cmdcodec.specs.Opcodes.{is_sync}
use Rattle.qindex.specs.declared.control.Control.{Control}
use Rattle.qindex.specs.Positions.{size, place}
use Rattle.qindex.specs.Indexes.{IsGeometry, distance}
use Rattle.qindex.specs.ControlWord.{packed}
use Rattle.qindex.specs.Laws.{QueuesHaveAControl, WordsSayTheirControl, IndexesTellTheQueue}
use Rattle.ringcore.specs.declared.world.event.Who.TheVariants.{Consumer, Sender}
use Rattle.ringcore.specs.declared.world.event.Half.{Half}
use Rattle.ringcore.specs.declared.world.event.Half.TheVariants.{Lo, Hi}
use Rattle.ringcore.specs.declared.world.event.Event.TheVariants as event
use Rattle.ringcore.specs.declared.machine.step.Step.{Step}
use Rattle.ringcore.specs.declared.machine.step.Step.TheVariants.{Look, Reserve, Write, Flip, Test, Read, Advance, Close, Acknowledge, Ask}
use Rattle.ringcore.specs.declared.machine.step_fault.StepFault.{StepFault}
use Rattle.ringcore.specs.declared.machine.step_fault.StepFault.TheVariants.{Flipped, HalfMissing, NotSeenReady, NotTheHead, NotNext, NoRoom, NotSettled, BadBody}
use Rattle.ringcore.specs.world.Trails.{Trail, Run, trail_of, looked, batches_made, batch_length, reserved_length, has_written, has_flipped, IsSettled, found_ready, half_read}
use Rattle.ringcore.specs.world.World.{Item, World, sync_raw, tail, head, world, control, half_of}
use Rattle.ringcore.specs.world.Allowed.{Ring, ShareAWord, IsNextNumber, MayTry, MayWin, MayLose, length_with, MayWrite, MayFlip, FindsReady, MayRead, MayAdvance, SyncIsTaken, MayAcknowledge, Allowed, IsRun}
use Rattle.ringcore.specs.memory.Flags.{flag_bit, shared_word}
use Rattle.ringcore.specs.machine.Open.{some_below, all_below, first_below, is_open, own_offset}
use Rattle.ringcore.specs.machine.Faults.{is_run_length, share_a_word, is_body, has_room, reserve_fault, foreign, write_at, flip_at, tested_offset, read_fault, advance_fault, has_number, is_sync_of, sync_is_taken, acknowledge_fault, unless_missing, fault_of}
use Rattle.ringcore.specs.machine.StepAnswers.{offset_or_0, half_of_number, is_same_word, next_number, in_a_row, ready_count, half_in, half_at, next_commands, event_of, seen_of}
use Rattle.ringcore.specs.machine.Played.{unless_refused, with_answer, played_from, StepsAreAllowed, PlayedAreRuns}
use Rattle.ringcore.proofs.WorldLemmas.Lists.{off, none_some}
use Rattle.ringcore.proofs.WorldLemmas.Sound.{Sound, sound}
use Rattle.ringcore.proofs.WorldLemmas.Slots.{get_there}
use Rattle.ringcore.proofs.WorldLemmas.Syncs.{sync_at}
use Rattle.ringcore.proofs.WorldLemmas.LookedControls.{is_control, looked_is_control, one_control}
use Rattle.ringcore.proofs.MemoryLemmas.Places.{place-lt}
use Rattle.ringcore.proofs.MemoryLemmas.FlagPlaces.{small_shares, large_shares}

-- ---- tests below a number

none_below : (n : ℕ) (f : ℕ → Bool) → some_below n f ≡ false → (k : ℕ) → k < n → f k ≡ false
none_below zero f none k less = absurd (omega (arith, less))
none_below (suc n) f none k less =
    let both = or_parts (f n) (some_below n f) none in
    elim (cases_eq k n) [
      | inl is ↦ ap f is ∙ both.0
      | inr other ↦ none_below n f both.1 k (omega (arith, less, other))
    ]

each_below : (n : ℕ) (f : ℕ → Bool) → all_below n f ≡ true → (k : ℕ) → k < n → f k ≡ true
each_below zero f all k less = absurd (omega (arith, less))
each_below (suc n) f all k less =
    let both = and_parts (f n) (all_below n f) all in
    elim (cases_eq k n) [
      | inl is ↦ ap f is ∙ both.0
      | inr other ↦ each_below n f both.1 k (omega (arith, less, other))
    ]

one_below : (n : ℕ) (f : ℕ → Bool) → some_below n f ≡ true → (k : ℕ) × ((k < n) × (f k ≡ true))
one_below zero f some = off some
one_below (suc n) f some = by_last (one_below n f) (f n) refl some
  where
    by_last : (some_below n f ≡ true → (k : ℕ) × ((k < n) × (f k ≡ true))) → (v : Bool) → f n ≡ v → (v || some_below n f) ≡ true → (k : ℕ) × ((k < suc n) × (f k ≡ true))
    by_last rest true is some = (n, (omega arith, is))
    by_last rest false is some = let r = rest some in (r.0, (let l = r.1.0 in omega (arith, l), r.1.1))

pub first_is : (n : ℕ) (f : ℕ → Bool) (k : ℕ) → first_below n f ≡ Some k → (k < n) × (f k ≡ true)
first_is zero f k e = none_some k e
first_is (suc n) f k e = by_front (first_is n f k) (some_below n f) (f n) refl e
  where
    by_front : (first_below n f ≡ Some k → (k < n) × (f k ≡ true)) → (v last : Bool) → f n ≡ last
        → (if v then first_below n f else (if last then Some n else None)) ≡ Some k → (k < suc n) × (f k ≡ true)
    by_front rest true last is e = let r = rest e in (let l = r.0 in omega (arith, l), r.1)
    by_front rest false true is e = let one = same_Some n k e in (omega (arith, one), ap f (sym one) ∙ is)
    by_front rest false false is e = none_some k e

-- ---- faults that don't apply

pub exists : (v : Bool) (later : Option StepFault) → unless_missing v later ≡ None → (v ≡ true) × (later ≡ None)
exists true later e = (refl, e)
exists false later e = absurd (cc)

foreign_is_some : {X : Type 0} (held : Bool) → foreign held ≡ None → X
foreign_is_some true e = absurd (cc)
foreign_is_some false e = absurd (cc)

settled : (t : Trail) → is_open t ≡ false → IsSettled t
settled t closed k less = not_false (has_flipped k t) (none_below (reserved_length t) (λ offset. not (has_flipped offset t)) closed k less)
  where
    not_false : (v : Bool) → not v ≡ false → v ≡ true
    not_false true e = refl
    not_false false e = off (sym e)

body_is : (body : List Raw) → is_body body ≡ true → IsBody body
body_is body is =
    let a = and_parts (nat_le 1 (length body) && nat_le (length body) 63) (not (list_any is_sync body)) is in
    let b = and_parts (nat_le 1 (length body)) (nat_le (length body) 63) a.0 in record {
      some = leb-true 1 (length body) b.0;
      few = leb-true (length body) 63 b.1;
      no_sync = not-true (list_any is_sync body) a.1;
    }

pub length_is : (mine : Trail) (body : List Raw) (closes : Bool) → batch_length body (next_number mine closes) ≡ length_with closes body
length_is mine body true = refl
length_is mine body false = refl

number_is : (mine : Trail) (closes : Bool) → IsNextNumber mine (next_number mine closes)
number_is mine true = refl
number_is mine false = tt

abbrev NoFault : Ring → List Raw → Bool → Bool → Bool → Option Control → Type 0
NoFault ring body closes a b c =
    (if a then Some NotSettled else if not b then Some BadBody else if has_room ring c (length_with closes body) then None else Some NoRoom) ≡ None

may_try : (ring : Ring) (mine : Trail) (body : List Raw) (closes : Bool) → reserve_fault ring mine body closes ≡ None
    → (before : Control) × MayTry ring mine body (length_with closes body) before
may_try ring mine body closes none =
    by_tests (is_open mine || nat_le ring.max_batches (batches_made mine)) refl (is_body body) refl (looked mine) refl none
  where
    by_room : (v : Bool) → (if v then None else Some NoRoom) ≡ None → v ≡ true
    by_room true e = refl
    by_room false e = absurd (cc)

    by_tests : (a : Bool) → (is_open mine || nat_le ring.max_batches (batches_made mine)) ≡ a → (b : Bool) → is_body body ≡ b → (c : Option Control) → looked mine ≡ c
        → NoFault ring body closes a b c → (before : Control) × MayTry ring mine body (length_with closes body) before
    by_tests true a_is b b_is c c_is e = absurd (cc)
    by_tests false a_is false b_is c c_is e = absurd (cc)
    by_tests false a_is true b_is None c_is e = absurd (cc)
    by_tests false a_is true b_is (Some before) c_is e =
        let free = or_parts (is_open mine) (nat_le ring.max_batches (batches_made mine)) a_is in
        let room = and_parts (not before.closed) (nat_le (distance before.prod before.cons + length_with closes body) (size ring.geometry)) (by_room (has_room ring (Some before) (length_with closes body)) e) in (
          before,
          record {
            looked_at = c_is;
            unclosed = not-true before.closed room.0;
            settled = settled mine free.0;
            left = elim (cases_lt (batches_made mine) ring.max_batches) [
              | inl less ↦ less
              | inr le ↦ off (sym free.1 ∙ le-leb ring.max_batches (batches_made mine) le)
            ];
            body_is = body_is body b_is;
            room = leb-true (distance before.prod before.cons + length_with closes body) (size ring.geometry) room.1;
          },
        )

-- ---- flags that share a word

-- A position and its place have the same flag word and bit.
shares : (ring : Ring) (p slot count : ℕ) → place ring.geometry p ≡ slot → share_a_word ring slot count ≡ true → ring.flags ≡ 64 → ShareAWord ring.flags ring.geometry p count
shares ring p slot count at fits flags =
    let g : ℕ = ring.geometry in
    let below : count ≤ shared_word g slot = leb-true count (shared_word g slot) fits in
    subst (λ f. ShareAWord f g p count) (sym flags) (elim (cases_lt 64 (size g)) [
      | inl large ↦
          let bit : flag_bit g p ≡ slot % 64 = ap (λ (n : ℕ). n % 64) at in
          let word : shared_word g slot ≡ 64 - place g slot % 64 = ap (λ (v : Bool). cond v (size g) (64 - place g slot % 64)) (lt-leb (size g) 64 large) in
          let small : slot < size g = subst (λ n. n < size g) at (place-lt g p) in
          let whole : place g slot ≡ slot = mod-eq_of_lt small in
          let most : count ≤ 64 - slot % 64 = subst (λ n. count ≤ 64 - n % 64) whole (subst (λ n. count ≤ n) word below) in
          let r : ℕ = slot % 64 in let r-lt : r < 64 = mod-lt slot (let pos : 0 < 64 = omega arith in pos) in
          let most' : count ≤ 64 - r = most in
          large_shares g p count large (let b : flag_bit g p ≡ r = bit in omega (arith, b, most', r-lt))
      | inr tiny ↦ small_shares g p count tiny
    ])

-- ---- how many in a row

record IsStreak (f : ℕ → Bool) (limit found : ℕ) : Type 0 where
  most : found ≤ limit
  all : (i : ℕ) → i < found → f i ≡ true
  stop : found < limit → f found ≡ false

streak : (f : ℕ → Bool) (limit : ℕ) → IsStreak f limit (in_a_row f limit)
streak f zero = record { most = omega arith; all = λ i less. absurd (omega (arith, less)); stop = λ less. absurd (omega (arith, less)) }
streak f (suc limit) = by_first (streak (λ k. f (suc k)) limit) (f 0) refl
  where
    by_first : IsStreak (λ k. f (suc k)) limit (in_a_row (λ k. f (suc k)) limit) → (v : Bool) → f 0 ≡ v
        → IsStreak f (suc limit) (if v then suc (in_a_row (λ k. f (suc k)) limit) else 0)
    by_first rest true is = let le = rest.most in record {
      most = omega (arith, le);
      all = λ i less. here is rest i less;
      stop = λ less. rest.stop (omega (arith, less));
    }
      where
        here : f 0 ≡ true → IsStreak (λ k. f (suc k)) limit (in_a_row (λ k. f (suc k)) limit) → (i : ℕ) → i < suc (in_a_row (λ k. f (suc k)) limit) → f i ≡ true
        here is rest zero less = is
        here is rest (suc i) less = rest.all i (omega (arith, less))
    by_first rest false is = record { most = omega arith; all = λ i less. absurd (omega (arith, less)); stop = λ less. is }

-- ---- each kind

is_there : (v : Option ℕ) → is_some v ≡ true → (x : ℕ) × (v ≡ Some x)
is_there None e = off e
is_there (Some x) e = (x, refl)

module _ (ring : Ring) (run : Run) (ok : IsRun ring run) where
  abbrev g : ℕ
  g = ring.geometry

  abbrev w : World
  w = world run

  i : Sound ring run
  i = sound ring run ok

  reserve : WordsSayTheirControl → QueuesHaveAControl → IndexesTellTheQueue → IsGeometry ring.geometry → (s : ℕ) (body : List Raw) (closes : Bool)
      → reserve_fault ring (trail_of (Sender s) run) body closes ≡ None
      → Allowed ring w (trail_of (Sender s) run) (Sender s)
      (if is_same_word (looked (trail_of (Sender s) run)) (control g w) then event.Won body (next_number (trail_of (Sender s) run) closes) else event.Lost body closes (control g w))
  reserve said queue tells is_geometry s body closes none = by_word (packed before == packed (control g w)) refl
    where
      mine : Trail
      mine = trail_of (Sender s) run

      tried : (before : Control) × MayTry ring mine body (length_with closes body) before
      tried = may_try ring mine body closes none

      before : Control
      before = tried.0

      may : MayTry ring mine body (length_with closes body) before
      may = tried.1

      same : is_same_word (looked mine) (control g w) ≡ (packed before == packed (control g w))
      same = ap (λ c. is_same_word c (control g w)) may.looked_at

      win : packed before ≡ packed (control g w) → MayWin ring w mine body (next_number mine closes)
      win e =
          let one : before ≡ control g w =
          one_control said g before (control g w) (looked_is_control queue ring is_geometry run ok (Sender s) before may.looked_at) (is_control queue ring is_geometry run ok) e in
          let far : distance before.prod before.cons ≡ tail w - head w =
          ap (λ (c : Control). distance c.prod c.cons) one ∙ (tells g (tail w) (head w) is_geometry i.behind i.within).distance in
          let behind = i.behind in let room = may.room in let long = length_is mine body closes in record {
            looked_at = may.looked_at ∙ ap Some one;
            unclosed = sym (ap (λ (c : Control). c.closed) one) ∙ may.unclosed;
            settled = may.settled;
            left = may.left;
            body_is = may.body_is;
            next = number_is mine closes;
            room = omega (arith, behind, room, far, long);
          }

      by_word : (v : Bool) → (packed before == packed (control g w)) ≡ v
          → Allowed ring w mine (Sender s) (if is_same_word (looked mine) (control g w) then event.Won body (next_number mine closes) else event.Lost body closes (control g w))
      by_word true e =
          subst (λ (v : Bool). Allowed ring w mine (Sender s) (if v then event.Won body (next_number mine closes) else event.Lost body closes (control g w))) (sym (same ∙ e))
          (win (eqb-true (packed before) (packed (control g w)) e))
      by_word false e =
          let may_lose : MayLose ring w mine body closes (control g w) =
          record { before = before; tries = may; found_is = refl; other = λ is. eqb-false (packed before) (packed (control g w)) e (ap packed (sym is)) } in
          subst (λ (v : Bool). Allowed ring w mine (Sender s) (if v then event.Won body (next_number mine closes) else event.Lost body closes (control g w))) (sym (same ∙ e)) may_lose

  -- the offset of a slot that is its own
  own : (s slot k : ℕ) → own_offset ring run s slot ≡ Some k → (k < reserved_length (trail_of (Sender s) run)) × (place g (w.start s + k) ≡ slot)
  own s slot k e = by_open (is_open (trail_of (Sender s) run)) e
    where
      by_open : (v : Bool) → (if v then first_below (reserved_length (trail_of (Sender s) run)) (λ offset. place g (w.start s + offset) == slot) else None) ≡ Some k
          → (k < reserved_length (trail_of (Sender s) run)) × (place g (w.start s + k) ≡ slot)
      by_open true e =
          let r = first_is (reserved_length (trail_of (Sender s) run)) (λ offset. place g (w.start s + offset) == slot) k e in
          (r.0, eqb-true (place g (w.start s + k)) slot r.1)
      by_open false e = none_some k e

  write : (s slot : ℕ) → write_at ring run s slot (own_offset ring run s slot) ≡ None → MayWrite (trail_of (Sender s) run) (offset_or_0 (own_offset ring run s slot))
  write s slot none = by_offset (own_offset ring run s slot) refl none
    where
      unflipped : (v : Bool) → (if v then Some Flipped else None) ≡ None → v ≡ false
      unflipped true e = absurd (cc)
      unflipped false e = refl

      by_offset : (o : Option ℕ) → own_offset ring run s slot ≡ o → write_at ring run s slot o ≡ None → MayWrite (trail_of (Sender s) run) (offset_or_0 o)
      by_offset None is e = foreign_is_some _ e
      by_offset (Some k) is e = record { inside = (own s slot k is).0; unflipped = unflipped (has_flipped k (trail_of (Sender s) run)) e }

  flip : (s slot count : ℕ) → is_run_length count ≡ true → share_a_word ring slot count ≡ true → ring.flags ≡ 64
      → flip_at ring run s slot count (own_offset ring run s slot) ≡ None
      → MayFlip ring (trail_of (Sender s) run) (w.start s) (offset_or_0 (own_offset ring run s slot)) count
  flip s slot count counted share flags none = by_offset (own_offset ring run s slot) refl none
    where
      mine : Trail
      mine = trail_of (Sender s) run

      both : Bool → Bool
      both v = v

      pass : (a b c : Bool) (far : Option StepFault) → (far ≡ None → ⊥) → (if a then far else if b then Some Flipped else if c then None else Some HalfMissing) ≡ None
          → (a ≡ false) × ((b ≡ false) × (c ≡ true))
      pass true b c far some e = absurd (some e)
      pass false true c far some e = absurd (cc)
      pass false false true far some e = (refl, (refl, refl))
      pass false false false far some e = absurd (cc)

      each_half : (k : ℕ) → (has_written k Lo mine && has_written k Hi mine) ≡ true → (half : Half) → has_written k half mine ≡ true
      each_half k e Lo = (and_parts (has_written k Lo mine) (has_written k Hi mine) e).0
      each_half k e Hi = (and_parts (has_written k Lo mine) (has_written k Hi mine) e).1

      by_offset : (o : Option ℕ) → own_offset ring run s slot ≡ o → flip_at ring run s slot count o ≡ None → MayFlip ring mine (w.start s) (offset_or_0 o) count
      by_offset None is e = foreign_is_some _ e
      by_offset (Some k) is e =
          let at = own s slot k is in
          let p = pass (nat_lt (reserved_length mine) (k + count)) (some_below count (λ d. has_flipped (k + d) mine)) (all_below count (λ d. has_written (k + d) Lo mine && has_written (k + d) Hi mine)) _ (λ f. foreign_is_some _ f) e in
          let n = and_parts (nat_le 1 count) (nat_le count 64) counted in record {
            many = (leb-true 1 count n.0, leb-true count 64 n.1);
            inside = elim (cases_lt (reserved_length mine) (k + count)) [
              | inl over ↦ off (sym p.0 ∙ lt-ltb (reserved_length mine) (k + count) over)
              | inr le ↦ le
            ];
            in_word = shares ring (w.start s + k) slot count at.1 share flags;
            unflipped = λ d less. none_below count (λ d. has_flipped (k + d) mine) p.1.0 d less;
            written = λ d half less. each_half (k + d) (each_below count (λ d. has_written (k + d) Lo mine && has_written (k + d) Hi mine) p.1.1 d less) half;
          }

  test : (count : ℕ) → is_run_length count ≡ true → ring.flags ≡ 64 → FindsReady ring w count (ready_count ring w count)
  test count counted flags =
      let n = and_parts (nat_le 1 count) (nat_le count 64) counted in
      let f : ℕ → Bool = λ k. w.flipped (head w + k) && place g (head w + k) / 64 == place g (head w) / 64 in
      let s = streak f count in record {
        many = (leb-true 1 count n.0, leb-true count 64 n.1);
        most = s.most;
        in_word = subst (λ f. ShareAWord f g (head w) (ready_count ring w count)) (sym flags)
            (λ k less. eqb-true (place g (head w + k) / 64) (place g (head w) / 64) (and_parts (w.flipped (head w + k)) (place g (head w + k) / 64 == place g (head w) / 64) (s.all k less)).1);
        ready = λ k less. (and_parts (w.flipped (head w + k)) (place g (head w + k) / 64 == place g (head w) / 64) (s.all k less)).0;
        no_more = λ less share.
            let found : ℕ = ready_count ring w count in
            let shared : (place g (head w + found) / 64 == place g (head w) / 64) ≡ true = eq-eqb (place g (head w + found) / 64) (place g (head w) / 64) (subst (λ f. ShareAWord f g (head w) (suc found)) flags share found (omega arith)) in
            drop_true (w.flipped (head w + found)) (place g (head w + found) / 64 == place g (head w) / 64) shared (s.stop less);
      }
    where
      drop_true : (a b : Bool) → b ≡ true → (a && b) ≡ false → a ≡ false
      drop_true true b is e = off (sym e ∙ is)
      drop_true false b is e = refl

  -- ---- read and advance

  item_at : (k : ℕ) → k < found_ready (trail_of Consumer run) → (item : Item) × (slice_get w.reserved (head w + k) ≡ Some item)
  item_at k ready = get_there w.reserved (head w + k) (i.flipped_below (head w + k) (i.ready k ready))

  read : (slot : ℕ) (half : Half) → read_fault ring run slot ≡ None
      → MayRead w (trail_of Consumer run) (offset_or_0 (tested_offset ring run slot)) half (half_at w (offset_or_0 (tested_offset ring run slot)) half)
  read slot half none = by_offset (tested_offset ring run slot) refl none
    where
      by_offset : (o : Option ℕ) → tested_offset ring run slot ≡ o
          → (if is_some o then None else if place g (head w) == slot then Some NotSeenReady else Some NotTheHead) ≡ None
          → MayRead w (trail_of Consumer run) (offset_or_0 o) half (half_at w (offset_or_0 o) half)
      by_offset None is e = absurd (neither (place g (head w) == slot) e)
        where
          neither : (v : Bool) → (if v then Some NotSeenReady else Some NotTheHead) ≡ None → ⊥
          neither true e = cc
          neither false e = cc
      by_offset (Some k) is e =
          let r = first_is (found_ready (trail_of Consumer run)) (λ offset. place g (head w + offset) == slot) k is in
          let there = item_at k r.0 in record {
            ready = r.0;
            item = there.0;
            there = there.1;
            found = ap (half_in half) there.1;
          }

  -- the i-th of the commands that are taken next
  next_at : (items : List Item) (h count j : ℕ) (raw : Raw) → slice_get (map (λ (item : Item). item.raw) (take count (drop h items))) j ≡ Some raw
      → (item : Item) × ((slice_get items (h + j) ≡ Some item) × (item.raw ≡ raw))
  next_at items zero zero j raw at = none_some raw at
  next_at [] zero (suc count) j raw at = none_some raw at
  next_at (x ∷ items) zero (suc count) zero raw at = (x, (refl, same_Some x.raw raw at))
  next_at (x ∷ items) zero (suc count) (suc j) raw at =
      let r = next_at items zero count j raw at in (r.0, (ap (slice_get (x ∷ items)) (let z : 0 + suc j ≡ suc (0 + j) = omega arith in z) ∙ r.1.0, r.1.1))
  next_at [] (suc h) zero j raw at = none_some raw at
  next_at [] (suc h) (suc count) j raw at = none_some raw at
  next_at (x ∷ items) (suc h) count j raw at =
      let r = next_at items h count j raw at in (r.0, (ap (slice_get (x ∷ items)) (let z : suc h + j ≡ suc (h + j) = omega arith in z) ∙ r.1.0, r.1.1))

  pub as_many : (items : List Item) (h count : ℕ) → h + count ≤ length items → length (map (λ (item : Item). item.raw) (take count (drop h items))) ≡ count
  as_many items zero zero le = refl
  as_many [] zero (suc count) le = absurd (omega (arith, le))
  as_many (x ∷ items) zero (suc count) le = ap suc (as_many items zero count (omega (arith, le)))
  as_many [] (suc h) count le = absurd (omega (arith, le))
  as_many (x ∷ items) (suc h) count le = as_many items h count (omega (arith, le))

  advance : (count : ℕ) → is_run_length count ≡ true → advance_fault (trail_of Consumer run) count ≡ None → MayAdvance (trail_of Consumer run) (next_commands w count)
  advance count counted none = by_tests (nat_lt (found_ready mine) count) refl (all_below count halves) refl none
    where
      mine : Trail
      mine = trail_of Consumer run

      halves : ℕ → Bool
      halves k = is_some (half_read k Lo (trail_of Consumer run)) && is_some (half_read k Hi (trail_of Consumer run))

      each_half : (k : ℕ) → (is_some (half_read k Lo (trail_of Consumer run)) && is_some (half_read k Hi (trail_of Consumer run))) ≡ true → (half : Half)
          → (word : ℕ) × (half_read k half (trail_of Consumer run) ≡ Some word)
      each_half k e Lo = is_there (half_read k Lo (trail_of Consumer run)) (and_parts (is_some (half_read k Lo (trail_of Consumer run))) (is_some (half_read k Hi (trail_of Consumer run))) e).0
      each_half k e Hi = is_there (half_read k Hi (trail_of Consumer run)) (and_parts (is_some (half_read k Lo (trail_of Consumer run))) (is_some (half_read k Hi (trail_of Consumer run))) e).1

      by_tests : (a : Bool) → nat_lt (found_ready (trail_of Consumer run)) count ≡ a → (b : Bool) → all_below count halves ≡ b
          → (if a then Some NotSeenReady else if b then None else Some HalfMissing) ≡ None → MayAdvance (trail_of Consumer run) (next_commands w count)
      by_tests true a_is b b_is e = absurd (cc)
      by_tests false a_is false b_is e = absurd (cc)
      by_tests false a_is true b_is e =
          let n = and_parts (nat_le 1 count) (nat_le count 64) counted in
          let some : 1 ≤ count = leb-true 1 count n.0 in
          let ready : count ≤ found_ready (trail_of Consumer run) = elim (cases_lt (found_ready (trail_of Consumer run)) count) [
            | inl over ↦ off (sym a_is ∙ lt-ltb (found_ready (trail_of Consumer run)) count over)
            | inr le ↦ le
          ] in
          let last = i.flipped_below (head w + (count - 1)) (i.ready (count - 1) (omega (arith, some, ready))) in
          let long : length (next_commands w count) ≡ count = as_many w.reserved (head w) count (omega (arith, last, some)) in record {
            some = omega (arith, long, some);
            ready = omega (arith, long, ready);
            read = λ j raw half at.
                let less : j < count = (let l = slice_get_within (next_commands w count) j raw at in omega (arith, l, long)) in
                let word = each_half j (each_below count halves b_is j less) half in
                let its = i.reading j half word.0 word.1 in
                let next = next_at w.reserved (head w) count j raw at in
                let one : its.0 ≡ next.0 = same_Some its.0 next.0 (sym its.1 ∙ next.1.0) in
                word.1 ∙ ap Some (its.2 ∙ ap (half_of half) (ap (λ (x : Item). x.raw) one ∙ next.1.1));
          }

  -- ---- acknowledge

  acknowledge : (s number : ℕ) → acknowledge_fault w s number ≡ None → MayAcknowledge w s number
  acknowledge s number none =
      let both = and_parts (number == suc (w.acknowledged s)) (sync_is_taken w s number) (passes (number == suc (w.acknowledged s) && sync_is_taken w s number) none) in
      let found = one_below (head w) (λ position. is_sync_of s number (slice_get w.reserved position)) both.1 in
      record { next = eqb-true number (suc (w.acknowledged s)) both.0; taken = taken found.0 found.1.0 (slice_get w.reserved found.0) refl found.1.1 }
    where
      passes : (v : Bool) → (if v then None else Some NotNext) ≡ None → v ≡ true
      passes true e = refl
      passes false e = absurd (cc)

      number_there : (n : Option ℕ) → has_number number n ≡ true → n ≡ Some number
      number_there None e = off e
      number_there (Some k) e = ap Some (eqb-true k number e)

      taken : (p : ℕ) → p < head w → (o : Option Item) → slice_get w.reserved p ≡ o → is_sync_of s number o ≡ true → SyncIsTaken w s number
      taken p below None at e = off e
      taken p below (Some item) at e =
          let a = and_parts (item.sender == s && has_number number item.number) (is_sync item.raw) e in
          let b = and_parts (item.sender == s) (has_number number item.number) a.0 in
          let sync = sync_at ring run ok p item at a.1 in
          let sender : item.sender ≡ s = eqb-true item.sender s b.0 in
          let its : item.number ≡ Some number = number_there item.number b.1 in
          let one : sync.number ≡ number = same_Some sync.number number (sym sync.number_is ∙ its) in record {
            position = p;
            place = item.place;
            below = below;
            there = at ∙ ap Some (λ q. record { sender = sender q; number = its q; place = item.place; raw = (sync.raw_is ∙ ap₂ sync_raw sender one) q });
          }

-- ---- all of them

pub allowed : WordsSayTheirControl → QueuesHaveAControl → IndexesTellTheQueue → StepsAreAllowed
allowed said queue tells ring run (Look None) is_geometry flags ok none = (ok, refl)
allowed said queue tells ring run (Look (Some s)) is_geometry flags ok none = (ok, refl)
allowed said queue tells ring run (Reserve s body closes) is_geometry flags ok none =
    (ok, reserve ring run ok said queue tells is_geometry s body.items closes (exists (nat_lt s ring.senders) _ none).1)
allowed said queue tells ring run (Write s slot half) is_geometry flags ok none =
    (ok, write ring run ok s slot (exists (nat_lt s ring.senders && nat_lt slot (size ring.geometry) && nat_lt half 2) _ none).1)
allowed said queue tells ring run (Flip s slot count) is_geometry flags ok none =
    let e = exists (nat_lt s ring.senders && nat_lt slot (size ring.geometry) && is_run_length count && share_a_word ring slot count) _ none in
    let share = and_parts (nat_lt s ring.senders && nat_lt slot (size ring.geometry) && is_run_length count) (share_a_word ring slot count) e.0 in
    let counted = and_parts (nat_lt s ring.senders && nat_lt slot (size ring.geometry)) (is_run_length count) share.0 in
    (ok, flip ring run ok s slot count counted.1 share.1 flags e.1)
allowed said queue tells ring run (Test slot count) is_geometry flags ok none =
    let e = exists (nat_lt slot (size ring.geometry) && is_run_length count) _ none in
    (ok, test ring run ok count (and_parts (nat_lt slot (size ring.geometry)) (is_run_length count) e.0).1 flags)
allowed said queue tells ring run (Read slot half) is_geometry flags ok none =
    (ok, read ring run ok slot (half_of_number half) (exists (nat_lt slot (size ring.geometry) && nat_lt half 2) _ none).1)
allowed said queue tells ring run (Advance count) is_geometry flags ok none =
    let e = exists (is_run_length count) _ none in (ok, advance ring run ok count e.0 e.1)
allowed said queue tells ring run (Close s) is_geometry flags ok none = (ok, tt)
allowed said queue tells ring run (Acknowledge s number) is_geometry flags ok none =
    (ok, acknowledge ring run ok s number (exists (nat_lt s ring.senders) _ none).1)
allowed said queue tells ring run (Ask s) is_geometry flags ok none = (ok, refl)

from_run : StepsAreAllowed → (ring : Ring) (run : Run) (place : ℕ) (steps : List Step) → IsGeometry ring.geometry → ring.flags ≡ 64 → IsRun ring run
    → IsRun ring (played_from ring run place steps).run
from_run law ring run place [] is_geometry flags ok = ok
from_run law ring run place (step ∷ steps) is_geometry flags ok = by_fault (fault_of ring run step) refl
    (λ none. from_run law ring (event_of ring run step ∷ run) (suc place) steps is_geometry flags (law ring run step is_geometry flags ok none))
  where
    by_fault : (f : Option StepFault) → fault_of ring run step ≡ f
        → (fault_of ring run step ≡ None → IsRun ring (played_from ring (event_of ring run step ∷ run) (suc place) steps).run)
        → IsRun ring (unless_refused f run place
        (with_answer (seen_of ring (world run) (event_of ring run step).0 (event_of ring run step).1) (played_from ring (event_of ring run step ∷ run) (suc place) steps))).run
    by_fault None is later = later is
    by_fault (Some fault) is later = ok

pub are_runs : StepsAreAllowed → PlayedAreRuns
are_runs law ring steps is_geometry flags = from_run law ring [] 0 steps is_geometry flags tt
