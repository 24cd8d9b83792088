-- The queue of a unit meets what a driver takes for granted.
use Rattle.std.proofs.Common.{◌≡◌, ◌≢◌, ℕ, zero, suc, ◌+◌, ◌<◌, ◌≤◌, Bool, true, false, List, [], ◌∷◌, ◌++◌, length, Option, Some, Result, Ok, Err, OnOk, OnErr, inl, inr, refl, ap, sym, subst, ◌∙◌, arith, length-append}
use Rattle.std.proofs.lemmas.Bool.{cases_lt}
use Rattle.std.proofs.lemmas.List.{append-nil}
use Rattle.std.proofs.lemmas.Option.{slice_get_read}
use Rattle.std.proofs.Math.ListN.{length-set}
use Rattle.std.specs.Prelude.{slice_get, slice_set, slice_index_or, Contains}
use Rattle.cmdcodec.specs.declared.raw.Raw.{Raw}
use Rattle.cmdcodec.specs.declared.command.Command.{Command}
use Rattle.qindex.specs.Positions.{IndexValue, size, place, index_of}
use Rattle.ringcore.specs.declared.world.event.Outcome.TheVariants.{Applied}
use Rattle.ringcore.specs.world.World.{Taken}
use Rattle.engine.specs.Settled.{IsSettled}
use Rattle.engine.specs.Stops.{StopValue}
use Rattle.engine.specs.Counting.{taken}
use Rattle.engine.specs.Units.{UnitValue, StaysSettled, IsApplied, with_entries}
use Rattle.caches.specs.Held.{Entries}
use Rattle.hardware_queue.specs.declared.reading.Reading.{Reading}
use Rattle.hardware_queue.specs.Queues.{Stop, plain_sync, IsFree, SyncsComplete, in_memory, command_queue_error}
use Rattle.hardware_queue.specs.Owners.{IsOwned}
use Rattle.hardware_queue.specs.Standing.{StandsOnceWritten, StandsOnceOverwritten, StandsOnceShown}
use Rattle.unit_queue.specs.Queued.{Queued, IsQueued, HasEffect, seen_at, MayConsume, StandsNext, IsCalledIllegal, HasGoneOn}

pub same_flags : (x y : Bool) → ¬ (x ≢ y) → x ≡ y
same_flags true true never = refl
same_flags true false never = absurd (never (λ same. cc))
same_flags false true never = absurd (never (λ same. cc))
same_flags false false never = refl

-- ---- lists

get_longer : {A : Type 0} (xs ys : List A) (i : ℕ) (x : A) → slice_get xs i ≡ Some x → slice_get (xs ++ ys) i ≡ Some x
get_longer [] ys i x at = absurd (cc)
get_longer (y ∷ xs) ys zero x at = at
get_longer (y ∷ xs) ys (suc i) x at = get_longer xs ys i x at

at_seam : {A : Type 0} (xs ys : List A) (y : A) → slice_get (xs ++ (y ∷ ys)) (length xs) ≡ Some y
at_seam [] ys y = refl
at_seam (x ∷ xs) ys y = at_seam xs ys y

contains_rest : (x y : ℕ) (xs : List ℕ) → Contains xs y → Contains (x ∷ xs) y
contains_rest x y xs (k, inside, is) = (suc k, omega (arith, inside), is)

-- ---- memory is written

pub queued_written : StandsOnceWritten → (u : Queued) (prod cons : IndexValue) (seen : Bool) (slot : ℕ) (raw : Raw) → IsQueued u prod cons seen → IsFree u.queue slot
    → IsQueued (record u { queue = record u.queue { memory = slice_set u.queue.memory slot raw } }) prod cons seen
queued_written written u prod cons seen slot raw is free = record {
  geometry = is.geometry;
  memory = length-set u.queue.memory slot raw ∙ is.memory;
  indexes = is.indexes;
  consumed = is.consumed;
  stands = written u.queue slot raw free is.stands;
  took = record { list = is.took.list; many = is.took.many; settled = is.took.settled; are = is.took.are };
  running = is.running;
  anything_next = is.anything_next;
  stopped = is.stopped;
  seen_is = is.seen_is;
}

pub queued_overwritten : StandsOnceOverwritten → (u : Queued) (prod cons : IndexValue) (seen : Bool) (slot : ℕ) (lost : List ℕ) → IsQueued u prod cons seen
    → slot ≡ place u.queue.geometry u.queue.consumed → lost ≡ u.queue.consumed ∷ u.queue.lost
    → IsQueued (record u { queue = record u.queue { memory = slice_set u.queue.memory slot plain_sync; lost = lost } }) prod cons seen
queued_overwritten overwritten u prod cons seen slot lost is there lost_is =
    let c : ℕ = u.queue.consumed in
    let owned : IsOwned u.queue = record { geometry = is.geometry; memory = is.memory; order = is.indexes.order; within = is.indexes.within } in
    subst (λ (r : List ℕ). IsQueued (record u { queue = record u.queue { memory = slice_set u.queue.memory slot plain_sync; lost = r } }) prod cons seen) (sym lost_is) (record {
      geometry = is.geometry;
      memory = length-set u.queue.memory slot plain_sync ∙ is.memory;
      indexes = is.indexes;
      consumed = is.consumed;
      stands = overwritten u.queue slot owned there is.stands;
      took = record { list = is.took.list; many = is.took.many; settled = is.took.settled; are = λ p raw inside at unlost. is.took.are p raw inside at (λ r. unlost (contains_rest c p u.queue.lost r)) };
      running = is.running;
      anything_next = is.anything_next;
      stopped = is.stopped;
      seen_is = is.seen_is;
    })

-- ---- more is shown

some_same : {A : Type 0} (a b : A) → Some a ≡ Some b → a ≡ b
some_same a b is = cc

length-in_memory : (g : ℕ) (m : List Raw) (t n : ℕ) → length (in_memory g m t n) ≡ n
length-in_memory g m t zero = refl
length-in_memory g m t (suc n) = ap suc (length-in_memory g m (suc t) n)

get_shorter : {A : Type 0} (xs ys : List A) (i : ℕ) (x : A) → i < length xs → slice_get (xs ++ ys) i ≡ Some x → slice_get xs i ≡ Some x
get_shorter [] ys i x inside at = absurd (omega (arith, inside))
get_shorter (y ∷ xs) ys zero x inside at = at
get_shorter (y ∷ xs) ys (suc i) x inside at = get_shorter xs ys i x (omega (arith, inside)) at

pub queued_shown : StandsOnceShown → (u : Queued) (prod cons next : IndexValue) (seen : Bool) (count : ℕ) (shown : List Raw) → IsQueued u prod cons seen
    → shown ≡ u.queue.shown ++ in_memory u.queue.geometry u.queue.memory (length u.queue.shown) count → length u.queue.shown + count ≤ u.queue.consumed + size u.queue.geometry
    → next ≡ index_of u.queue.geometry (length u.queue.shown + count) → IsQueued (record u { queue = record u.queue { geometry = next.geometry; shown = shown } }) next cons seen
queued_shown stays u prod cons next seen count shown is shown_is room next_is =
    let g : ℕ = u.queue.geometry in
    let t : ℕ = length u.queue.shown in
    let new : List Raw = u.queue.shown ++ in_memory g u.queue.memory t count in
    let long : length new ≡ t + count = length-append u.queue.shown (in_memory g u.queue.memory t count) ∙ ap (λ (k : ℕ). t + k) (length-in_memory g u.queue.memory t count) in
    let o = is.indexes.order in
    let many = is.took.many in
    let c = is.consumed in
    let at_new : IsQueued (record u { queue = record u.queue { shown = new } }) next cons seen = record {
      geometry = is.geometry;
      memory = is.memory;
      indexes = record { prod_is = next_is ∙ ap (index_of g) (sym long); cons_is = is.indexes.cons_is; order = omega (arith, long, o); within = omega (arith, long, room) };
      consumed = is.consumed;
      stands = stays u.queue count is.memory is.stands;
      took = record {
        list = is.took.list;
        many = is.took.many;
        settled = is.took.settled;
        are = λ p raw inside at unlost. is.took.are p raw inside (get_shorter u.queue.shown (in_memory g u.queue.memory t count) p raw (omega (arith, inside, many, c, o)) at) unlost;
      };
      running = is.running;
      anything_next = is.anything_next;
      stopped = λ active. let s = is.stopped active in omega (arith, s, long);
      seen_is = is.seen_is;
    } in
    subst (λ (k : ℕ). IsQueued (record u { queue = record u.queue { geometry = k; shown = shown } }) next cons seen) (ap (λ (i : IndexValue). i.geometry) (sym next_is))
    (subst (λ (l : List Raw). IsQueued (record u { queue = record u.queue { shown = l } }) next cons seen) (sym shown_is) at_new)

pub stood_there : (m : List Raw) (i j : ℕ) (x : Raw) → x ≡ slice_index_or m i x → i < length m → i ≡ j → slice_get m j ≡ Some x
stood_there m i j x is inside same = subst (λ (k : ℕ). slice_get m k ≡ Some x) same (slice_get_read m (length m) i x refl inside is)

-- ---- a command is consumed

same_raw : (a b : Raw) → Some a ≡ Some b → a ≡ b
same_raw a b is = cc

pub queued_consumed : (u : Queued) (prod cons next : IndexValue) (seen : Bool) (raw : Raw) (command : Command) (removed : ℕ) (new : UnitValue) → IsQueued u prod cons seen
    → u.error ≡ command_queue_error u.queue.gerrorn → u.queue.consumed < length u.queue.shown → slice_get u.queue.memory (place u.queue.geometry u.queue.consumed) ≡ Some raw
    → IsApplied raw command removed u.unit new → StaysSettled u.unit new (record { raw = raw; outcome = Applied } ∷ []) → next ≡ index_of u.queue.geometry (u.queue.consumed + 1)
    → IsQueued (record u { queue = record u.queue { consumed = taken new.counts; stopped = seen_at seen (taken new.counts) }; unit = new }) prod next seen
queued_consumed u prod cons next seen raw command removed new is unstopped flight at applied keeps next_is =
    let t : Taken = record { raw = raw; outcome = Applied } in
    let c = is.consumed in
    let many = is.took.many in
    let more : taken new.counts ≡ u.queue.consumed + 1 = ap taken applied.counts ∙ (let e : u.unit.counts.applied + 1 + u.unit.counts.replaced ≡ u.queue.consumed + 1 = omega (arith, c) in e) in
    let w = is.indexes.within in
    record {
      geometry = is.geometry;
      memory = is.memory;
      indexes = record {
        prod_is = is.indexes.prod_is;
        cons_is = next_is ∙ ap (index_of u.queue.geometry) (sym more);
        order = omega (arith, more, flight);
        within = omega (arith, more, w);
      };
      consumed = refl;
      stands = λ p shown unconsumed there unlost. is.stands p shown (omega (arith, more, unconsumed)) there unlost;
      took = record {
        list = is.took.list ++ t ∷ [];
        many = length-append is.took.list (t ∷ []) ∙ (let e : length is.took.list + 1 ≡ taken new.counts = omega (arith, many, more, c) in e);
        settled = keeps is.took.list many is.took.settled;
        are = λ p shown inside there unlost. elim (cases_lt p (length is.took.list)) [
          | inl earlier ↦ get_longer is.took.list (t ∷ []) p (record { raw = shown; outcome = Applied }) (is.took.are p shown earlier there unlost)
          | inr last ↦
              let long = length-append is.took.list (t ∷ []) in
              let one : p ≡ length is.took.list = omega (arith, last, long, inside) in
              let here : p ≡ u.queue.consumed = omega (arith, one, many, c) in
              let stood : slice_get u.queue.memory (place u.queue.geometry p) ≡ Some shown = is.stands p shown (omega (arith, here)) there unlost in
              let same : raw ≡ shown = same_raw raw shown (sym at ∙ ap (λ (k : ℕ). slice_get u.queue.memory (place u.queue.geometry k)) (sym here) ∙ stood) in
              ap (λ (k : ℕ). slice_get (is.took.list ++ t ∷ []) k) one ∙ at_seam is.took.list [] t ∙ ap (λ (r : Raw). Some (record { raw = r; outcome = Applied })) same
        ];
      };
      running = ap (λ (s : StopValue). s.mode) applied.stop;
      anything_next = ap (λ (s : StopValue). s.next) applied.stop;
      stopped = λ active. absurd (active unstopped);
      seen_is = is.seen_is;
    }

-- Seen stopped is only what is stopped.
unseen : (seen : Bool) (before after : ℕ) → ¬ (seen ≡ true) → seen_at seen after ≡ seen_at seen before
unseen true before after never = absurd (never refl)
unseen false before after never = refl

moved_on : (u : Queued) (new : UnitValue) (seen : Bool) (next : ℕ) → next ≡ u.queue.consumed + 1 → seen_at seen next ≡ u.queue.stopped
    → record u { queue = record u.queue { consumed = next; stopped = seen_at seen next }; unit = new } ≡ record u { unit = new; queue = record u.queue { consumed = u.queue.consumed + 1 } }
moved_on u new seen next more same =
    ap (λ (s : Option Stop). record u { queue = record u.queue { consumed = next; stopped = s }; unit = new }) same
    ∙ ap (λ (n : ℕ). record u { queue = record u.queue { consumed = n }; unit = new }) more

pub consumes_next : (u : Queued) (prod cons : IndexValue) (seen : Bool) (raw : Raw) (command : Command) (removed : ℕ) (new : UnitValue) → IsQueued u prod cons seen → MayConsume u
    → u.queue.stopped ≡ seen_at seen u.queue.consumed → StandsNext u raw → ¬ IsCalledIllegal u raw → IsApplied raw command removed u.unit new
    → HasGoneOn u (record u { queue = record u.queue { consumed = taken new.counts; stopped = seen_at seen (taken new.counts) }; unit = new })
consumes_next u prod cons seen raw command removed new is may stopped stands legal applied =
    let c = is.consumed in
    let more : taken new.counts ≡ u.queue.consumed + 1 = ap taken applied.counts ∙ (let e : u.unit.counts.applied + 1 + u.unit.counts.replaced ≡ u.queue.consumed + 1 = omega (arith, c) in e) in
    let same = unseen seen u.queue.consumed (taken new.counts) (λ one. may.running (is.seen_is one)) ∙ sym stopped in
    inr (
      may,
      inl (record {
        raw = raw;
        stands = stands;
        legal = legal;
        command = command;
        removed = removed;
        applied = applied;
        new_is = moved_on u new seen (taken new.counts) more same;
      }),
    )

-- ---- an entry is filled

pub same_counts : {A B : Type 0} (r : Result A B) (old new : UnitValue) (entries : Entries) → OnOk r (new ≡ with_entries old entries) → OnErr r (new ≡ old) → (new.counts ≡ old.counts) × (new.stop ≡ old.stop)
same_counts (Ok a) old new entries ok err = (ap (λ (u : UnitValue). u.counts) ok, ap (λ (u : UnitValue). u.stop) ok)
same_counts (Err b) old new entries ok err = (ap (λ (u : UnitValue). u.counts) err, ap (λ (u : UnitValue). u.stop) err)

pub queued_filled : (u : Queued) (prod cons : IndexValue) (seen : Bool) (new : UnitValue) → IsQueued u prod cons seen → (new.counts ≡ u.unit.counts) × (new.stop ≡ u.unit.stop) → StaysSettled u.unit new []
    → IsQueued (record u { queue = record u.queue { consumed = taken new.counts; stopped = seen_at seen (taken new.counts) }; unit = new }) prod cons seen
queued_filled u prod cons seen new is same keeps =
    let c : taken new.counts ≡ u.queue.consumed = ap taken same.0 ∙ sym is.consumed in
    let many = is.took.many in
    let b = is.consumed in
    let o = is.indexes.order in
    let w = is.indexes.within in
    record {
      geometry = is.geometry;
      memory = is.memory;
      indexes = record { prod_is = is.indexes.prod_is; cons_is = is.indexes.cons_is ∙ ap (index_of u.queue.geometry) (sym c); order = omega (arith, c, o); within = omega (arith, c, w) };
      consumed = refl;
      stands = λ p shown unconsumed there unlost. is.stands p shown (omega (arith, c, unconsumed)) there unlost;
      took = record {
        list = is.took.list;
        many = many ∙ sym (ap taken same.0);
        settled = subst (λ (l : List Taken). IsSettled new.caches.entries l) (append-nil is.took.list) (keeps is.took.list many is.took.settled);
        are = is.took.are;
      };
      running = ap (λ (s : StopValue). s.mode) same.1 ∙ is.running;
      anything_next = ap (λ (s : StopValue). s.next) same.1 ∙ is.anything_next;
      stopped = λ active. let s = is.stopped active in omega (arith, s, c);
      seen_is = is.seen_is;
    }

-- ---- effects

by_order : (a b : ℕ) → ¬ (b ≤ a) → a < b
by_order a b never = omega (arith, never)

-- What it consumed has its effect, unless it was written over.
pub consumed_effect : (u : Queued) (prod cons : IndexValue) (seen : Bool) → IsQueued u prod cons seen → (position : ℕ) → position < u.queue.consumed → ¬ Contains u.queue.lost position → HasEffect u position
consumed_effect u prod cons seen is position inside unlost raw command tag entry there spelled covered held =
    let c = is.consumed in
    let many = is.took.many in
    by_order position entry.born (λ later.
    (is.took.settled tag entry held).uncovered position (record { raw = raw; outcome = Applied }) (is.took.are position raw (omega (arith, inside, c, many)) there unlost) later
    (record { applied = refl; command = command; spelled = spelled; covered = covered }))

pub effects : (u : Queued) (prod cons : IndexValue) (seen : Bool) → IsQueued u prod cons seen → SyncsComplete (HasEffect u) u.queue
effects u prod cons seen is position sync before inside issync unlost answered = consumed_effect u prod cons seen is position (omega (arith, before, inside)) unlost

-- ---- it is restarted

-- No error is active, and none was seen.
pub queued_restarted : (u : Queued) (prod cons : IndexValue) (seen : Bool) (stopped : Option Stop) (gerrorn : ℕ) (repeated : List ℕ) (read : List Reading) → IsQueued u prod cons seen
    → u.error ≡ command_queue_error gerrorn
    → IsQueued (record u { queue = record u.queue { stopped = stopped; gerrorn = gerrorn; repeated = repeated; read = read } }) prod cons false
queued_restarted u prod cons seen stopped gerrorn repeated read is same = record {
  geometry = is.geometry;
  memory = is.memory;
  indexes = is.indexes;
  consumed = is.consumed;
  stands = is.stands;
  took = record { list = is.took.list; many = is.took.many; settled = is.took.settled; are = is.took.are };
  running = is.running;
  anything_next = is.anything_next;
  stopped = λ active. absurd (active same);
  seen_is = λ never. absurd (cc);
}
