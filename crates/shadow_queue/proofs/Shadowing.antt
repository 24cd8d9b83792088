-- The copy of a queue meets the conditions of its trait.
use Rattle.std.proofs.Common.{◌≡◌, ◌⊎◌, inl, inr, ℕ, zero, suc, ◌+◌, ◌-◌, ◌*◌, ◌%◌, ◌^◌, ◌<◌, ◌≤◌, List, [], ◌∷◌, ◌++◌, length, Option, Some, None, refl, ap, sym, subst, ◌∙◌, arith, length-append}
use Rattle.std.proofs.lemmas.Bool.{cases_lt}
use Rattle.std.proofs.lemmas.List.Elements.{All-cons}
use Rattle.std.proofs.lemmas.Nat.{pow_pos, mod_below}
use Rattle.std.proofs.Math.Nat.{add-mod-mod, mod-add-mod, add-mod_right, mod-eq_of_lt, mod_self}
use Rattle.std.proofs.Math.ListN.{length-set}
use Rattle.std.specs.Option.{IsSome}
use Rattle.std.specs.Prelude.{Contains, All}
use Rattle.cmdcodec.specs.declared.raw.Raw.{Raw}
use Rattle.qindex.specs.Positions.{IndexValue, size, index_of}
use Rattle.qindex.specs.Indexes.{IsQueue}
use Rattle.hardware_queue.specs.declared.reading.Reading.{Reading}
use Rattle.hardware_queue.specs.declared.reading.Reading.TheVariants.{Gerrorn, Cons}
use Rattle.hardware_queue.specs.declared.register_words.RegisterWords.{RegisterWords}
use Rattle.hardware_queue.specs.Queues.{QueueValue, Stop, Supplied, plain_sync, IsFree, IsOfIllegal, IsBelievable, IsAtStop, HasReadCons, in_memory, rd_of, newly_consumed, with_reading, consumed_up_to, written, overwritten, command_queue_error}
use Rattle.hardware_queue.specs.Owners.{IsLookedAt}
use Rattle.hardware_queue.specs.Standing.{StandsOnceWritten, StandsOnceOverwritten, StandsOnceShown, with_shown}
use Rattle.hardware_queue.specs.Supplying.{CanHave, AreSupplied, IsSupplied}
use Rattle.shadow_queue.specs.Shadows.{IsShadow, IsStopWithin}

-- ---- where RD is

arrives : (m r a : ℕ) → 0 < m → r < m → (a + (r + m - a % m) % m) % m ≡ r
arrives m r a some low =
    let below = mod_below a m some in
    add-mod-mod a (r + m - a % m) m ∙ sym (mod-add-mod a m (r + m - a % m)) ∙ ap (λ (k : ℕ). k % m) (let e : a % m + (r + m - a % m) ≡ r + m = omega (arith, below) in e) ∙ add-mod_right r m ∙ mod-eq_of_lt low

no_more : (m r a : ℕ) → 0 < m → r < m → (r + m - (a + (r + m - a % m) % m) % m) % m ≡ 0
no_more m r a some low = ap (λ (k : ℕ). (r + m - k) % m) (arrives m r a some low) ∙ ap (λ (k : ℕ). k % m) (let e : r + m - r ≡ m = omega arith in e) ∙ mod_self m

-- Once it has consumed what a value of CONS says, the same value says that nothing more is.
pub consumed_once : (word : ℕ) (q : QueueValue) → rd_of word < 2 * size q.geometry → newly_consumed word (consumed_up_to word q) ≡ 0
consumed_once word q low = let some = pow_pos q.geometry in no_more (2 * size q.geometry) (rd_of word) q.consumed (omega (arith, some)) low

-- ---- the words that it was given

pub supplied_more : (q : QueueValue) (reading : Reading) → IsSupplied q.supplied reading → AreSupplied q → AreSupplied (with_reading reading q)
supplied_more q reading is are = record {
  newer = reading ∷ are.newer;
  read = ap (λ (l : List Reading). reading ∷ l) are.read;
  are = All-cons (IsSupplied q.supplied) reading are.newer is are.are;
}

-- Memory and what is lost don't matter to them.
same_can : (words : RegisterWords) (q r : QueueValue) → r ≡ record q { memory = r.memory; lost = r.lost; read = r.read } → CanHave words q → CanHave words r
same_can words q r same can =
    subst (CanHave words) (sym same) (record {
      believable = record { index = can.believable.index; within = can.believable.within };
      at_stop = can.at_stop;
      within = λ active. can.within (record { differ = active.differ; in_flight = active.in_flight });
      few = can.few;
    })

same_supplied : (q r : QueueValue) → r.read ≡ q.read → r.supplied ≡ q.supplied → AreSupplied q → AreSupplied r
same_supplied q r read supplied are = record {
  newer = are.newer;
  read = read ∙ are.read ∙ ap (λ (s : Supplied). are.newer ++ s.before) (sym supplied);
  are = subst (λ (s : Supplied). All (IsSupplied s) are.newer) (sym supplied) are.are;
}

-- ---- memory is written

pub shadow_written : StandsOnceWritten → (q : QueueValue) (prod cons : IndexValue) (slot : ℕ) (raw : Raw) → IsShadow q prod cons → IsFree q slot → IsShadow (written slot raw q) prod cons
shadow_written stays q prod cons slot raw is free = record {
  geometry = is.geometry;
  memory = length-set q.memory slot raw ∙ is.memory;
  indexes = is.indexes;
  stands = stays q slot raw free is.stands;
  lost = is.lost;
  stop = λ stop at. let w = is.stop stop at in record { unconsumed = w.unconsumed; shown = w.shown };
  can = same_can q.supplied.words q (written slot raw q) refl is.can;
  supplied = same_supplied q (written slot raw q) refl refl is.supplied;
}

first_or : (x y : ℕ) (xs : List ℕ) → Contains (x ∷ xs) y → (y ≡ x) ⊎ Contains xs y
first_or x y xs (zero, inside, is) = inl (sym is)
first_or x y xs (suc k, inside, is) = inr (k, omega (arith, inside), is)

pub shadow_overwritten : StandsOnceOverwritten → (q : QueueValue) (prod cons : IndexValue) (slot : ℕ) → IsShadow q prod cons → IsOfIllegal q slot → IsShadow (overwritten slot q) prod cons
shadow_overwritten stays q prod cons slot is of = record {
  geometry = is.geometry;
  memory = length-set q.memory slot plain_sync ∙ is.memory;
  indexes = is.indexes;
  stands = stays q slot (record { geometry = is.geometry; memory = is.memory; order = is.indexes.order; within = is.indexes.within }) of.there is.stands;
  lost = λ position lost. elim (first_or q.consumed position q.lost lost) [
    | inl here ↦ let w = is.stop _ of.stopped in let s = w.shown in omega (arith, here, s)
    | inr earlier ↦ is.lost position earlier
  ];
  stop = λ stop at. let w = is.stop stop at in record { unconsumed = w.unconsumed; shown = w.shown };
  can = same_can q.supplied.words q (overwritten slot q) refl is.can;
  supplied = same_supplied q (overwritten slot q) refl refl is.supplied;
}

-- ---- more is shown

length-in_memory : (g : ℕ) (m : List Raw) (t n : ℕ) → length (in_memory g m t n) ≡ n
length-in_memory g m t zero = refl
length-in_memory g m t (suc n) = ap suc (length-in_memory g m (suc t) n)

pub shadow_shown : StandsOnceShown → (q : QueueValue) (prod cons next : IndexValue) (count : ℕ) (shown : List Raw) → IsShadow q prod cons → shown ≡ (with_shown count q).shown → length q.shown + count ≤ q.consumed + size q.geometry
    → next ≡ index_of q.geometry (length q.shown + count) → IsShadow (record q { geometry = next.geometry; shown = shown }) next cons
shadow_shown stays q prod cons next count shown is shown_is room next_is =
    let t : ℕ = length q.shown in
    let long : length (with_shown count q).shown ≡ t + count = length-append q.shown (in_memory q.geometry q.memory t count) ∙ ap (λ (k : ℕ). t + k) (length-in_memory q.geometry q.memory t count) in
    let o = is.indexes.order in
    let w = is.can.believable.within in
    let after : IsShadow (with_shown count q) next cons = record {
      geometry = is.geometry;
      memory = is.memory;
      indexes = record { prod_is = next_is ∙ ap (index_of q.geometry) (sym long); cons_is = is.indexes.cons_is; order = omega (arith, long, o); within = omega (arith, long, room) };
      stands = stays q count is.memory is.stands;
      lost = λ position lost. let l = is.lost position lost in omega (arith, l, long);
      stop = λ stop at. let s = is.stop stop at in record { unconsumed = s.unconsumed; shown = let x = s.shown in omega (arith, x, long) };
      can = record {
        believable = record { index = is.can.believable.index; within = omega (arith, w, long) };
        at_stop = is.can.at_stop;
        within = λ active.
            let flight = active.in_flight in
            elim (cases_lt q.consumed t) [
              | inl before ↦ let x = is.can.within (record { differ = active.differ; in_flight = before }) in omega (arith, x, long)
              | inr none ↦ omega (arith, none, w, flight)
            ];
        few = is.can.few;
      };
      supplied = same_supplied q (with_shown count q) refl refl is.supplied;
    } in
    subst (λ (k : ℕ). IsShadow (record q { geometry = k; shown = shown }) next cons) (ap (λ (i : IndexValue). i.geometry) (sym next_is))
    (subst (λ (l : List Raw). IsShadow (record q { shown = l }) next cons) (sym shown_is) after)

-- ---- CONS is read

abbrev pub TellsConsumed : IndexValue → IndexValue → ℕ → Option ℕ → Type 0
TellsConsumed prod cons word result = (q : QueueValue) → IsQueue prod cons q.geometry (length q.shown) q.consumed → IsLookedAt q word result

some_looked : (q : QueueValue) (word : ℕ) (result : Option ℕ) → IsLookedAt q word result → IsBelievable word q → IsSome result
some_looked q word None never is = absurd (never is)
some_looked q word (Some count) looked is = refl

pub some_found : (q : QueueValue) (prod cons : IndexValue) (result : Option ℕ) → TellsConsumed prod cons q.supplied.words.cons result → IsShadow q prod cons → IsSome result
some_found q prod cons result tells is = some_looked q q.supplied.words.cons result (tells q is.indexes) is.can.believable

pub record IsFound (q : QueueValue) (count : ℕ) : Type 0 where
  pub count_is : count ≡ newly_consumed q.supplied.words.cons q
  pub few : count ≤ size q.geometry
  pub fits : q.consumed + count < 2 ^ 64

pub found : (q : QueueValue) (prod cons : IndexValue) (result : Option ℕ) (count : ℕ) → TellsConsumed prod cons q.supplied.words.cons result → IsShadow q prod cons → result ≡ Some count → IsFound q count
found q prod cons result count tells is at =
    let is_count = (subst (IsLookedAt q q.supplied.words.cons) at (tells q is.indexes)).1 in
    let b = is.can.believable.within in
    let w = is.indexes.within in
    let f = is.can.few in
    record { count_is = is_count; few = omega (arith, is_count, b, w); fits = omega (arith, is_count, f) }

pub read_says : (q : QueueValue) (prod cons : IndexValue) (count : ℕ) → IsShadow q prod cons → count ≡ newly_consumed q.supplied.words.cons q
    → HasReadCons q (with_reading (Cons q.supplied.words.cons) (record q { consumed = q.consumed + count })) q.supplied.words.cons
read_says q prod cons count is count_is = record {
  moved = λ believable. ap (λ (n : ℕ). with_reading (Cons q.supplied.words.cons) (record q { consumed = q.consumed + n })) count_is;
  kept = λ never. absurd (never is.can.believable);
  frozen = λ stop at believable. is.can.at_stop stop at;
}

pub shadow_consumed : (q : QueueValue) (prod cons next : IndexValue) (count : ℕ) → IsShadow q prod cons → count ≡ newly_consumed q.supplied.words.cons q → next ≡ index_of q.geometry (q.consumed + count)
    → IsShadow (with_reading (Cons q.supplied.words.cons) (record q { consumed = q.consumed + count })) prod next
shadow_consumed q prod cons next count is count_is next_is =
    let word : ℕ = q.supplied.words.cons in
    let r : QueueValue = record q { consumed = q.consumed + count } in
    let same : r ≡ consumed_up_to word q = ap (λ (n : ℕ). record q { consumed = q.consumed + n }) count_is in
    let none : newly_consumed word r ≡ 0 = ap (newly_consumed word) same ∙ consumed_once word q is.can.believable.index in
    let o = is.indexes.order in
    let w = is.indexes.within in
    let b = is.can.believable.within in
    let f = is.can.few in
    record {
      geometry = is.geometry;
      memory = is.memory;
      indexes = record { prod_is = is.indexes.prod_is; cons_is = next_is; order = omega (arith, b, count_is); within = omega (arith, w) };
      stands = λ p raw unconsumed at unlost. is.stands p raw (omega (arith, unconsumed)) at unlost;
      lost = is.lost;
      stop = λ stop at. let s = is.stop stop at in let a = (is.can.at_stop stop at).0 in record { unconsumed = omega (arith, a, count_is); shown = s.shown };
      can = record {
        believable = record { index = is.can.believable.index; within = omega (arith, b, count_is, none) };
        at_stop = λ stop at. let a = is.can.at_stop stop at in let there = a.0 in (omega (arith, there, count_is, none), a.1);
        within = λ active. let x = active.in_flight in omega (arith, x, none);
        few = omega (arith, f, count_is, none);
      };
      supplied = same_supplied (with_reading (Cons word) q) (with_reading (Cons word) r) refl refl (supplied_more q (Cons word) refl is.supplied);
    }

-- ---- GERROR is read

-- Nothing else changed: a stop was seen, where RD is, or none.
pub shadow_stopped : (q : QueueValue) (prod cons : IndexValue) (stopped : Option Stop) (reading : Reading) → IsShadow q prod cons → IsSupplied q.supplied reading
    → ((stop : Stop) → stopped ≡ Some stop → IsStopWithin q stop × IsAtStop q.supplied.words.cons q stop) → IsShadow (with_reading reading (record q { stopped = stopped })) prod cons
shadow_stopped q prod cons stopped reading is answer are = record {
  geometry = is.geometry;
  memory = is.memory;
  indexes = is.indexes;
  stands = is.stands;
  lost = is.lost;
  stop = λ stop at. let s = are stop at in record { unconsumed = s.0.unconsumed; shown = s.0.shown };
  can = record {
    believable = record { index = is.can.believable.index; within = is.can.believable.within };
    at_stop = λ stop at. (are stop at).1;
    within = λ active. is.can.within (record { differ = active.differ; in_flight = active.in_flight });
    few = is.can.few;
  };
  supplied = same_supplied (with_reading reading q) (with_reading reading (record q { stopped = stopped })) refl refl (supplied_more q reading answer is.supplied);
}

-- ---- GERRORN is read, and written

pub shadow_gerrorn : (q : QueueValue) (prod cons : IndexValue) (word : ℕ) → IsShadow q prod cons → IsSupplied q.supplied (Gerrorn word) → command_queue_error word ≡ command_queue_error q.gerrorn
    → IsShadow (with_reading (Gerrorn word) (record q { gerrorn = word })) prod cons
shadow_gerrorn q prod cons word is answer same = record {
  geometry = is.geometry;
  memory = is.memory;
  indexes = is.indexes;
  stands = is.stands;
  lost = is.lost;
  stop = λ stop at. let s = is.stop stop at in record { unconsumed = s.unconsumed; shown = s.shown };
  can = record {
    believable = record { index = is.can.believable.index; within = is.can.believable.within };
    at_stop = is.can.at_stop;
    within = λ active. is.can.within (record { differ = λ e. active.differ (e ∙ sym same); in_flight = active.in_flight });
    few = is.can.few;
  };
  supplied = same_supplied (with_reading (Gerrorn word) q) (with_reading (Gerrorn word) (record q { gerrorn = word })) refl refl (supplied_more q (Gerrorn word) answer is.supplied);
}

pub shadow_acknowledged : (q : QueueValue) (prod cons : IndexValue) (stop : Stop) (word : ℕ) (repeated : List ℕ) → IsShadow q prod cons → q.stopped ≡ Some stop
    → IsShadow (record q { stopped = None; gerrorn = word; repeated = repeated }) prod cons
shadow_acknowledged q prod cons stop word repeated is at = record {
  geometry = is.geometry;
  memory = is.memory;
  indexes = is.indexes;
  stands = is.stands;
  lost = is.lost;
  stop = λ other none. absurd (never other none);
  can = record {
    believable = record { index = is.can.believable.index; within = is.can.believable.within };
    at_stop = λ other none. absurd (never other none);
    within = λ active. let s = (is.stop stop at).shown in let there = (is.can.at_stop stop at).0 in omega (arith, s, there);
    few = is.can.few;
  };
  supplied = same_supplied q (record q { stopped = None; gerrorn = word; repeated = repeated }) refl refl is.supplied;
}
  where
    never : (other : Stop) → None ≡ Some other → ⊥
    never other none = cc

-- ---- it is restarted

none_newly : (q : QueueValue) (word : ℕ) → rd_of word ≡ (index_of q.geometry q.consumed).number → newly_consumed word q ≡ 0
none_newly q word there =
    let m : ℕ = 2 * size q.geometry in
    let r : ℕ = q.consumed % m in
    ap (λ (k : ℕ). (k + m - r) % m) there ∙ ap (λ (k : ℕ). k % m) (let e : r + m - r ≡ m = omega arith in e) ∙ mod_self m

-- No error is active by the words that it has then, and CONS stands where it is known to be.
pub shadow_restarted : (q : QueueValue) (prod cons : IndexValue) (word gerrorn again : ℕ) (repeated : List ℕ) (read : List Reading) → IsShadow q prod cons → cons.number < 2 ^ 20
    → IsShadow (record q { stopped = None; gerrorn = word; repeated = repeated; read = read; supplied = record { words = record { gerror = word; cons = cons.number }; gerrorn = gerrorn; before = read; again = again } }) prod cons
shadow_restarted q prod cons word gerrorn again repeated read is small =
    let at : cons.number ≡ (index_of q.geometry q.consumed).number = ap (λ (i : IndexValue). i.number) is.indexes.cons_is in
    let low = mod_below q.consumed (2 * size q.geometry) (let some = pow_pos q.geometry in omega (arith, some)) in
    let rd : rd_of cons.number ≡ cons.number = mod-eq_of_lt small in
    let none = none_newly q cons.number (rd ∙ at) in
    let o = is.indexes.order in
    let few = is.can.few in
    record {
      geometry = is.geometry;
      memory = is.memory;
      indexes = is.indexes;
      stands = is.stands;
      lost = is.lost;
      stop = λ stop at. absurd (never stop at);
      can = record {
        believable = record { index = omega (arith, rd, at, low); within = omega (arith, none, o) };
        at_stop = λ stop at. absurd (never stop at);
        within = λ active. absurd (active.differ refl);
        few = omega (arith, none, few);
      };
      supplied = record { newer = []; read = refl; are = λ k d inside. absurd (omega (arith, inside)) };
    }
  where
    never : (other : Stop) → None ≡ Some other → ⊥
    never other none = cc

-- ---- it is given words

pub shadow_supplied : (q : QueueValue) (prod cons : IndexValue) (words : RegisterWords) (gerrorn : ℕ) → IsShadow q prod cons → CanHave words q
    → IsShadow (record q { supplied = record { words = words; gerrorn = gerrorn; before = q.read; again = q.supplied.again } }) prod cons
shadow_supplied q prod cons words gerrorn is can = record {
  geometry = is.geometry;
  memory = is.memory;
  indexes = is.indexes;
  stands = is.stands;
  lost = is.lost;
  stop = λ stop at. let s = is.stop stop at in record { unconsumed = s.unconsumed; shown = s.shown };
  can = record {
    believable = record { index = can.believable.index; within = can.believable.within };
    at_stop = can.at_stop;
    within = λ active. can.within (record { differ = active.differ; in_flight = active.in_flight });
    few = can.few;
  };
  supplied = record { newer = []; read = refl; are = λ k d inside. absurd (omega (arith, inside)) };
}
