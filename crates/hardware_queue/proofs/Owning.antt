-- What an owner knows of its queue, and what stands in memory.
use Rattle.std.proofs.Common.{◌≡◌, ℕ, zero, suc, ◌+◌, ◌-◌, ◌*◌, ◌<◌, ◌≤◌, Bool, List, [], ◌∷◌, ◌++◌, length, refl, ap, ap₂, sym, subst, ◌∙◌, arith, add-one, length-append}
use Rattle.std.proofs.lemmas.Grind.{take_at_read}
use Rattle.std.proofs.lemmas.List.{get_or-set_same, get_or-set_other, length-take-le}
use Rattle.std.proofs.Math.ListN.{length-set}
use Rattle.std.specs.Prelude.{slice_index_or, slice_set, take}
use Rattle.cmdcodec.specs.declared.raw.Raw.{Raw}
use Rattle.qindex.specs.Positions.{IndexValue, size, place, index_of}
use Rattle.qindex.specs.Indexes.{IsGeometry, IsQueue, distance}
use Rattle.qindex.specs.Laws.{SlotsAreApart, IndexesTellTheQueue}
use Rattle.hardware_queue.specs.declared.state.QueueState.{QueueState}
use Rattle.hardware_queue.specs.Queues.{QueueValue, IsFree, plain_sync, written, in_memory, rd_of, newly_consumed, IsBelievable, newly_shown, MayShow, shown_up_to}
use Rattle.hardware_queue.specs.Owners.{IsOwner, without_memory, room}

-- ---- what stands in memory

pub in_memory_same : (g : ℕ) (m k : List Raw) (t n : ℕ) → ((p : ℕ) → t ≤ p → p < t + n → slice_index_or m (place g p) plain_sync ≡ slice_index_or k (place g p) plain_sync)
    → in_memory g m t n ≡ in_memory g k t n
in_memory_same g m k t zero same = refl
in_memory_same g m k t (suc n) same =
    ap₂ (λ (x : Raw) (xs : List Raw). x ∷ xs) (same t (omega arith) (omega arith)) (in_memory_same g m k (suc t) n (λ p a b. same p (omega (arith, a)) (omega (arith, b))))

pub in_memory_more : (g : ℕ) (m : List Raw) (t n : ℕ) → in_memory g m t (suc n) ≡ in_memory g m t n ++ slice_index_or m (place g (t + n)) plain_sync ∷ []
in_memory_more g m t zero = ap (λ (p : ℕ). slice_index_or m (place g p) plain_sync ∷ []) (omega arith)
in_memory_more g m t (suc n) =
    ap (λ (xs : List Raw). slice_index_or m (place g t) plain_sync ∷ xs)
    (in_memory_more g m (suc t) n ∙ ap (λ (p : ℕ). in_memory g m (suc t) n ++ slice_index_or m (place g p) plain_sync ∷ []) (omega arith))

-- A command that is written behind them leaves them, and is the next.
pub in_memory_written : SlotsAreApart → (g : ℕ) (m : List Raw) (t n : ℕ) (raw : Raw) → length m ≡ size g → n < size g → place g (t + n) < size g
    → in_memory g (slice_set m (place g (t + n)) raw) t (suc n) ≡ in_memory g m t n ++ raw ∷ []
in_memory_written apart g m t n raw long few inside =
    let k : List Raw = slice_set m (place g (t + n)) raw in
    let others : in_memory g k t n ≡ in_memory g m t n =
    in_memory_same g k m t n (λ p a b.
    get_or-set_other m (place g (t + n)) (place g p) raw plain_sync (λ same.
    let one = apart g t p (t + n) a (omega (arith, b, few)) (omega arith) (omega (arith, few)) same in absurd (omega (arith, one, b)))) in
    in_memory_more g k t n
    ∙ ap₂ (λ (xs : List Raw) (x : Raw). xs ++ x ∷ []) others (get_or-set_same m (place g (t + n)) raw plain_sync (omega (arith, long, inside)))

-- The slot behind what was shown is free, if there is room.
pub free_behind : SlotsAreApart → (q : QueueValue) (n : ℕ) → q.consumed ≤ length q.shown → length q.shown + n < q.consumed + size q.geometry → place q.geometry (length q.shown + n) < size q.geometry
    → IsFree q (place q.geometry (length q.shown + n))
free_behind apart q n order room inside = record {
  in_memory = inside;
  unread = λ r.
      let one = apart q.geometry q.consumed (length q.shown + n) r.position (omega (arith, order)) room r.unconsumed (let s = r.shown in omega (arith, s, order, room)) r.there in
      let s = r.shown in absurd (omega (arith, one, s));
}

-- Memory doesn't matter to that.
pub free_any : (q : QueueValue) (slot : ℕ) → IsFree (without_memory q) slot → IsFree q slot
free_any q slot f = record {
  in_memory = f.in_memory;
  unread = λ r. f.unread (record { position = r.position; unconsumed = r.unconsumed; shown = r.shown; there = r.there });
}

pub free_still : SlotsAreApart → (q r : QueueValue) (n count slot : ℕ) → without_memory r ≡ without_memory q → q.consumed ≤ length q.shown → length q.shown + count ≤ q.consumed + size q.geometry → n < count
    → slot ≡ place q.geometry (length q.shown + n) → slot < size q.geometry → IsFree r slot
free_still apart q r n count slot kept order room more at inside =
    free_any r slot (subst (λ (x : QueueValue). IsFree x slot) (sym kept) (subst (λ (s : ℕ). IsFree (without_memory q) s) (sym at)
    (free_behind apart (without_memory q) n order (omega (arith, room, more)) (omega (arith, at, inside)))))

-- ---- a loop that writes

pub record IsWritten (q r : QueueValue) (raws : List Raw) (n : ℕ) : Type 0 where
  pub kept : without_memory r ≡ without_memory q
  pub long : length r.memory ≡ size q.geometry
  pub done : in_memory q.geometry r.memory (length q.shown) n ≡ take n raws

pub one_more : SlotsAreApart → (q r s : QueueValue) (raws : List Raw) (n count slot : ℕ) (d : Raw) → IsWritten q r raws n → s ≡ written slot (slice_index_or raws n d) r
    → q.consumed ≤ length q.shown → length q.shown + count ≤ q.consumed + size q.geometry → n < count → count ≤ length raws
    → slot ≡ place q.geometry (length q.shown + n) → slot < size q.geometry → IsWritten q s raws (n + 1)
one_more apart q r s raws n count slot d is new order room more enough at inside =
    let g : ℕ = q.geometry in
    let t : ℕ = length q.shown in
    let raw : Raw = slice_index_or raws n d in
    let few : n < size g = omega (arith, order, room, more) in
    let at_is : place g (t + n) < size g = omega (arith, at, inside) in
    let stands : in_memory g (slice_set r.memory (place g (t + n)) raw) t (suc n) ≡ take n raws ++ raw ∷ [] =
    in_memory_written apart g r.memory t n raw is.long few at_is ∙ ap (λ (xs : List Raw). xs ++ raw ∷ []) is.done in
    record {
      kept = ap without_memory new ∙ is.kept;
      long = ap (λ (x : QueueValue). length x.memory) new ∙ length-set r.memory slot raw ∙ is.long;
      done = ap (λ (x : QueueValue). in_memory g x.memory t (n + 1)) new
          ∙ ap (λ (i : ℕ). in_memory g (slice_set r.memory i raw) t (n + 1)) at
          ∙ ap (λ (k : ℕ). in_memory g (slice_set r.memory (place g (t + n)) raw) t k) (add-one n)
          ∙ stands ∙ sym ((take_at_read raws n d (omega (arith, more, enough))).1);
    }

-- ---- all are shown

same_but_memory : (q r : QueueValue) → without_memory r ≡ without_memory q → r ≡ record q { memory = r.memory }
same_but_memory q r kept = ap (λ (x : QueueValue). record x { memory = r.memory }) kept

newly_is : IndexesTellTheQueue → (q r : QueueValue) (count word : ℕ) → without_memory r ≡ without_memory q → IsGeometry q.geometry → count ≤ size q.geometry
    → word ≡ (index_of q.geometry (length q.shown + count)).number → newly_shown word r ≡ count
newly_is tell q r count word kept geometry few is =
    let g : ℕ = q.geometry in
    let t : ℕ = length q.shown in
    let away : distance (index_of g (t + count)) (index_of g t) ≡ t + count - t = (tell g (t + count) t geometry (omega arith) (omega (arith, few))).distance in
    ap (newly_shown word) (same_but_memory q r kept)
    ∙ ap (λ (w : ℕ). distance (record { geometry = g; number = w }) (index_of g t)) is
    ∙ away ∙ omega arith

pub may_show : IndexesTellTheQueue → (q r : QueueValue) (count word : ℕ) → without_memory r ≡ without_memory q → IsGeometry q.geometry → count ≤ size q.geometry
    → length q.shown + count ≤ q.consumed + size q.geometry → word ≡ (index_of q.geometry (length q.shown + count)).number → word < 2 * size q.geometry → MayShow word r
may_show tell q r count word kept geometry few room is below =
    let n = newly_is tell q r count word kept geometry few is in
    let t : length r.shown ≡ length q.shown = ap (λ (x : QueueValue). length x.shown) kept in
    let c : r.consumed ≡ q.consumed = ap (λ (x : QueueValue). x.consumed) kept in
    let s : size r.geometry ≡ size q.geometry = ap (λ (x : QueueValue). size x.geometry) kept in
    record { index = omega (arith, s, below); room = omega (arith, n, t, c, s, room) }

pub shown_is : IndexesTellTheQueue → (q r s : QueueValue) (raws : List Raw) (count word : ℕ) → IsWritten q r raws count → IsGeometry q.geometry → count ≤ size q.geometry
    → word ≡ (index_of q.geometry (length q.shown + count)).number → s ≡ shown_up_to word r → s ≡ record q { memory = r.memory; shown = q.shown ++ take count raws }
shown_is tell q r s raws count word is geometry few w new =
    let n = newly_is tell q r count word is.kept geometry few w in
    new ∙ ap (λ (k : ℕ). record r { shown = r.shown ++ in_memory r.geometry r.memory (length r.shown) k }) n
    ∙ ap (λ (x : QueueValue). record x { memory = r.memory; shown = x.shown ++ in_memory x.geometry r.memory (length x.shown) count }) is.kept
    ∙ ap (λ (xs : List Raw). record q { memory = r.memory; shown = q.shown ++ xs }) is.done

pub owner_pushed : (q s : QueueValue) (prod cons next : IndexValue) (a : Bool) (found : QueueState) (raws memory : List Raw) (count : ℕ) → IsOwner q prod cons a found → length memory ≡ size q.geometry
    → s ≡ record q { memory = memory; shown = q.shown ++ take count raws } → count ≤ length raws → length q.shown + count ≤ q.consumed + size q.geometry
    → next ≡ index_of q.geometry (length q.shown + count) → IsOwner s next cons a found
owner_pushed q s prod cons next a found raws memory count is long new enough room n =
    let more : length (q.shown ++ take count raws) ≡ length q.shown + count =
    length-append q.shown (take count raws) ∙ ap (λ (k : ℕ). length q.shown + k) (length-take-le count raws enough) in
    let o = is.queue.order in
    subst (λ (x : QueueValue). IsOwner x next cons a found) (sym new) (record {
      geometry = is.geometry;
      memory = long;
      queue = record {
        prod_is = n ∙ ap (index_of q.geometry) (sym more);
        cons_is = is.queue.cons_is;
        order = omega (arith, more, o);
        within = omega (arith, more, room);
      };
      acknowledged_is = is.acknowledged_is;
      stopped = λ error seen.
          let at = is.stopped error seen in
          record { stopped = at.stopped; shown = let s = at.shown in omega (arith, s, more) };
    })

-- ---- a look at CONS

pub count_is : (q : QueueValue) (prod cons found : IndexValue) (word count : ℕ) → IsQueue prod cons q.geometry (length q.shown) q.consumed
    → found ≡ record { geometry = cons.geometry; number = rd_of word } → count ≡ distance found cons → count ≡ newly_consumed word q
count_is q prod cons found word count is f e =
    e ∙ ap (λ (i : IndexValue). distance i cons) f ∙ ap (λ (c : IndexValue). distance (record { geometry = c.geometry; number = rd_of word }) c) is.cons_is

pub unbelievable : (q : QueueValue) (word count : ℕ) → count ≡ newly_consumed word q → q.consumed ≤ length q.shown → length q.shown - q.consumed < count → ¬ IsBelievable word q
unbelievable q word count e order more = λ b. let w = b.within in absurd (omega (arith, w, e, order, more))

pub believable : (q : QueueValue) (word count : ℕ) → count ≡ newly_consumed word q → q.consumed ≤ length q.shown → count ≤ length q.shown - q.consumed → rd_of word < 2 * size q.geometry
    → IsBelievable word q
believable q word count e order few index = record { index = index; within = omega (arith, e, order, few) }
