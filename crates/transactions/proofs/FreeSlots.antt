-- The free slots as transactions begin and end.
use Rattle.std.proofs.Common.{◌≡◌, ◌≤◌, ◌<◌, ◌+◌, ◌^◌, ℕ, zero, suc, true, false, cond, List, [], ◌∷◌, ◌++◌, drop, length, map, Option, Some, None, refl, sym, ap, subst, ◌∙◌, arith, ⊎_elim}
use Rattle.std.specs.Prelude.{slice_get, slice_set, count_by, replicate}
use Rattle.std.proofs.lemmas.Option.{slice_get_within}
use Rattle.std.proofs.lemmas.List.{length-map, length-replicate}
use Rattle.std.proofs.lemmas.List.Sums.{sum_by-cons, count_by-le-length}
use Rattle.cmdcodec.specs.declared.command.Command.{Command}
use Rattle.transactions.specs.declared.outstanding.OutstandingTransaction.{OutstandingTransaction}
use Rattle.transactions.specs.Outstanding.{Slots, cover, is_outstanding, is_covered, IsEmptyAt, UsesBlock}
use Rattle.transactions.specs.FreeSlots.{AreFree, AreOutstanding, AreOwnPlaces, HasBlocks}
use Rattle.transactions.proofs.Lists.{get_set, get_copies, count_set, count_copies, counted, set_at, set_same, set_other, set_length, in_copies, get_map, map_at}

abbrev empty : Option OutstandingTransaction
empty = None

some_number : (a b : ℕ) → Some a ≡ Some b → a ≡ b
some_number a b is = cc

none_or_some : (o : OutstandingTransaction) → ◌≡◌ {A = Option (Option OutstandingTransaction)} (Some (Some o)) (Some None) → ⊥
none_or_some o is = absurd (cc)

-- ---- all are free at the beginning

module _ (room : ℕ) (free : List ℕ) (many : length free ≡ room) (own : AreOwnPlaces room free) where
  abbrev none : Slots
  none = replicate room None

  own_place : (place slot : ℕ) → slice_get free place ≡ Some slot → place ≡ slot
  own_place place slot at = some_number place slot (sym (own place (let within = slice_get_within free place slot at in omega (arith, within, many))) ∙ at)

  below_room : (place slot : ℕ) → slice_get free place ≡ Some slot → slot < room
  below_room place slot at =
      let same = own_place place slot at in
      let within = slice_get_within free place slot at in
      omega (arith, same, within, many)

  pub all_free : AreFree none free 0
  all_free = record {
    room = many ∙ sym (length-replicate room None);
    are = λ place slot behind at. in_copies room None slot (below_room place slot at);
    all = λ slot at. record {
      place = slot;
      behind = omega arith;
      at = own slot (let within = slice_get_within none slot None at in let as_many = length-replicate room empty in omega (arith, within, as_many));
    };
    once = λ first second slot from_first from_second at_first at_second. own_place first slot at_first ∙ sym (own_place second slot at_second);
  }

-- ---- one begins, one ends, and a command covers some

module _ (slots : Slots) (free : List ℕ) (from : ℕ) (are : AreFree slots free from) where
  pub one_begun : (slot : ℕ) (o : OutstandingTransaction) → slice_get free from ≡ Some slot → AreFree (slice_set slots slot (Some o)) free (from + 1)
  one_begun slot o here = record {
    room = are.room ∙ sym (set_length slots slot (Some o));
    are = λ place s behind at.
        set_other slots slot (Some o) s (λ same. let twice = are.once from place slot (omega arith) (omega (arith, behind)) here (at ∙ ap (λ (n : ℕ). Some n) same) in omega (arith, twice, behind))
        ∙ are.are place s (omega (arith, behind)) at;
    all = λ s at. ⊎_elim
        (λ (own : (s ≡ slot) × (Some o ≡ None)). absurd (some_none own.1))
        (λ (old : ¬ (s ≡ slot) × (slice_get slots s ≡ Some None)).
        let l = are.all s old.1 in
        record { place = l.place; behind = behind_it from l.place l.behind (λ same. old.0 (some_number s slot (sym l.at ∙ ap (slice_get free) same ∙ here))); at = l.at })
        (set_at slots slot (Some o) s None at);
    once = λ first second s from_first from_second at_first at_second. are.once first second s (omega (arith, from_first)) (omega (arith, from_second)) at_first at_second;
  }
    where
      some_none : Some o ≡ None → ⊥
      some_none is = absurd (cc)

      behind_it : (a b : ℕ) → a ≤ b → ¬ (b ≡ a) → a + 1 ≤ b
      behind_it a b le other = omega (arith, le, other)

  pub one_ended : (slot : ℕ) (o : OutstandingTransaction) (earlier : ℕ) → slice_get slots slot ≡ Some (Some o) → earlier + 1 ≡ from → earlier < length free
      → AreFree (slice_set slots slot None) (slice_set free earlier slot) earlier
  one_ended slot o earlier taken is below = record {
    room = set_length free earlier slot ∙ are.room ∙ sym (set_length slots slot None);
    are = λ place s behind at. ⊎_elim
        (λ (own : (place ≡ earlier) × (slot ≡ s)). ap (slice_get (slice_set slots slot None)) (sym own.1) ∙ set_same slots slot None (slice_get_within slots slot (Some o) taken))
        (λ (old : ¬ (place ≡ earlier) × (slice_get free place ≡ Some s)).
        let was = are.are place s (beyond place behind old.0) old.1 in
        set_other slots slot None s (λ same. not_free s same was) ∙ was)
        (set_at free earlier slot place s at);
    all = λ s at. ⊎_elim
        (λ (own : (s ≡ slot) × (empty ≡ empty)).
        record { place = earlier; behind = omega arith; at = set_same free earlier slot below ∙ ap (λ (n : ℕ). Some n) (sym own.0) })
        (λ (old : ¬ (s ≡ slot) × (slice_get slots s ≡ Some None)).
        let l = are.all s old.1 in
        let behind = l.behind in
        record { place = l.place; behind = omega (arith, behind, is); at = set_other free earlier slot l.place (λ same. omega (arith, same, behind, is)) ∙ l.at })
        (set_at slots slot None s None at);
    once = λ first second s from_first from_second at_first at_second. ⊎_elim
        (λ (own : (first ≡ earlier) × (slot ≡ s)). ⊎_elim
        (λ (own_too : (second ≡ earlier) × (slot ≡ s)). own.0 ∙ sym own_too.0)
        (λ (old : ¬ (second ≡ earlier) × (slice_get free second ≡ Some s)). absurd (not_free s (sym own.1) (are.are second s (beyond second from_second old.0) old.1)))
        (set_at free earlier slot second s at_second))
        (λ (old : ¬ (first ≡ earlier) × (slice_get free first ≡ Some s)). ⊎_elim
        (λ (own : (second ≡ earlier) × (slot ≡ s)). absurd (not_free s (sym own.1) (are.are first s (beyond first from_first old.0) old.1)))
        (λ (old_too : ¬ (second ≡ earlier) × (slice_get free second ≡ Some s)).
        are.once first second s (beyond first from_first old.0) (beyond second from_second old_too.0) old.1 old_too.1)
        (set_at free earlier slot second s at_second))
        (set_at free earlier slot first s at_first);
  }
    where
      beyond : (place : ℕ) → earlier ≤ place → ¬ (place ≡ earlier) → from ≤ place
      beyond place le other = omega (arith, le, other, is)

      not_free : (s : ℕ) → s ≡ slot → slice_get slots s ≡ Some None → ⊥
      not_free s same was = none_or_some o (sym taken ∙ sym (ap (slice_get slots) same) ∙ was)

  pub still_free : (command : Command) → AreFree (map (cover command) slots) free from
  still_free command = record {
    room = are.room ∙ sym (length-map slots (cover command));
    are = λ place slot behind at. map_at (cover command) slots slot None (are.are place slot behind at);
    all = λ slot at. let there = get_map (cover command) slots slot None at in are.all slot (was_none slot there.0 there.1 there.2);
    once = are.once;
  }
    where
      was_none : (slot : ℕ) (x : Option OutstandingTransaction) → slice_get slots slot ≡ Some x → cover command x ≡ None → slice_get slots slot ≡ Some None
      was_none slot None at is = at
      was_none slot (Some o) at is = absurd (cc)

-- ---- how many are outstanding

abbrev is_one : Option OutstandingTransaction → ℕ
is_one slot = cond (is_outstanding slot) 1 0

pub as_many_covered : (command : Command) (slots : Slots) → count_by is_outstanding (map (cover command) slots) ≡ count_by is_outstanding slots
as_many_covered command [] = refl
as_many_covered command (None ∷ slots) =
    let was = sum_by-cons is_one None slots in
    let is = sum_by-cons is_one None (map (cover command) slots) in
    let rest = as_many_covered command slots in
    omega (arith, was, is, rest)
as_many_covered command (Some o ∷ slots) =
    let was = sum_by-cons is_one (Some o) slots in
    let is = sum_by-cons is_one (cover command (Some o)) (map (cover command) slots) in
    let rest = as_many_covered command slots in
    omega (arith, was, is, rest)

-- A command changes nothing while none is outstanding.
pub none_covered : (command : Command) (slots : Slots) → count_by is_outstanding slots ≡ 0 → slots ≡ map (cover command) slots
none_covered command [] none = refl
none_covered command (None ∷ slots) none =
    let was = sum_by-cons is_one None slots in
    ap (λ (l : Slots). None ∷ l) (none_covered command slots (omega (arith, was, none)))
none_covered command (Some o ∷ slots) none = let was = sum_by-cons is_one (Some o) slots in absurd (omega (arith, was, none))

-- ---- all that is kept

pub all_kept : (room : ℕ) (free : List ℕ) → room < 2 ^ 16 → length free ≡ room → AreOwnPlaces room free → AreOutstanding (replicate room None) free 0 0
all_kept room free few many own = record {
  few = let same = length-replicate room empty in omega (arith, few, same);
  blocks = λ slot o at. absurd (none_there o (get_copies room empty slot (Some o) at));
  count_is = sym (count_copies is_outstanding room None refl);
  covered_is = sym (count_copies is_covered room None refl);
  free_are = all_free room free many own;
}
  where
    none_there : (o : OutstandingTransaction) → None ≡ Some o → ⊥
    none_there o is = absurd (cc)

module _ (slots : Slots) (free : List ℕ) (count covered : ℕ) (are : AreOutstanding slots free count covered) (slot : ℕ) (o : OutstandingTransaction) where
  pub free_slot : slice_get free count ≡ Some slot → slice_get slots slot ≡ Some None
  free_slot at = are.free_are.are count slot (omega arith) at

  pub kept_begun : UsesBlock o.used → o.covered ≡ false → slice_get free count ≡ Some slot → AreOutstanding (slice_set slots slot (Some o)) free (count + 1) covered
  kept_begun block uncovered at = record {
    few = let same = set_length slots slot (Some o) in let few = are.few in omega (arith, same, few);
    blocks = λ s t there. ⊎_elim
        (λ (old : slice_get slots s ≡ Some (Some t)). are.blocks s t old)
        (λ (new : Some o ≡ Some t). subst (λ (x : OutstandingTransaction). UsesBlock x.used) (inner o t new) block)
        (get_set slots slot (Some o) s (Some t) there);
    count_is =
        let more : count_by is_outstanding (slice_set slots slot (Some o)) + 0 ≡ count_by is_outstanding slots + 1 = count_set is_outstanding slots slot None (Some o) (free_slot at) in
        let was = are.count_is in
        omega (arith, more, was);
    covered_is =
        let same : count_by is_covered (slice_set slots slot (Some o)) + 0 ≡ count_by is_covered slots + cond o.covered 1 0 = count_set is_covered slots slot None (Some o) (free_slot at) in
        let none : ◌≡◌ {A = ℕ} (cond o.covered 1 0) 0 = ap (λ b. cond b 1 0) uncovered in
        let was = are.covered_is in
        omega (arith, same, none, was);
    free_are = one_begun slots free count are.free_are slot o at;
  }
    where
      inner : (a b : OutstandingTransaction) → Some a ≡ Some b → a ≡ b
      inner a b is = cc

  pub some_outstanding : slice_get slots slot ≡ Some (Some o) → 0 < count
  some_outstanding at = let some = counted is_outstanding slots slot (Some o) at refl in let was = are.count_is in omega (arith, some, was)

  pub some_covered : slice_get slots slot ≡ Some (Some o) → o.covered ≡ true → 0 < covered
  some_covered at so = let some = counted is_covered slots slot (Some o) at so in let was = are.covered_is in omega (arith, some, was)

  pub kept_ended : (earlier left : ℕ) → slice_get slots slot ≡ Some (Some o) → earlier + 1 ≡ count → left + cond o.covered 1 0 ≡ covered
      → AreOutstanding (slice_set slots slot None) (slice_set free earlier slot) earlier left
  kept_ended earlier left at is left_is = record {
    few = let same = set_length slots slot empty in let few = are.few in omega (arith, same, few);
    blocks = λ s t there. ⊎_elim
        (λ (old : slice_get slots s ≡ Some (Some t)). are.blocks s t old)
        (λ (new : None ≡ Some t). absurd (none_there t new))
        (get_set slots slot None s (Some t) there);
    count_is =
        let fewer : count_by is_outstanding (slice_set slots slot None) + 1 ≡ count_by is_outstanding slots + 0 = count_set is_outstanding slots slot (Some o) None at in
        let was = are.count_is in
        omega (arith, fewer, was, is);
    covered_is =
        let fewer : count_by is_covered (slice_set slots slot None) + cond o.covered 1 0 ≡ count_by is_covered slots + 0 = count_set is_covered slots slot (Some o) None at in
        let was = are.covered_is in
        omega (arith, fewer, was, left_is);
    free_are = one_ended slots free count are.free_are slot o earlier at is (below_room);
  }
    where
      none_there : (t : OutstandingTransaction) → None ≡ Some t → ⊥
      none_there t nay = absurd (cc)

      below_room : earlier < length free
      below_room =
          let most = count_by-le-length is_outstanding slots in
          let was = are.count_is in
          let room = are.free_are.room in
          omega (arith, most, was, is, room)

pub kept_covered : (slots : Slots) (free : List ℕ) (count covered now : ℕ) (command : Command) → AreOutstanding slots free count covered → HasBlocks (map (cover command) slots)
    → now ≡ count_by is_covered (map (cover command) slots) → AreOutstanding (map (cover command) slots) free count now
kept_covered slots free count covered now command are blocks now_is = record {
  few = let same = length-map slots (cover command) in let few = are.few in omega (arith, same, few);
  blocks = blocks;
  count_is = are.count_is ∙ sym (as_many_covered command slots);
  covered_is = now_is;
  free_are = still_free slots free count are.free_are command;
}

-- ---- slot after slot is freed

abbrev cleared : ℕ → Slots → Slots
cleared k slots = replicate k None ++ drop k slots

pub one_cleared : (slots : Slots) (k : ℕ) → k < length slots → slice_set (cleared k slots) k None ≡ cleared (suc k) slots
one_cleared [] k below = absurd (omega (arith, below))
one_cleared (x ∷ slots) zero below = refl
one_cleared (x ∷ slots) (suc k) below = ap (λ (l : Slots). None ∷ l) (one_cleared slots k (omega (arith, below)))

pub was_clear : (slots : Slots) (k : ℕ) → k < length slots → IsEmptyAt (cleared k slots) k → cleared k slots ≡ cleared (suc k) slots
was_clear [] k below none = absurd (omega (arith, below))
was_clear (None ∷ slots) zero below none = refl
was_clear (Some o ∷ slots) zero below none = absurd (none o refl)
was_clear (x ∷ slots) (suc k) below none = ap (λ (l : Slots). None ∷ l) (was_clear slots k (omega (arith, below)) none)

pub all_cleared : (slots : Slots) → cleared (length slots) slots ≡ replicate (length slots) None
all_cleared [] = refl
all_cleared (x ∷ slots) = ap (λ (l : Slots). None ∷ l) (all_cleared slots)
