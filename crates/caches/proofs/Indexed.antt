-- The index of the ordered map stays true where an entry is put in or taken out, and tells what is in the map.
use Rattle.std.proofs.Common.{◌≡◌, ℕ, ◌+◌, ◌^◌, ◌<◌, ◌≤◌, ◌==◌, Bool, true, false, true≢false, cond, inl, inr, Option, Some, None, is_some, is_none, IsSome, IfSome, refl, sym, ◌∙◌, ap, subst, List, length, map, slice_index_or, slice_set, arith}
use Rattle.std.proofs.lemmas.Bool.{cases_eq, eq-eqb, eqb-true, ltb-true, false_from_ne_true}
use Rattle.std.proofs.lemmas.List.{get_or-set_same, get_or-set_other, get_or_default, length-set}
use Rattle.std.proofs.lemmas.List.Sums.{count_by-le-length}
use Rattle.std.proofs.lemmas.Map.Entries.{length-keys_of}
use Rattle.std.specs.Prelude.{nat_lt}
use Rattle.std.specs.List.{count_by}
use Rattle.std.specs.Option.{option_and_then}
use Rattle.std.specs.Ordering.{eq_by_cmp, is_eq}
use Rattle.std.specs.Cmp.{tied_itself}
use Rattle.std.specs.Map.{lookup, remove_entry}
use Rattle.std.specs.BTreeMap.{BTreeMap, Updates, IsUnchanged, get, is_at, keys, insert_entry}
use Rattle.caches.specs.declared.tag.Entry.{Entry}
use Rattle.caches.specs.declared.key.Key.{Key}
use Rattle.caches.specs.declared.slot.Noted.{Noted}
use Rattle.caches.specs.declared.slot.Slot.{Slot}
use Rattle.caches.specs.declared.slot.Slot.TheVariants.{Unnoted, Newest}
use Rattle.caches.specs.Slots.{slot_of, size_of, noted_in, entry_of, sharing, IsThere, IsSlot, IsIndexed}
use Rattle.caches.proofs.KeyOrder.{key_cmp, key_total}
use Rattle.caches.proofs.Sharing.{equal_keys, one_if, found_counts, two_count, count_removed, count_inserted}

itself : (x : Key) → eq_by_cmp key_cmp x x ≡ true
itself x = ap is_eq (tied_itself key_total x)

flipped : (x y : Key) → eq_by_cmp key_cmp x y ≡ false → eq_by_cmp key_cmp y x ≡ false
flipped x y apart = false_from_ne_true _ (λ same. absurd (true≢false (sym (itself y) ∙ ap (λ z. eq_by_cmp key_cmp z y) (equal_keys y x same) ∙ apart)))

module _ (shift : ℕ) where
  own : (k : Key) → (slot_of shift k == slot_of shift k) ≡ true
  own k = eq-eqb _ _ refl

  -- ---- a slot, and what it says
  pub slot_at : (m : BTreeMap Key Entry) (slots : List Slot) (k : Key) (i : ℕ) (s : Slot) → IsIndexed key_cmp shift m slots → i ≡ slot_of shift k → i < length slots → s ≡ slice_index_or slots i s → IsSlot key_cmp shift m (slot_of shift k) s
  slot_at m slots k i s is at within found = subst (λ j. IsSlot key_cmp shift m j s) at (subst (IsSlot key_cmp shift m i) (sym (found ∙ get_or_default slots i s (Unnoted 0) within)) (is i within))

  -- as a look-up reads it
  pub slot_read : (m : BTreeMap Key Entry) (slots items : List Slot) (k : Key) (i : ℕ) (read s : Slot) → IsIndexed key_cmp shift m slots → items ≡ slots → i ≡ slot_of shift k → true ≡ nat_lt i (length items) → read ≡ slice_index_or items i read → read ≡ s → IsSlot key_cmp shift m (slot_of shift k) s
  slot_read m slots items k i read s is same at within found what = subst (IsSlot key_cmp shift m (slot_of shift k)) what
      (slot_at m slots k i read is at (subst (λ xs. i < length xs) same (ltb-true i (length items) (sym within))) (found ∙ ap (λ xs. slice_index_or xs i read) same))

  module _ (m : BTreeMap Key Entry) (k : Key) (s : Slot) (is : IsSlot key_cmp shift m (slot_of shift k) s) where
    pub few : length m.entries < 2 ^ 63 → size_of s < 2 ^ 63
    few short = let most = count_by-le-length (λ key. slot_of shift key == slot_of shift k) (keys m) in omega (arith, most, short, is.0, length-keys_of m.entries)

    pub counted : is_some (get key_cmp m k) ≡ true → 0 < size_of s
    counted found = let some = found_counts (λ key. slot_of shift key == slot_of shift k) m.entries k (own k) found in omega (arith, some, is.0)

  pub others : (m : BTreeMap Key Entry) (k : Key) (s : Slot) → IsSlot key_cmp shift m (slot_of shift k) s → is_some (get key_cmp m k) ≡ true → IfSome (noted_in s) (λ noted. eq_by_cmp key_cmp noted.rank k ≡ false → 1 < size_of s)
  others m k (Unnoted all) is found = tt
  others m k (Newest more noted) is found = λ apart.
      let two = two_count (λ key. slot_of shift key == slot_of shift k) m.entries noted.rank k (eq-eqb _ _ is.1.1) (own k) apart (ap is_some is.1.0) found in
      omega (arith, two, is.0)

  -- What it notes is the key's entry, or has another key.
  pub noted_found : (m : BTreeMap Key Entry) (k : Key) (more : ℕ) (noted : Noted) (found : Entry) → IsSlot key_cmp shift m (slot_of shift k) (Newest more noted) → cond (eq_by_cmp key_cmp noted.rank k) (Some (entry_of noted)) None ≡ Some found → Some found ≡ get key_cmp m k
  noted_found m k more noted found is h = elim (eq_by_cmp key_cmp noted.rank k) as (λ b. eq_by_cmp key_cmp noted.rank k ≡ b → cond b (Some (entry_of noted)) None ≡ Some found → Some found ≡ get key_cmp m k) [
    | true ↦ λ y e. sym e ∙ sym (subst (λ x. get key_cmp m x ≡ Some (entry_of noted)) (equal_keys noted.rank k y) is.1.0)
    | false ↦ λ n e. cc
  ] refl h

  pub noted_holds : (m : BTreeMap Key Entry) (k : Key) (more : ℕ) (noted : Noted) → IsSlot key_cmp shift m (slot_of shift k) (Newest more noted) → eq_by_cmp key_cmp noted.rank k ≡ true → is_some (get key_cmp m k) ≡ true
  noted_holds m k more noted is same = ap (λ x. is_some (get key_cmp m x)) (sym (equal_keys noted.rank k same)) ∙ ap is_some is.1.0

  -- A slot that has no others tells that the key's entry isn't there.
  pub none_found : (m : BTreeMap Key Entry) (k : Key) (s : Slot) → IsSlot key_cmp shift m (slot_of shift k) s → size_of s ≡ 0 → get key_cmp m k ≡ None
  none_found m k s is none = elim (get key_cmp m k) as (λ o. get key_cmp m k ≡ o → o ≡ None) [
    | None ↦ λ _. refl
    | Some x ↦ λ e. let some = counted m k s is (ap is_some e) in absurd (omega (arith, some, none))
  ] refl

  pub no_other : (m : BTreeMap Key Entry) (k : Key) (more : ℕ) (noted : Noted) → IsSlot key_cmp shift m (slot_of shift k) (Newest more noted) → more ≡ 0 → eq_by_cmp key_cmp noted.rank k ≡ false → get key_cmp m k ≡ None
  no_other m k more noted is alone apart = elim (get key_cmp m k) as (λ o. get key_cmp m k ≡ o → o ≡ None) [
    | None ↦ λ _. refl
    | Some x ↦ λ e. let two = others m k (Newest more noted) is (ap is_some e) apart in absurd (omega (arith, two, alone))
  ] refl

  -- ---- a map with the same entries
  same_slot : (m n : BTreeMap Key Entry) → IsUnchanged m n → (i : ℕ) (s : Slot) → IsSlot key_cmp shift m i s → IsSlot key_cmp shift n i s
  same_slot m n same i (Unnoted all) is = (is.0 ∙ ap (λ es. count_by (λ (key : Key). slot_of shift key == i) (map {A = Key × Entry} (λ e. e.0) es)) (sym same), tt)
  same_slot m n same i (Newest more noted) is = (is.0 ∙ ap (λ es. count_by (λ (key : Key). slot_of shift key == i) (map {A = Key × Entry} (λ e. e.0) es)) (sym same), (ap (lookup (is_at (key_cmp noted.rank))) same ∙ is.1.0, is.1.1))

  pub unchanged_indexed : (m n : BTreeMap Key Entry) → IsUnchanged m n → (slots : List Slot) → IsIndexed key_cmp shift m slots → IsIndexed key_cmp shift n slots
  unchanged_indexed m n same slots is = λ i within. same_slot m n same i _ (is i within)

  -- ---- one key's entry changes, and the number of keys with other slots stays
  module _ (m n : BTreeMap Key Entry) (k : Key) (w : Option Entry) (updates : Updates key_cmp m n k w) (counts : (j : ℕ) → (slot_of shift k == j) ≡ false → sharing key_cmp shift n j ≡ sharing key_cmp shift m j) where
    elsewhere : (q : Key) → eq_by_cmp key_cmp k q ≡ false → get key_cmp n q ≡ get key_cmp m q
    elsewhere q other = updates.0 q ∙ ap (λ b. cond b w (get key_cmp m q)) other

    other_slot : (q : Key) (j : ℕ) → slot_of shift q ≡ j → (j ≡ slot_of shift k → ⊥) → eq_by_cmp key_cmp k q ≡ false
    other_slot q j at apart = false_from_ne_true _ (λ same. apart (sym at ∙ ap (slot_of shift) (sym (equal_keys k q same))))

    stays : (j : ℕ) (s : Slot) → (j ≡ slot_of shift k → ⊥) → IsSlot key_cmp shift m j s → IsSlot key_cmp shift n j s
    stays j (Unnoted all) apart is = (is.0 ∙ sym (counts j (false_from_ne_true _ (λ same. apart (sym (eqb-true _ _ same))))), tt)
    stays j (Newest more noted) apart is = (
      is.0 ∙ sym (counts j (false_from_ne_true _ (λ same. apart (sym (eqb-true _ _ same))))),
      (elsewhere noted.rank (other_slot noted.rank j is.1.1 apart) ∙ is.1.0, is.1.1),
    )

    -- Only the key's own slot is set, if there is one.
    pub set_indexed : (slots : List Slot) (i : ℕ) (s : Slot) → IsIndexed key_cmp shift m slots → i ≡ slot_of shift k → i < length slots → IsSlot key_cmp shift n (slot_of shift k) s → IsIndexed key_cmp shift n (slice_set slots i s)
    set_indexed slots i s is at within own = λ j below. elim (cases_eq j i) as (λ _. IsSlot key_cmp shift n j (slice_index_or (slice_set slots i s) j (Unnoted 0))) [
      | inl same ↦ subst (λ x. IsSlot key_cmp shift n x (slice_index_or (slice_set slots i s) x (Unnoted 0))) (sym same) (subst (IsSlot key_cmp shift n i) (sym (get_or-set_same slots i s (Unnoted 0) within)) (subst (λ x. IsSlot key_cmp shift n x s) (sym at) own))
      | inr apart ↦ subst (IsSlot key_cmp shift n j) (sym (get_or-set_other slots i j s (Unnoted 0) apart)) (stays j _ (λ e. apart (e ∙ sym at)) (is j (subst (λ l. j < l) (length-set slots i s) below)))
    ]

    -- The key has no slot.
    pub unset_indexed : (slots : List Slot) → IsIndexed key_cmp shift m slots → length slots ≤ slot_of shift k → IsIndexed key_cmp shift n slots
    unset_indexed slots is past = λ j within. stays j _ (λ same. absurd (omega (arith, past, within, same))) (is j within)

  -- ---- an entry is put in
  module _ (m n : BTreeMap Key Entry) (noted : Noted) (was : Option Entry) (found : was ≡ get key_cmp m noted.rank) (put : was ≡ None → n.entries ≡ insert_entry key_cmp m.entries noted.rank (entry_of noted)) (stay : IsSome was → keys n ≡ keys m) where
    put_counts : (j : ℕ) → sharing key_cmp shift n j ≡ sharing key_cmp shift m j + cond (is_none was) (one_if (slot_of shift noted.rank == j)) 0
    put_counts j = elim was as (λ o. was ≡ o → sharing key_cmp shift n j ≡ sharing key_cmp shift m j + cond (is_none o) (one_if (slot_of shift noted.rank == j)) 0) [
      | None ↦ λ none. ap (λ es. count_by (λ (key : Key). slot_of shift key == j) (map {A = Key × Entry} (λ e. e.0) es)) (put none) ∙ count_inserted (λ key. slot_of shift key == j) m.entries noted.rank (entry_of noted) (ap is_some (sym found ∙ none))
      | Some x ↦ λ some. ap (count_by (λ (key : Key). slot_of shift key == j)) (stay (ap is_some some)) ∙ omega arith
    ] refl

    others_stay : (j : ℕ) → (slot_of shift noted.rank == j) ≡ false → sharing key_cmp shift n j ≡ sharing key_cmp shift m j
    others_stay j none = put_counts j ∙ ap (λ b. sharing key_cmp shift m j + cond (is_none was) (one_if b) 0) none ∙ nothing (is_none was) (sharing key_cmp shift m j)
      where
        nothing : (b : Bool) (x : ℕ) → x + cond b 0 0 ≡ x
        nothing true x = omega arith
        nothing false x = omega arith

    pub put_at : Updates key_cmp m n noted.rank (Some (entry_of noted)) → (slots : List Slot) (i : ℕ) (before after : Slot) (is_new : Bool) → IsIndexed key_cmp shift m slots → i ≡ slot_of shift noted.rank → i < length slots → before ≡ slice_index_or slots i before
        → is_new ≡ is_none was → size_of after ≡ size_of before + one_if is_new → noted_in after ≡ Some noted → IsIndexed key_cmp shift n (slice_set slots i after)
    put_at updates slots i before after is_new is at within old new size notes =
        let said = slot_at m slots noted.rank i before is at within old in
        let more : cond (is_none was) (one_if (slot_of shift noted.rank == slot_of shift noted.rank)) 0 ≡ one_if is_new = ap (λ b. cond (is_none was) (one_if b) 0) (own noted.rank) ∙ ap one_if (sym new) in
        let there : get key_cmp n noted.rank ≡ Some (entry_of noted) = updates.0 noted.rank ∙ ap (λ b. cond b (Some (entry_of noted)) (get key_cmp m noted.rank)) (itself noted.rank) in
        set_indexed m n noted.rank (Some (entry_of noted)) updates others_stay slots i after is at within
        (omega (arith, size, said.0, more, put_counts (slot_of shift noted.rank)), subst (λ o. IfSome o (IsThere key_cmp shift n (slot_of shift noted.rank))) (sym notes) (there, refl))

    pub put_unset : Updates key_cmp m n noted.rank (Some (entry_of noted)) → (slots : List Slot) → IsIndexed key_cmp shift m slots → length slots ≤ slot_of shift noted.rank → IsIndexed key_cmp shift n slots
    put_unset updates slots is past = unset_indexed m n noted.rank (Some (entry_of noted)) updates others_stay slots is past

  -- ---- an entry is taken out
  module _ (m n : BTreeMap Key Entry) (k : Key) (found : IsSome (get key_cmp m k)) (taken : n.entries ≡ remove_entry (is_at (key_cmp k)) m.entries) (updates : Updates key_cmp m n k None) where
    taken_counts : (j : ℕ) → sharing key_cmp shift n j + one_if (slot_of shift k == j) ≡ sharing key_cmp shift m j
    taken_counts j = ap (λ es. count_by (λ (key : Key). slot_of shift key == j) (map {A = Key × Entry} (λ e. e.0) es) + one_if (slot_of shift k == j)) taken ∙ count_removed (λ key. slot_of shift key == j) m.entries k found

    others_left : (j : ℕ) → (slot_of shift k == j) ≡ false → sharing key_cmp shift n j ≡ sharing key_cmp shift m j
    others_left j none = let less = taken_counts j in let zero = ap one_if none in omega (arith, less, zero)

    left : (before : Slot) → IsSlot key_cmp shift m (slot_of shift k) before → IfSome (option_and_then (λ noted. cond (eq_by_cmp key_cmp noted.rank k) None (Some noted)) (noted_in before)) (IsThere key_cmp shift n (slot_of shift k))
    left (Unnoted all) is = tt
    left (Newest more noted) is = elim (eq_by_cmp key_cmp noted.rank k) as (λ b. eq_by_cmp key_cmp noted.rank k ≡ b → IfSome (cond b None (Some noted)) (IsThere key_cmp shift n (slot_of shift k))) [
      | true ↦ λ _. tt
      | false ↦ λ apart. (elsewhere m n k None updates others_left noted.rank (flipped noted.rank k apart) ∙ is.1.0, is.1.1)
    ] refl

    pub taken_at : (slots : List Slot) (i : ℕ) (before after : Slot) → IsIndexed key_cmp shift m slots → i ≡ slot_of shift k → i < length slots → before ≡ slice_index_or slots i before
        → size_of after + 1 ≡ size_of before → noted_in after ≡ option_and_then (λ noted. cond (eq_by_cmp key_cmp noted.rank k) None (Some noted)) (noted_in before) → IsIndexed key_cmp shift n (slice_set slots i after)
    taken_at slots i before after is at within old size notes =
        let said = slot_at m slots k i before is at within old in
        let one = ap one_if (own k) in
        set_indexed m n k None updates others_left slots i after is at within
        (omega (arith, size, said.0, one, taken_counts (slot_of shift k)), subst (λ o. IfSome o (IsThere key_cmp shift n (slot_of shift k))) (sym notes) (left before said))

    pub taken_unset : (slots : List Slot) → IsIndexed key_cmp shift m slots → length slots ≤ slot_of shift k → IsIndexed key_cmp shift n slots
    taken_unset slots is past = unset_indexed m n k None updates others_left slots is past
