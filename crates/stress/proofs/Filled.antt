-- The entries are filled one by one.
use Rattle.std.proofs.Common.{◌≡◌, Ordering, Less, Equal, Greater, ℕ, ◌+◌, Bool, true, false, cond, Option, Some, None, refl, sym, ap, ◌∙◌, subst, ⊎_elim, inl, inr, ◌⊎◌, arith}
use Rattle.std.specs.Ordering.{eq_by_cmp, is_eq}
use Rattle.std.specs.Prelude.{is_some}
use Rattle.std.specs.FinMap as finite
use Rattle.std.specs.FinMap.{get-insert, get-empty, len-empty, len-insert}
use Rattle.caches.specs.declared.tag.Tag.{Tag}
use Rattle.caches.specs.declared.tag.Tag.TheVariants.{S1}
use Rattle.caches.specs.declared.tag.Entry.{Entry}
use Rattle.caches.specs.TagOrder.{tag_cmp, tag_cmp_total, tag_cmp_exact}
use Rattle.caches.specs.Held.{Entries}
use Rattle.engine.specs.Counting.{none_counted, taken}
use Rattle.engine.specs.Units.{UnitValue, filled, with_entries}
use Rattle.stress.specs.FirstEntries.{tag_of, IsFirstEntry, HoldsFirst, IsFilled}

pub none_filled : (unit : UnitValue) → unit.caches.entries ≡ finite.empty → unit.counts ≡ none_counted → IsFilled 0 unit
none_filled unit empty counts = record {
  first = λ tag entry at. absurd (no_entry tag entry (sym (ap (λ (m : Entries). finite.get m tag) empty) ∙ at));
  many = ap (λ (m : Entries). finite.len m) empty ∙ len-empty tag_cmp Entry;
  counts_are = counts;
}
  where
    no_entry : (tag : Tag) (entry : Entry) → finite.get {X = Entry} {R = tag_cmp} finite.empty tag ≡ Some entry → ⊥
    no_entry tag entry at = let none = get-empty {X = Entry} tag_cmp tag in absurd (cc)

-- the virtual machine of a stage 1 entry
abbrev machine_of : Tag → ℕ
machine_of (S1 vmid scope page span) = vmid
machine_of other = 0

absent : (n : ℕ) (entries : Entries) → HoldsFirst n entries → finite.get entries (tag_of n) ≡ None
absent n entries first = by_get (finite.get entries (tag_of n)) refl
  where
    by_get : (found : Option Entry) → finite.get entries (tag_of n) ≡ found → found ≡ None
    by_get None is = refl
    by_get (Some entry) is =
        let f = first (tag_of n) entry is in
        let same : n ≡ f.sender = ap machine_of f.tag_is in
        let known = f.known in
        absurd (omega (arith, same, known))

is_equal : (o : Ordering) → is_eq o ≡ true → o ≡ Equal
is_equal Less is = absurd (cc)
is_equal Equal is = refl
is_equal Greater is = absurd (cc)

some_entry : (a b : Entry) → Some a ≡ Some b → a ≡ b
some_entry a b is = cc

-- what one changed place of a map has
at_changed : (b : Bool) (w old : Option Entry) (e : Entry) → cond b w old ≡ Some e → ((b ≡ true) × (w ≡ Some e)) ⊎ (old ≡ Some e)
at_changed true w old e is = inl (refl, is)
at_changed false w old e is = inr is

-- one more of them
module _ (n value : ℕ) (same : value ≡ n) (unit : UnitValue) (was : IsFilled n unit) where
  abbrev entry : Entry
  entry = record { tag = tag_of n; value = value; born = taken unit.counts }

  born_is : taken unit.counts ≡ 0
  born_is = ap taken was.counts_are

  its_own : IsFirstEntry (n + 1) (tag_of n) entry
  its_own = record { sender = n; known = omega arith; tag_is = refl; value_is = same; born_is = born_is }

  longer : (tag : Tag) (e : Entry) → IsFirstEntry n tag e → IsFirstEntry (n + 1) tag e
  longer tag e f = record { sender = f.sender; known = (let k = f.known in omega (arith, k)); tag_is = f.tag_is; value_is = f.value_is; born_is = f.born_is }

  holds : HoldsFirst (n + 1) (filled (tag_of n) value unit)
  holds tag e at =
      ⊎_elim
      (λ (own : (eq_by_cmp tag_cmp tag (tag_of n) ≡ true) × (Some entry ≡ Some e)).
      let here : tag ≡ tag_of n = tag_cmp_exact tag (tag_of n) (is_equal (tag_cmp tag (tag_of n)) own.0) in
      subst (λ (x : Tag × Entry). IsFirstEntry (n + 1) x.0 x.1) (λ k. (sym here k, some_entry entry e own.1 k)) its_own)
      (λ (old : finite.get unit.caches.entries tag ≡ Some e). longer tag e (was.first tag e old))
      (at_changed (eq_by_cmp tag_cmp tag (tag_of n)) (Some entry) (finite.get unit.caches.entries tag) e
      (sym (get-insert tag_cmp_total unit.caches.entries (tag_of n) entry tag) ∙ at))

  many : finite.len (filled (tag_of n) value unit) ≡ n + 1
  many =
      len-insert tag_cmp_total unit.caches.entries (tag_of n) entry
      ∙ ap (λ (o : Option Entry). cond (is_some o) (finite.len unit.caches.entries) (finite.len unit.caches.entries + 1)) (absent n unit.caches.entries was.first)
      ∙ ap (λ (m : ℕ). m + 1) was.many

  pub one_more_filled : (new : UnitValue) → new ≡ with_entries unit (filled (tag_of n) value unit) → IsFilled (n + 1) new
  one_more_filled new is = subst (IsFilled (n + 1)) (sym is) (record { first = holds; many = many; counts_are = was.counts_are })
