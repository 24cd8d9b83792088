-- What is left of a range during a walk along it.
use Rattle.std.proofs.Common.{◌≡◌, Bool, true, false, not, cond, IsSome, Option, Some, None, refl, sym, ◌∙◌, ap, subst, List, [], ◌∷◌, All}
use Rattle.std.specs.declared.cmp.Ordering.{Ordering}
use Rattle.std.specs.declared.cmp.Ordering.TheVariants.{Less, Equal, Greater}
use Rattle.std.specs.declared.ops.Bound.{Bound}
use Rattle.std.specs.declared.ops.Bound.TheVariants.{Excluded, Unbounded}
use Rattle.std.specs.Ordering.{is_eq, is_gt, is_ge, is_le, ordering_reverse}
use Rattle.std.specs.Cmp.{IsTotalOrder}
use Rattle.std.specs.List.{AllByRecursion, filter}
use Rattle.std.specs.List.Sorted.{IsStrictlySortedBy}
use Rattle.std.specs.Map.{keys_of, lookup}
use Rattle.std.specs.BTreeMap.{BTreeMap, get, is_at, IsOrdered}
use Rattle.std.specs.BTreeMap.Range.{is_from_start, range_contains, entries_between, IsEntryInRange}
use Rattle.std.proofs.lemmas.List.Elements.{All-head, All-tail}
use Rattle.std.proofs.lemmas.List.Kept.{IsStrictlySortedBy-filter}
use Rattle.std.proofs.lemmas.Map.Entries.{lookup-filter-keys}
use Rattle.std.proofs.lemmas.Map.Keys.{sorted_head, sorted_tail}
use Rattle.std.proofs.lemmas.Map.Views.{range_contains-from_IsInRange}
use Rattle.caches.specs.Sweep.{IsNextKey}
use Rattle.caches.proofs.Sweeping.{both_true, left_true, right_true, none_of, lt_is, from_up, not_from}

-- the keys that pass a test, of the entries that pass it
keys_filter : {K X : Type 0} (t : K → Bool) (es : List (K × X)) → keys_of (filter (λ e. t e.0) es) ≡ filter t (keys_of es)
keys_filter t [] = refl
keys_filter t (e ∷ es) = elim (t e.0) as (λ b. keys_of (cond b (e ∷ filter (λ e. t e.0) es) (filter (λ e. t e.0) es)) ≡ cond b (e.0 ∷ filter t (keys_of es)) (filter t (keys_of es))) [
  | true ↦ ap (λ ks. e.0 ∷ ks) (keys_filter t es)
  | false ↦ keys_filter t es
]

pub at_is : (r : Ordering) → is_eq r ≡ true → r ≡ Equal
at_is Less e = cc
at_is Equal e = refl
at_is Greater e = cc

less_past : (r : Ordering) → r ≡ Less → is_ge r ≡ true → ⊥
less_past Less e g = cc
less_past Equal e g = cc
less_past Greater e g = cc

before_is : (r : Ordering) → is_ge r ≡ false → r ≡ Less
before_is Less e = refl
before_is Equal e = cc
before_is Greater e = cc

pub none_some : {X : Type 0} (o : Option X) → o ≡ None → IsSome o → ⊥
none_some None e s = cc
none_some (Some x) e s = cc

module _ {K X : Type 0} (R : K → K → Ordering) (p : K → Bool) (m : BTreeMap K X) (lo hi : Bound K) where
  -- t is what is left: entries of the range, which has no others that pass the test.
  pub record IsRest (t : List (K × X)) : Type 0 where
    pub sorted : IsStrictlySortedBy R (keys_of t)
    pub among : All (IsEntryInRange R lo hi m) t
    pub left : (q : K) → range_contains R lo hi q ≡ true → p q ≡ true → get R m q ≡ lookup (is_at (R q)) t

  module _ (o : IsTotalOrder R) (exact : (x y : K) → R x y ≡ Equal → x ≡ y) where
    pub rest_start : (t : List (K × X)) → t ≡ entries_between R lo hi m.entries → IsOrdered R m → All (IsEntryInRange R lo hi m) t → IsRest t
    rest_start t is ordered among = record {
      sorted = subst (λ ks. IsStrictlySortedBy R ks) (sym (ap keys_of is ∙ keys_filter (range_contains R lo hi) m.entries)) (IsStrictlySortedBy-filter R (range_contains R lo hi) (keys_of m.entries) ordered);
      among = among;
      left = λ q inside passes. sym (ap (lookup (is_at (R q))) is
          ∙ lookup-filter-keys (is_at (R q)) (range_contains R lo hi) true (λ k at. subst (λ x. range_contains R lo hi x ≡ true) (exact q k (at_is _ at)) inside) m.entries);
    }

    pub rest_more : (e : K × X) (t : List (K × X)) → IsRest (e ∷ t) → p e.0 ≡ false → IsRest t
    rest_more e t h lacks = record {
      sorted = sorted_tail R e.0 (keys_of t) h.sorted;
      among = All-tail (IsEntryInRange R lo hi m) e t h.among;
      left = λ q inside passes. h.left q inside passes ∙ elim (is_at (R q) e.0) as (λ b. is_at (R q) e.0 ≡ b → cond b (Some e.1) (lookup (is_at (R q)) t) ≡ lookup (is_at (R q)) t) [
        | true ↦ λ at. let same : q ≡ e.0 = exact q e.0 (at_is _ at) in let bad : true ≡ false = sym passes ∙ ap p same ∙ lacks in cc
        | false ↦ λ at. refl
      ] refl;
    }

    -- Every key of the rest is after the first.
    behind : (k q : K) (t : List (K × X)) → AllByRecursion (λ y. R k y ≡ Less) (keys_of t) → IsSome (lookup (is_at (R q)) t) → R k q ≡ Less
    behind k q [] h s = cc
    behind k q (e ∷ t) h s = elim (is_at (R q) e.0) as (λ b. is_at (R q) e.0 ≡ b → IsSome (cond b (Some e.1) (lookup (is_at (R q)) t)) → R k q ≡ Less) [
      | true ↦ λ at _. subst (λ x. R k x ≡ Less) (sym (exact q e.0 (at_is _ at))) h.0
      | false ↦ λ at more. behind k q t h.1 more
    ] refl s

    pub rest_found : (e : K × X) (t : List (K × X)) → IsRest (e ∷ t) → p e.0 ≡ true → IsNextKey R p m lo hi e.0
    rest_found e t h passed =
        let here = All-head (IsEntryInRange R lo hi m) e t h.among in
        record {
          within = range_contains-from_IsInRange o lo hi e.0 here.0;
          passes = passed;
          there = subst (λ x. IsSome x) (sym here.1) refl;
          least = λ q inside passes some.
              let there : IsSome (lookup (is_at (R q)) (e ∷ t)) = subst (λ x. IsSome x) (h.left q inside passes) some in
              elim (is_at (R q) e.0) as (λ b. is_at (R q) e.0 ≡ b → IsSome (cond b (Some e.1) (lookup (is_at (R q)) t)) → is_gt (R e.0 q) ≡ false) [
                | true ↦ λ at _. ap is_gt (o.antisymm e.0 q ∙ ap ordering_reverse (at_is _ at))
                | false ↦ λ at more. ap is_gt (behind e.0 q t (sorted_head R e.0 (keys_of t) h.sorted) more)
              ] refl there;
        }

    pub rest_none : IsRest [] → (q : K) → range_contains R lo hi q ≡ true → p q ≡ true → get R m q ≡ None
    rest_none h q inside passes = h.left q inside passes

module _ {K X : Type 0} (R : K → K → Ordering) (p : K → Bool) (m : BTreeMap K X) (lo : Bound K) (o : IsTotalOrder R) (exact : (x y : K) → R x y ≡ Equal → x ≡ y) where
  -- none of these entries, which are in order, is before the end
  abbrev pub IsPast : K → List (K × X) → Type 0
  IsPast end [] = Unit {0}
  IsPast end (e ∷ t) = is_ge (R e.0 end) ≡ true

  none_before : (end q : K) (t : List (K × X)) → IsStrictlySortedBy R (keys_of t) → IsPast end t → R q end ≡ Less → lookup (is_at (R q)) t ≡ None
  none_before end q [] s past less = refl
  none_before end q (e ∷ t) s past less =
      none_of _ (λ some. elim (is_at (R q) e.0) as (λ b. is_at (R q) e.0 ≡ b → IsSome (cond b (Some e.1) (lookup (is_at (R q)) t)) → ⊥) [
        | true ↦ λ at _. less_past (R e.0 end) (subst (λ x. R x end ≡ Less) (exact q e.0 (at_is _ at)) less) past
        | false ↦ λ at more. less_past (R e.0 end) (o.trans e.0 q end (behind R p m lo Unbounded o exact e.0 q t (sorted_head R e.0 (keys_of t) s) more) less) past
      ] refl some)

  -- If the rest begins past the end, nothing is left before it.
  pub rest_past : (end : K) (t : List (K × X)) → IsRest R p m lo Unbounded t → IsPast end t → (q : K) → range_contains R lo (Excluded end) q ≡ true → p q ≡ true → get R m q ≡ None
  rest_past end t h past q inside passes = h.left q (both_true _ _ (left_true _ _ inside) refl) passes ∙ none_before end q t h.sorted past (not_from o end q (right_true _ _ inside))

  pub rest_next : (end : K) (e : K × X) (t : List (K × X)) → IsRest R p m lo Unbounded (e ∷ t) → is_ge (R e.0 end) ≡ false → p e.0 ≡ true → IsNextKey R p m lo (Excluded end) e.0
  rest_next end e t h before passed =
      let found = rest_found R p m lo Unbounded o exact e t h passed in
      record {
        within = both_true _ _ (left_true _ _ found.within) (ap (λ r. not (is_le r)) (o.antisymm end e.0 ∙ ap ordering_reverse (before_is _ before)));
        passes = found.passes;
        there = found.there;
        least = λ q inside. found.least q (both_true _ _ (left_true _ _ inside) refl);
      }

  -- Nothing comes between an entry and the end if what follows it is past the end.
  pub rest_last : (end : K) (e : K × X) (t : List (K × X)) → IsRest R p m lo Unbounded (e ∷ t) → IsPast end t → (q : K) → range_contains R (Excluded e.0) (Excluded end) q ≡ true → p q ≡ true → get R m q ≡ None
  rest_last end e t h past q inside passes =
      let here = All-head (IsEntryInRange R lo Unbounded m) e t h.among in
      let less : R e.0 q ≡ Less = lt_is _ (left_true _ _ inside) in
      let start : is_from_start R lo q ≡ true = from_up o lo e.0 q (left_true _ _ (range_contains-from_IsInRange o lo Unbounded e.0 here.0)) less in
      h.left q (both_true _ _ start refl) passes
      ∙ ap (λ r. cond (is_eq r) (Some e.1) (lookup (is_at (R q)) t)) (o.antisymm q e.0 ∙ ap ordering_reverse less)
      ∙ none_before end q t (sorted_tail R e.0 (keys_of t) h.sorted) past (not_from o end q (right_true _ _ inside))
