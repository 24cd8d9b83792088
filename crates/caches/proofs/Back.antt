-- What is left of a range during a walk back along it.
use Rattle.std.proofs.Common.{◌≡◌, Bool, true, false, not, cond, Some, None, refl, sym, ◌∙◌, ap, subst, List, [], ◌∷◌, ◌++◌, ◌+◌, All, length, arith}
use Rattle.std.proofs.Math.Seq.{get_or-append_seam}
use Rattle.std.proofs.lemmas.List.{get_or_append_left, length-append}
use Rattle.std.specs.declared.cmp.Ordering.{Ordering}
use Rattle.std.specs.declared.cmp.Ordering.TheVariants.{Less, Equal}
use Rattle.std.specs.declared.ops.Bound.TheVariants.{Excluded, Unbounded}
use Rattle.std.specs.Ordering.{is_eq, is_le, ordering_reverse}
use Rattle.std.specs.Cmp.{IsTotalOrder}
use Rattle.std.specs.List.{AllByRecursion}
use Rattle.std.specs.List.Sorted.{IsStrictlySortedBy}
use Rattle.std.specs.Map.{keys_of, lookup}
use Rattle.std.specs.BTreeMap.{BTreeMap, get, is_at}
use Rattle.std.specs.BTreeMap.Range.{IsEntryInRange}
use Rattle.std.proofs.lemmas.Map.Keys.{sorted_head, sorted_tail}
use Rattle.caches.proofs.Rest.{IsRest, at_is}

module _ {K : Type 0} (R : K → K → Ordering) (o : IsTotalOrder R) where
  apart : (q k : K) → R k q ≡ Less → is_at (R q) k ≡ false
  apart q k l = ap is_eq (o.antisymm q k ∙ ap ordering_reverse l)

  before_end : (q end : K) → R q end ≡ Less → not (is_le (R end q)) ≡ true
  before_end q end l = ap (λ r. not (is_le r)) (o.antisymm end q ∙ ap ordering_reverse l)

-- What holds of all holds of the last, and of all before it.
all_ends : {A : Type 0} (P : A → Type 0) (t : List A) (e : A) → All P (t ++ e ∷ []) → All P t × P e
all_ends P t e h =
    let long : length (t ++ e ∷ []) ≡ length t + 1 = length-append t (e ∷ []) in
    (λ k d within. subst P (get_or_append_left t (e ∷ []) d k within) (h k d (omega (arith, long))), subst P (get_or-append_seam t e [] e) (h (length t) e (omega (arith, long))))

module _ {K X : Type 0} (R : K → K → Ordering) where
  -- Each key is before the last.
  all_front : (P : K → Type 0) (t : List (K × X)) (e : K × X) → AllByRecursion P (keys_of (t ++ e ∷ [])) → AllByRecursion P (keys_of t) × P e.0
  all_front P [] e h = (tt, h.0)
  all_front P (x ∷ t) e h = let rest = all_front P t e h.1 in ((h.0, rest.0), rest.1)

  sorted_front : (t : List (K × X)) (e : K × X) → IsStrictlySortedBy R (keys_of (t ++ e ∷ [])) → IsStrictlySortedBy R (keys_of t)
  unfolding IsStrictlySortedBy
  sorted_front [] e h = tt
  sorted_front (x ∷ t) e h = ((all_front (λ y. R x.0 y ≡ Less) t e h.0).0, sorted_front t e h.1)

  look_front : (t : List (K × X)) (e : K × X) (q : K) → is_at (R q) e.0 ≡ false → lookup (is_at (R q)) (t ++ e ∷ []) ≡ lookup (is_at (R q)) t
  look_front [] e q apart = ap (λ b. cond b (Some e.1) None) apart
  look_front (x ∷ t) e q apart = ap (cond (is_at (R q) x.0) (Some x.1)) (look_front t e q apart)

  -- No key is after the last.
  none_after : (o : IsTotalOrder R) (t : List (K × X)) (e : K × X) (q : K) → IsStrictlySortedBy R (keys_of (t ++ e ∷ [])) → R e.0 q ≡ Less → lookup (is_at (R q)) (t ++ e ∷ []) ≡ None
  none_after o [] e q s l = ap (λ b. cond b (Some e.1) None) (apart R o q e.0 l)
  none_after o (x ∷ t) e q s l =
      let less : R x.0 e.0 ≡ Less = (all_front (λ y. R x.0 y ≡ Less) t e (sorted_head R x.0 (keys_of (t ++ e ∷ [])) s)).1 in
      ap (λ b. cond b (Some x.1) (lookup (is_at (R q)) (t ++ e ∷ []))) (apart R o q x.0 (o.trans x.0 e.0 q less l))
      ∙ none_after o t e q (sorted_tail R x.0 (keys_of (t ++ e ∷ [])) s) l

-- what is left of the entries before the end
abbrev pub IsFront : {K X : Type 0} → (K → K → Ordering) → (K → Bool) → BTreeMap K X → K → List (K × X) → Type 0
IsFront R p m end = IsRest R p m Unbounded (Excluded end)

module _ {K X : Type 0} (R : K → K → Ordering) (p : K → Bool) (m : BTreeMap K X) (end : K) (o : IsTotalOrder R) (exact : (x y : K) → R x y ≡ Equal → x ≡ y) where
  module _ (t : List (K × X)) (e : K × X) (h : IsFront R p m end (t ++ e ∷ [])) where
    pub last_entry : IsEntryInRange R Unbounded (Excluded end) m e
    last_entry = (all_ends (IsEntryInRange R Unbounded (Excluded end) m) t e h.among).1

    pub front_more : p e.0 ≡ false → IsFront R p m end t
    front_more lacks = record {
      sorted = sorted_front R t e h.sorted;
      among = (all_ends (IsEntryInRange R Unbounded (Excluded end) m) t e h.among).0;
      left = λ q inside passes. h.left q inside passes ∙ look_front R t e q (elim (is_at (R q) e.0) as (λ b. is_at (R q) e.0 ≡ b → b ≡ false) [
        | true ↦ λ at. let same : q ≡ e.0 = exact q e.0 (at_is _ at) in let bad : true ≡ false = sym passes ∙ ap p same ∙ lacks in cc
        | false ↦ λ at. refl
      ] refl);
    }

    -- Nothing is left between the last entry and the end.
    pub none_between : (q : K) → R e.0 q ≡ Less → R q end ≡ Less → p q ≡ true → get R m q ≡ None
    none_between q after before passes = h.left q (before_end R o q end before) passes ∙ none_after R o t e q h.sorted after

  pub none_left : IsFront R p m end [] → (q : K) → R q end ≡ Less → p q ≡ true → get R m q ≡ None
  none_left h q before passes = h.left q (before_end R o q end before) passes
