-- Entries sorted by tag are those of the finite map, in its own order.
use Rattle.std.proofs.Common.{◌≡◌, ℕ, ◌+◌, ◌<◌, Bool, true, false, not, T, ◌&&◌, cond, Option, Some, None, refl, sym, ◌∙◌, ap, subst, List, [], ◌∷◌, length, arith, All}
use Rattle.std.specs.Prelude.{map}
use Rattle.std.specs.List.{AllByRecursion, IsDistinct, filter, slice_index_or}
use Rattle.std.specs.List.Sorted.{IsPermutation, IsSortedByKey, IsStrictlySortedBy}
use Rattle.std.specs.declared.cmp.Ordering.{Ordering}
use Rattle.std.specs.declared.cmp.Ordering.TheVariants.{Less, Equal, Greater}
use Rattle.std.specs.Ordering.{eq_by_cmp, is_eq, is_lt, ordering_reverse}
use Rattle.std.specs.Cmp.{IsTotalOrder, eq_by_cmp_equiv, Equal-is}
use Rattle.std.specs.Map.{lookup, keys_of}
use Rattle.std.specs.BTreeMap.{BTreeMap, get}
use Rattle.std.specs.FinMap as finite
use Rattle.std.specs.FinMap.{IsAntisymmetric, find, is_sorted, same_map, get-entries, get-from_entries, get-from_sorted, entries-from_sorted}
use Rattle.std.specs.FinMap.Entries.{below_all}
use Rattle.std.proofs.lemmas.List.{length-map, get_or-map}
use Rattle.std.proofs.lemmas.List.Elements.{All-filter, All-head, All-tail, Contains-get_or}
use Rattle.std.proofs.lemmas.List.Sorted.{IsPermutation-sym, IsPermutation-map, Contains-permutation}
use Rattle.std.proofs.lemmas.Map.Keys.{IsDistinct-head, IsDistinct-tail, IsDistinct-cons, IsDistinct-IsPermutation, IsDistinct-from_sorted, apart_from_distinct, sorted_from_all_adjacent, sorted_head, sorted_tail}
use Rattle.std.proofs.lemmas.Map.Views.{Contains-from_lookup, lookup-from_Contains}
use Rattle.caches.specs.declared.tag.Tag.{Tag}
use Rattle.caches.specs.declared.tag.Entry.{Entry}
use Rattle.caches.specs.declared.key.Key.{Key}
use Rattle.caches.specs.Keys.{key_of, tag_of}
use Rattle.caches.specs.TagOrder.{tag_cmp, tag_cmp_total, tag_cmp_exact}
use Rattle.caches.specs.Unlisted.{tagged, is_listed, unlisted}
use Rattle.caches.specs.Held.{Entries}
use Rattle.caches.proofs.KeyOrder.{key_cmp, key_total}
use Rattle.caches.proofs.Kept.{distinct_sorted, find_lookup}
use Rattle.caches.proofs.Pruned.{none_either, some_was}
use Rattle.caches.proofs.Viewed.{same_key, key_back, tag_back, same_option, find_tagged, get_unlisted}

both : (a b : Bool) → T a → T b → T (a && b)
both true b p q = q
both false b p q = absurd p

-- neither after the next nor equal to it
ahead : (r s : Ordering) → s ≡ ordering_reverse r → is_lt s ≡ false → is_eq r ≡ false → r ≡ Less
ahead Less s e l n = refl
ahead Equal s e l n = cc
ahead Greater s e l n = let t : is_lt s ≡ true = ap is_lt e in cc

module _ {K X : Type 0} (R : K → K → Ordering) where
  all_below : (x : K) (es : List (K × X)) → AllByRecursion (λ y. R x y ≡ Less) (keys_of es) → T (below_all R x es)
  all_below x [] h = tt
  all_below x (e ∷ es) h = both _ _ (subst (λ r. T (is_lt r)) (sym h.0) tt) (all_below x es h.1)

  from_strict : (es : List (K × X)) → IsStrictlySortedBy R (keys_of es) → T (is_sorted R es)
  from_strict [] h = tt
  from_strict (e ∷ es) h = both _ _ (all_below e.0 es (sorted_head R e.0 (keys_of es) h)) (from_strict es (sorted_tail R e.0 (keys_of es) h))

-- ---- a list sorted by tag, without a tag twice
abbrev pub tag_in : Entry → Tag
tag_in e = e.tag

abbrev pub paired : List Entry → List (Tag × Entry)
paired xs = map {B = Tag × Entry} (λ (e : Entry). (e.tag, e)) xs

keys-paired : (xs : List Entry) → keys_of (paired xs) ≡ map tag_in xs
keys-paired [] = refl
keys-paired (x ∷ xs) = ap (λ ts. x.tag ∷ ts) (keys-paired xs)

values-paired : (xs : List Entry) → map (λ (e : Tag × Entry). e.1) (paired xs) ≡ xs
values-paired [] = refl
values-paired (x ∷ xs) = ap (λ ys. x ∷ ys) (values-paired xs)

next_ahead : (xs : List Entry) (e : Entry) → IsSortedByKey tag_in tag_cmp xs → IsDistinct (eq_by_cmp tag_cmp) (map tag_in xs)
    → (k : ℕ) → k + 1 < length (map tag_in xs) → tag_cmp (slice_index_or (map tag_in xs) k e.tag) (slice_index_or (map tag_in xs) (k + 1) e.tag) ≡ Less
next_ahead xs e s d k h =
    let long : k + 1 < length xs = omega (arith, length-map xs tag_in) in
    let here = get_or-map tag_in xs k e e.tag (omega arith) in
    let next = get_or-map tag_in xs (k + 1) e e.tag long in
    let risen = ap is_lt (ap (tag_cmp _) here ∙ ap (λ t. tag_cmp t (slice_index_or xs k e).tag) next) ∙ s k e (omega arith) long in
    ahead _ _ (tag_cmp_total.antisymm (slice_index_or (map tag_in xs) (k + 1) e.tag) (slice_index_or (map tag_in xs) k e.tag)) risen (apart_from_distinct (eq_by_cmp tag_cmp) (map tag_in xs) k (k + 1) e.tag d (omega arith) h)

strictly : (xs : List Entry) → IsSortedByKey tag_in tag_cmp xs → IsDistinct (eq_by_cmp tag_cmp) (map tag_in xs) → IsStrictlySortedBy tag_cmp (map tag_in xs)
unfolding IsStrictlySortedBy
strictly [] s d = tt
strictly (x ∷ xs) s d = sorted_from_all_adjacent tag_cmp_total (map tag_in (x ∷ xs)) x.tag (next_ahead (x ∷ xs) x s d)

-- ---- a list sorted by key is that of the finite map
module _ {K X : Type 0} {R : K → K → Ordering} (o : IsTotalOrder R) (exact : IsAntisymmetric R) where
  moved : (es xs : List (K × X)) → IsPermutation es xs → IsDistinct (eq_by_cmp R) (keys_of xs) → (q : K) (v : X) → lookup (eq_by_cmp R q) es ≡ Some v → lookup (eq_by_cmp R q) xs ≡ Some v
  moved es xs p d q v e = lookup-from_Contains (eq_by_cmp_equiv o) q v xs d (Contains-permutation es xs (q, v) p (Contains-from_lookup (λ x y h. exact x y ((Equal-is (R x y)).0 h)) q v es e))

  sorted_list : (es xs : List (K × X)) → IsPermutation es xs → T (is_sorted R xs) → finite.entries (finite.from_entries {R = R} es) ≡ xs
  sorted_list es xs p s =
      let d = distinct_sorted R xs s in
      let back = IsPermutation-sym es xs p in
      let keys = IsPermutation-map (λ (e : K × X). e.0) xs es back in
      let c = IsDistinct-IsPermutation (eq_by_cmp R) ((eq_by_cmp_equiv o).symm) (keys_of xs) (keys_of es) keys d in
      let alike : (q : K) → find R q es ≡ find R q xs = λ q. find_lookup R q es ∙ same_option _ _ (moved es xs p d q) (moved xs es back c q) ∙ sym (find_lookup R q xs) in
      ap finite.entries (same_map o exact (finite.from_entries es) (finite.from_sorted xs) (λ q. get-from_entries o es q ∙ alike q ∙ sym (get-from_sorted R xs q s))) ∙ entries-from_sorted R xs s

-- ---- the entries of the map
pub found : (es : List (Key × Entry)) → IsDistinct (eq_by_cmp key_cmp) (keys_of es) → All (λ (e : Key × Entry). lookup (eq_by_cmp key_cmp e.0) es ≡ Some e.1) es
found es d = λ k e h. let here : Key × Entry = slice_index_or es k e in lookup-from_Contains (eq_by_cmp_equiv key_total) here.0 here.1 es d (Contains-get_or es k e h)

own_tags : (es : List (Key × Entry)) → All (λ (e : Key × Entry). e.1.tag ≡ tag_of e.0) es → tagged es ≡ paired (map (λ (e : Key × Entry). e.1) es)
own_tags [] h = refl
own_tags (e ∷ es) h =
    let first : e.1.tag ≡ tag_of e.0 = All-head (λ (e : Key × Entry). e.1.tag ≡ tag_of e.0) e es h in
    let rest = own_tags es (All-tail (λ (e : Key × Entry). e.1.tag ≡ tag_of e.0) e es h) in
    ap (λ t. (t, e.1) ∷ tagged es) (sym first) ∙ ap (λ ts. (e.1.tag, e.1) ∷ ts) rest

pub distinct_tags : (es : List (Key × Entry)) → IsDistinct (eq_by_cmp key_cmp) (keys_of es) → IsDistinct (eq_by_cmp tag_cmp) (keys_of (tagged es))
unfolding IsDistinct
distinct_tags [] d = tt
distinct_tags (e ∷ es) d = IsDistinct-cons (eq_by_cmp tag_cmp) (tag_of e.0) (keys_of (tagged es)) (apart e.0 es (IsDistinct-head (eq_by_cmp key_cmp) e.0 (keys_of es) d)) (distinct_tags es (IsDistinct-tail (eq_by_cmp key_cmp) e.0 (keys_of es) d))
  where
    apart : (k : Key) (es : List (Key × Entry)) → AllByRecursion (λ y. eq_by_cmp key_cmp k y ≡ false) (keys_of es) → AllByRecursion (λ y. eq_by_cmp tag_cmp (tag_of k) y ≡ false) (keys_of (tagged es))
    apart k [] h = tt
    apart k (e ∷ es) h = (same_key (tag_of k) e.0 ∙ ap (λ q. eq_by_cmp key_cmp q e.0) (key_back k) ∙ h.0, apart k es h.1)

in_order : (es : List (Key × Entry)) (xs : List Entry) → IsDistinct (eq_by_cmp key_cmp) (keys_of es) → All (λ (e : Key × Entry). e.1.tag ≡ tag_of e.0) es
    → IsPermutation (map (λ (e : Key × Entry). e.1) es) xs → IsSortedByKey tag_in tag_cmp xs → finite.values (finite.from_entries {R = tag_cmp} (tagged es)) ≡ xs
in_order es xs d own p s =
    let apart : IsDistinct (eq_by_cmp tag_cmp) (keys_of (tagged es)) = distinct_tags es d in
    let same : tagged es ≡ paired (map (λ (e : Key × Entry). e.1) es) = own_tags es own in
    let pairs : IsPermutation (tagged es) (paired xs) = subst (λ ts. IsPermutation ts (paired xs)) (sym same) (IsPermutation-map (λ (e : Entry). (e.tag, e)) _ xs p) in
    let keys : IsPermutation (keys_of (tagged es)) (keys_of (paired xs)) = IsPermutation-map (λ (e : Tag × Entry). e.0) (tagged es) (paired xs) pairs in
    let distinct : IsDistinct (eq_by_cmp tag_cmp) (keys_of (paired xs)) = IsDistinct-IsPermutation (eq_by_cmp tag_cmp) ((eq_by_cmp_equiv tag_cmp_total).symm) _ _ keys apart in
    let strict : IsStrictlySortedBy tag_cmp (keys_of (paired xs)) = subst (IsStrictlySortedBy tag_cmp) (sym (keys-paired xs)) (strictly xs s (subst (IsDistinct (eq_by_cmp tag_cmp)) (keys-paired xs) distinct)) in
    ap (map (λ (e : Tag × Entry). e.1)) (sorted_list tag_cmp_total tag_cmp_exact (tagged es) (paired xs) pairs (from_strict tag_cmp (paired xs) strict)) ∙ values-paired xs

-- ---- the entries but the listed ones
module _ (p : Key × Entry → Bool) where
  apart_filtered : (k : Key) (es : List (Key × Entry)) → AllByRecursion (λ y. eq_by_cmp key_cmp k y ≡ false) (keys_of es) → AllByRecursion (λ y. eq_by_cmp key_cmp k y ≡ false) (keys_of (filter p es))
  apart_filtered k [] h = tt
  apart_filtered k (e ∷ es) h = elim (p e) as (λ b. AllByRecursion (λ y. eq_by_cmp key_cmp k y ≡ false) (keys_of (cond b (e ∷ filter p es) (filter p es)))) [
    | true ↦ (h.0, apart_filtered k es h.1)
    | false ↦ apart_filtered k es h.1
  ]

  distinct_filtered : (es : List (Key × Entry)) → IsDistinct (eq_by_cmp key_cmp) (keys_of es) → IsDistinct (eq_by_cmp key_cmp) (keys_of (filter p es))
  unfolding IsDistinct
  distinct_filtered [] d = tt
  distinct_filtered (e ∷ es) d =
      let rest = distinct_filtered es (IsDistinct-tail (eq_by_cmp key_cmp) e.0 (keys_of es) d) in
      elim (p e) as (λ b. IsDistinct (eq_by_cmp key_cmp) (keys_of (cond b (e ∷ filter p es) (filter p es)))) [
        | true ↦ IsDistinct-cons (eq_by_cmp key_cmp) e.0 (keys_of (filter p es)) (apart_filtered e.0 es (IsDistinct-head (eq_by_cmp key_cmp) e.0 (keys_of es) d)) rest
        | false ↦ rest
      ]

module _ (ks : List Key) where
  abbrev stays : Key × Entry → Bool
  stays e = not (is_listed ks (tag_of e.0))

  abbrev stays_by_tag : Entry → Bool
  stays_by_tag e = not (is_listed ks e.tag)

  find_filtered : (t : Tag) (es : List (Key × Entry)) → find tag_cmp t (tagged (filter stays es)) ≡ cond (is_listed ks t) None (find tag_cmp t (tagged es))
  find_filtered t [] = sym (none_either (is_listed ks t) None refl)
  find_filtered t (e ∷ es) =
      let kept : Bool → Option Entry = λ l. find tag_cmp t (tagged (cond (not l) (e ∷ filter stays es) (filter stays es))) in
      elim (eq_by_cmp tag_cmp t (tag_of e.0)) as (λ b. eq_by_cmp tag_cmp t (tag_of e.0) ≡ b → kept (is_listed ks (tag_of e.0)) ≡ cond (is_listed ks t) None (cond b (Some e.1) (find tag_cmp t (tagged es)))) [
        | true ↦ λ at.
            let same : is_listed ks t ≡ is_listed ks (tag_of e.0) = ap (is_listed ks) (tag_cmp_exact t (tag_of e.0) ((Equal-is (tag_cmp t (tag_of e.0))).0 at)) in
            elim (is_listed ks (tag_of e.0)) as (λ l. is_listed ks (tag_of e.0) ≡ l → kept l ≡ cond (is_listed ks t) None (Some e.1)) [
              | true ↦ λ y. find_filtered t es ∙ ap (λ l. cond l None (find tag_cmp t (tagged es))) (same ∙ y) ∙ sym (ap (λ l. cond l None (Some e.1)) (same ∙ y))
              | false ↦ λ n. ap (λ b. cond b (Some e.1) (find tag_cmp t (tagged (filter stays es)))) at ∙ sym (ap (λ l. cond l None (Some e.1)) (same ∙ n))
            ] refl
        | false ↦ λ off. elim (is_listed ks (tag_of e.0)) as (λ l. kept l ≡ cond (is_listed ks t) None (find tag_cmp t (tagged es))) [
          | true ↦ find_filtered t es
          | false ↦ ap (λ b. cond b (Some e.1) (find tag_cmp t (tagged (filter stays es)))) off ∙ find_filtered t es
        ]
      ] refl

  values_filtered : (es : List (Key × Entry)) → All (λ (e : Key × Entry). e.1.tag ≡ tag_of e.0) es → map (λ (e : Key × Entry). e.1) (filter stays es) ≡ filter stays_by_tag (map (λ (e : Key × Entry). e.1) es)
  values_filtered [] h = refl
  values_filtered (e ∷ es) h =
      let rest = values_filtered es (All-tail (λ (e : Key × Entry). e.1.tag ≡ tag_of e.0) e es h) in
      let others : List Entry = filter stays_by_tag (map (λ (e : Key × Entry). e.1) es) in
      elim (is_listed ks (tag_of e.0)) as (λ l. map (λ (e : Key × Entry). e.1) (cond (not l) (e ∷ filter stays es) (filter stays es)) ≡ cond (not l) (e.1 ∷ others) others) [
        | true ↦ rest
        | false ↦ ap (λ ys. e.1 ∷ ys) rest
      ] ∙ ap (λ u. cond (not (is_listed ks u)) (e.1 ∷ others) others) (sym (All-head (λ (e : Key × Entry). e.1.tag ≡ tag_of e.0) e es h))

abbrev pub AreOwn : BTreeMap Key Entry → Type 0
AreOwn m = (key : Key) (entry : Entry) → get key_cmp m key ≡ Some entry → entry.tag ≡ tag_of key

pub all_own : (m : BTreeMap Key Entry) → AreOwn m → IsDistinct (eq_by_cmp key_cmp) (keys_of m.entries) → All (λ (e : Key × Entry). e.1.tag ≡ tag_of e.0) m.entries
all_own m own d = λ k e lt. let here : Key × Entry = slice_index_or m.entries k e in own here.0 here.1 (found m.entries d k e lt)

pub unlisted_in_order : (m : BTreeMap Key Entry) (ks : List Key) (xs : List Entry) → IsStrictlySortedBy key_cmp (keys_of m.entries) → AreOwn m
    → IsPermutation (filter (λ (e : Entry). not (is_listed ks e.tag)) (map (λ (e : Key × Entry). e.1) m.entries)) xs → IsSortedByKey tag_in tag_cmp xs → finite.values (unlisted m ks) ≡ xs
unlisted_in_order m ks xs o own p s =
    let d = IsDistinct-from_sorted key_cmp (keys_of m.entries) o in
    let all = all_own m own d in
    let es : List (Key × Entry) = filter (stays ks) m.entries in
    let same : unlisted m ks ≡ finite.from_entries (tagged es) = same_map tag_cmp_total tag_cmp_exact _ _ (λ t. get_unlisted m ks t ∙ ap (cond (is_listed ks t) None) (sym (find_tagged t m.entries)) ∙ sym (find_filtered ks t m.entries) ∙ sym (get-from_entries tag_cmp_total (tagged es) t)) in
    ap finite.values same ∙ in_order es xs (distinct_filtered (stays ks) m.entries d) (All-filter (stays ks) (λ (e : Key × Entry). e.1.tag ≡ tag_of e.0) m.entries all) (subst (λ ys. IsPermutation ys xs) (sym (values_filtered ks m.entries all)) p) s

-- Each entry has the tag under which it is.
pub unlisted_own : (m : BTreeMap Key Entry) (ks : List Key) → AreOwn m → (t : Tag) (e : Entry) → finite.get (unlisted m ks) t ≡ Some e → e.tag ≡ t
unlisted_own m ks own t e is = own (key_of t) e (some_was (is_listed ks t) _ e (sym (get_unlisted m ks t) ∙ is)) ∙ tag_back t

-- And it is found under it.
pub values_own : (m : Entries) → ((t : Tag) (e : Entry) → finite.get m t ≡ Some e → e.tag ≡ t) → All (λ (e : Entry). finite.get m e.tag ≡ Some e) (finite.values m)
values_own m own = λ k e lt.
    let es : List (Tag × Entry) = finite.entries m in
    let there : k < length es = omega (arith, length-map es (λ (p : Tag × Entry). p.1), lt) in
    let here : Tag × Entry = slice_index_or es k (e.tag, e) in
    let at = get_or-map (λ (p : Tag × Entry). p.1) es k (e.tag, e) e there in
    let found : finite.get m here.0 ≡ Some here.1 =
    get-entries m here.0 ∙ find_lookup tag_cmp here.0 es
    ∙ lookup-from_Contains (eq_by_cmp_equiv tag_cmp_total) here.0 here.1 es (distinct_sorted tag_cmp es (finite.entries_sorted m)) (Contains-get_or es k (e.tag, e) there) in
    let kept : finite.get m here.1.tag ≡ Some here.1 = ap (finite.get m) (own here.0 here.1 found) ∙ found in
    subst (λ (x : Entry). finite.get m x.tag ≡ Some x) (sym at) kept
