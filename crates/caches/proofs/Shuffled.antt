-- What a test of tags leaves of the entries of a map is the same entries in another order.
use Rattle.std.proofs.Common.{◌≡◌, ◌+◌, ◌<◌, Bool, true, false, not, ◌&&◌, cond, Option, Some, None, refl, sym, ◌∙◌, ap, subst, List, [], ◌∷◌, length, arith, All}
use Rattle.std.specs.Prelude.{map}
use Rattle.std.specs.List.{AllByRecursion, IsDistinct, filter, slice_index_or}
use Rattle.std.specs.List.Sorted.{IsPermutation, IsStrictlySortedBy}
use Rattle.std.specs.declared.cmp.Ordering.{Ordering}
use Rattle.std.specs.Ordering.{eq_by_cmp}
use Rattle.std.specs.Cmp.{IsTotalOrder, eq_by_cmp_equiv}
use Rattle.std.specs.Map.{lookup, keys_of, remove_entry}
use Rattle.std.specs.BTreeMap.{BTreeMap}
use Rattle.std.specs.FinMap as finite
use Rattle.std.specs.FinMap.{FinMap, IsAntisymmetric, find, get-entries, get-from_entries, get-retain_keys, len-entries, entries_sorted}
use Rattle.std.proofs.lemmas.Bool.{cond_both, cond-true}
use Rattle.std.proofs.lemmas.List.{length-map, get_or-map}
use Rattle.std.proofs.lemmas.List.Elements.{All-head, All-tail}
use Rattle.std.proofs.lemmas.List.Filters.{length-filter_both}
use Rattle.std.proofs.lemmas.List.Sorted.{IsPermutation-refl, IsPermutation-sym, IsPermutation-trans, IsPermutation-cons, IsPermutation-swap, IsPermutation-map, All-permutation, length_permutation}
use Rattle.std.proofs.lemmas.Map.{lookup-remove_entry}
use Rattle.std.proofs.lemmas.Map.Entries.{lookup_head, lookup_tail}
use Rattle.std.proofs.lemmas.Map.Keys.{IsDistinct-head, IsDistinct-tail, IsDistinct-cons, IsDistinct-from_sorted}
use Rattle.std.proofs.lemmas.Map.Views.{tells_apart}
use Rattle.cmdcodec.specs.declared.command.Command.{Command}
use Rattle.caches.specs.declared.tag.Tag.{Tag}
use Rattle.caches.specs.declared.tag.Entry.{Entry}
use Rattle.caches.specs.declared.key.Key.{Key}
use Rattle.caches.specs.declared.key.Key.TheVariants.{Configuration}
use Rattle.caches.specs.Blocks.{IsBlock}
use Rattle.caches.specs.Covers.{covers}
use Rattle.caches.specs.Held.{Entries, without_covered, AreOwn}
use Rattle.caches.specs.Keys.{tag_of}
use Rattle.caches.specs.Sweep.{IsKeeping}
use Rattle.caches.specs.TagOrder.{tag_cmp, tag_cmp_total, tag_cmp_exact}
use Rattle.caches.specs.Told.{only_covered, IsCoveredIn}
use Rattle.caches.specs.Unlisted.{tagged, is_listed, unlisted}
use Rattle.caches.proofs.InOrder.{distinct_tags, found, all_own, values_own}
use Rattle.caches.proofs.Kept.{distinct_sorted, find_lookup}
use Rattle.caches.proofs.KeyOrder.{key_cmp}

-- ---- lists with the same look-ups
module _ {K X : Type 0} {R : K → K → Ordering} (o : IsTotalOrder R) (exact : IsAntisymmetric R) where
  all_without : (P : K → Type 0) (test : K → Bool) (es : List (K × X)) → AllByRecursion P (keys_of es) → AllByRecursion P (keys_of (remove_entry test es))
  all_without P test [] a = tt
  all_without P test (e ∷ es) a = cond_both (test e.0) es (e ∷ remove_entry test es) (λ l. AllByRecursion P (keys_of l)) (λ _. a.1) (λ _. (a.0, all_without P test es a.1))

  distinct_without : (test : K → Bool) (es : List (K × X)) → IsDistinct (eq_by_cmp R) (keys_of es) → IsDistinct (eq_by_cmp R) (keys_of (remove_entry test es))
  distinct_without test [] d = d
  distinct_without test (e ∷ es) d =
      let rest = IsDistinct-tail (eq_by_cmp R) e.0 (keys_of es) d in
      cond_both (test e.0) es (e ∷ remove_entry test es) (λ l. IsDistinct (eq_by_cmp R) (keys_of l)) (λ _. rest)
      (λ _. IsDistinct-cons (eq_by_cmp R) e.0 _ (all_without (λ y. eq_by_cmp R e.0 y ≡ false) test es (IsDistinct-head (eq_by_cmp R) e.0 (keys_of es) d)) (distinct_without test es rest))

  same_permutation : (xs ys : List (K × X)) → xs ≡ ys → IsPermutation xs ys
  same_permutation xs ys e = subst (IsPermutation xs) e (IsPermutation-refl xs)

  none_there : (v : X) → Some v ≡ None → ⊥
  none_there v e = cc

  some_same : (v w : X) → Some v ≡ Some w → v ≡ w
  some_same v w e = cc

  pulled : (q : K) (v : X) (es : List (K × X)) → lookup (eq_by_cmp R q) es ≡ Some v → IsPermutation es ((q, v) ∷ remove_entry (eq_by_cmp R q) es)
  pulled q v [] h = absurd (none_there v (sym h))
  pulled q v (e ∷ es) h = elim (eq_by_cmp R q e.0) as (λ b. eq_by_cmp R q e.0 ≡ b → IsPermutation (e ∷ es) ((q, v) ∷ cond b es (e ∷ remove_entry (eq_by_cmp R q) es))) [
    | true ↦ λ at.
        let key : q ≡ e.0 = tells_apart exact q e.0 at in
        let value : v ≡ e.1 = some_same v e.1 (sym h ∙ lookup_head (eq_by_cmp R q) e es at) in
        same_permutation (e ∷ es) ((q, v) ∷ es) (ap (λ k. (k, e.1) ∷ es) (sym key) ∙ ap (λ w. (q, w) ∷ es) (sym value))
    | false ↦ λ off.
        let rest = remove_entry (eq_by_cmp R q) es in
        IsPermutation-trans (e ∷ es) (e ∷ (q, v) ∷ rest) ((q, v) ∷ e ∷ rest) (IsPermutation-cons e _ _ (pulled q v es (sym (lookup_tail (eq_by_cmp R q) e es off) ∙ h)))
        (IsPermutation-swap (e ∷ (q, v) ∷ rest) ((q, v) ∷ e ∷ rest) 0 1 (omega arith) (omega arith) refl)
  ] refl

  pub shuffled : (es fs : List (K × X)) → IsDistinct (eq_by_cmp R) (keys_of es) → IsDistinct (eq_by_cmp R) (keys_of fs) → ((q : K) → lookup (eq_by_cmp R q) es ≡ lookup (eq_by_cmp R q) fs) → IsPermutation es fs
  shuffled [] [] c d h = IsPermutation-refl []
  shuffled [] (y ∷ ys) c d h = absurd (none_there y.1 (sym (h y.0 ∙ lookup_head (eq_by_cmp R y.0) y ys ((eq_by_cmp_equiv o).refl y.0))))
  shuffled (x ∷ xs) fs c d h =
      let k = x.0 in
      let e = eq_by_cmp_equiv o in
      let gone : remove_entry (eq_by_cmp R k) (x ∷ xs) ≡ xs = cond-true (eq_by_cmp R k k) xs (x ∷ remove_entry (eq_by_cmp R k) xs) (e.refl k) in
      let others = shuffled xs (remove_entry (eq_by_cmp R k) fs) (IsDistinct-tail (eq_by_cmp R) k (keys_of xs) c) (distinct_without (eq_by_cmp R k) fs d)
      (λ q. ap (lookup (eq_by_cmp R q)) (sym gone) ∙ lookup-remove_entry e (eq_by_cmp R k) (e.congr k) q (x ∷ xs) c ∙ ap (cond (eq_by_cmp R k q) None) (h q) ∙ sym (lookup-remove_entry e (eq_by_cmp R k) (e.congr k) q fs d)) in
      IsPermutation-trans (x ∷ xs) (x ∷ remove_entry (eq_by_cmp R k) fs) fs (IsPermutation-cons x _ _ others) (IsPermutation-sym _ _ (pulled k x.1 fs (sym (h k) ∙ lookup_head (eq_by_cmp R k) x xs (e.refl k))))

  -- ---- what a test of keys leaves
  module _ (s : K → Bool) where
    abbrev pub passing : List (K × X) → List (K × X)
    passing es = filter (λ (e : K × X). s e.0) es

    apart_passing : (k : K) (es : List (K × X)) → AllByRecursion (λ y. eq_by_cmp R k y ≡ false) (keys_of es) → AllByRecursion (λ y. eq_by_cmp R k y ≡ false) (keys_of (passing es))
    apart_passing k [] h = tt
    apart_passing k (e ∷ es) h = cond_both (s e.0) (e ∷ passing es) (passing es) (λ l. AllByRecursion (λ y. eq_by_cmp R k y ≡ false) (keys_of l)) (λ _. (h.0, apart_passing k es h.1)) (λ _. apart_passing k es h.1)

    distinct_passing : (es : List (K × X)) → IsDistinct (eq_by_cmp R) (keys_of es) → IsDistinct (eq_by_cmp R) (keys_of (passing es))
    distinct_passing [] d = d
    distinct_passing (e ∷ es) d =
        let rest = distinct_passing es (IsDistinct-tail (eq_by_cmp R) e.0 (keys_of es) d) in
        cond_both (s e.0) (e ∷ passing es) (passing es) (λ l. IsDistinct (eq_by_cmp R) (keys_of l))
        (λ _. IsDistinct-cons (eq_by_cmp R) e.0 (keys_of (passing es)) (apart_passing e.0 es (IsDistinct-head (eq_by_cmp R) e.0 (keys_of es) d)) rest) (λ _. rest)

    find_passing : (q : K) (es : List (K × X)) → find R q (passing es) ≡ cond (s q) (find R q es) None
    find_passing q [] = elim (s q) as (λ b. ◌≡◌ {A = Option X} None (cond b None None)) [ true ↦ refl | false ↦ refl ]
    find_passing q (e ∷ es) = elim (s e.0) as (λ b. s e.0 ≡ b → find R q (cond b (e ∷ passing es) (passing es)) ≡ cond (s q) (cond (eq_by_cmp R q e.0) (Some e.1) (find R q es)) None) [
      | true ↦ λ stays. elim (eq_by_cmp R q e.0) as (λ c. eq_by_cmp R q e.0 ≡ c → cond c (Some e.1) (find R q (passing es)) ≡ cond (s q) (cond c (Some e.1) (find R q es)) None) [
        | true ↦ λ at. sym (ap (λ b. cond b (Some e.1) None) (ap s (tells_apart exact q e.0 at) ∙ stays))
        | false ↦ λ _. find_passing q es
      ] refl
      | false ↦ λ goes. find_passing q es ∙ elim (eq_by_cmp R q e.0) as (λ c. eq_by_cmp R q e.0 ≡ c → cond (s q) (find R q es) None ≡ cond (s q) (cond c (Some e.1) (find R q es)) None) [
        | true ↦ λ at. let none : s q ≡ false = ap s (tells_apart exact q e.0 at) ∙ goes in ap (λ b. cond b (find R q es) None) none ∙ sym (ap (λ b. cond b (Some e.1) None) none)
        | false ↦ λ _. refl
      ] refl
    ] refl

    get_passing : (m : FinMap R X) (q : K) → finite.get (finite.retain_keys m s) q ≡ cond (s q) (finite.get m q) None
    get_passing m q = get-retain_keys m s q (λ x e. ap s (sym (exact q x e)))

    -- The entries that stay in a map, if those of the map are these.
    pub retained : (m : FinMap R X) (es : List (K × X)) → IsDistinct (eq_by_cmp R) (keys_of es) → ((q : K) → finite.get m q ≡ find R q es) → IsPermutation (finite.entries (finite.retain_keys m s)) (passing es)
    retained m es d same = shuffled (finite.entries (finite.retain_keys m s)) (passing es) (distinct_sorted R _ (entries_sorted (finite.retain_keys m s))) (distinct_passing es d)
        (λ q. sym (find_lookup R q (finite.entries (finite.retain_keys m s))) ∙ sym (get-entries (finite.retain_keys m s) q) ∙ get_passing m q ∙ ap (λ v. cond (s q) v None) (same q) ∙ sym (find_passing q es) ∙ find_lookup R q (passing es))

    pub len_retained : (m : FinMap R X) → finite.len (finite.retain_keys m s) ≡ length (passing (finite.entries m))
    len_retained m = len-entries (finite.retain_keys m s) ∙ sym (length_permutation _ _ (retained m (finite.entries m) (distinct_sorted R _ (entries_sorted m)) (get-entries m)))

  -- A test parts the entries.
  pub len_parted : (s : K → Bool) (m : FinMap R X) → finite.len (finite.retain_keys m s) + finite.len (finite.retain_keys m (λ q. not (s q))) ≡ finite.len m
  len_parted s m =
      let kept = len_retained s m in
      let gone = len_retained (λ q. not (s q)) m in
      let both = length-filter_both (λ (e : K × X). s e.0) (λ (e : K × X). not (s e.0)) (λ e. refl) (finite.entries m) in
      let all = len-entries m in
      omega (arith, kept, gone, both, all)

-- ---- what a command covers of the entries of the map, but the listed ones
abbrev pub is_told : Command → List Key → Entry → Bool
is_told command ks e = covers command e.tag && not (is_listed ks e.tag)

values_of_told : (command : Command) (ks : List Key) (es : List (Key × Entry)) → All (λ (e : Key × Entry). e.1.tag ≡ tag_of e.0) es
    → map (λ (e : Tag × Entry). e.1) (filter (λ (e : Tag × Entry). covers command e.0) (filter (λ (e : Tag × Entry). not (is_listed ks e.0)) (tagged es))) ≡ filter (is_told command ks) (map (λ (e : Key × Entry). e.1) es)
values_of_told command ks [] h = refl
values_of_told command ks (e ∷ es) h =
    let here : e.1.tag ≡ tag_of e.0 = All-head (λ (e : Key × Entry). e.1.tag ≡ tag_of e.0) e es h in
    let rest = values_of_told command ks es (All-tail (λ (e : Key × Entry). e.1.tag ≡ tag_of e.0) e es h) in
    let t : Tag = tag_of e.0 in
    let left : List (Tag × Entry) = filter (λ (e : Tag × Entry). not (is_listed ks e.0)) (tagged es) in
    let told : List Entry = filter (is_told command ks) (map (λ (e : Key × Entry). e.1) es) in
    elim (is_listed ks t) as (λ l. map (λ (e : Tag × Entry). e.1) (filter (λ (e : Tag × Entry). covers command e.0) (cond (not l) ((t, e.1) ∷ left) left)) ≡ cond (covers command t && not l) (e.1 ∷ told) told) [
      | true ↦ rest ∙ elim (covers command t) as (λ c. told ≡ cond (c && false) (e.1 ∷ told) told) [ true ↦ refl | false ↦ refl ]
      | false ↦ elim (covers command t) as (λ c. map (λ (e : Tag × Entry). e.1) (cond c ((t, e.1) ∷ filter (λ (e : Tag × Entry). covers command e.0) left) (filter (λ (e : Tag × Entry). covers command e.0) left)) ≡ cond (c && true) (e.1 ∷ told) told) [
        | true ↦ ap (λ l. e.1 ∷ l) rest
        | false ↦ rest
      ]
    ] ∙ ap (λ u. cond (covers command u && not (is_listed ks u)) (e.1 ∷ told) told) (sym here)

pub told_are_covered : (command : Command) (m : BTreeMap Key Entry) (ks : List Key) → IsStrictlySortedBy key_cmp (keys_of m.entries) → IsKeeping key_cmp m
    → IsPermutation (finite.values (only_covered command (unlisted m ks))) (filter (is_told command ks) (map (λ (e : Key × Entry). e.1) m.entries))
told_are_covered command m ks sorted keeping =
    let d = IsDistinct-from_sorted key_cmp (keys_of m.entries) sorted in
    let apart = distinct_tags m.entries d in
    let left : List (Tag × Entry) = filter (λ (e : Tag × Entry). not (is_listed ks e.0)) (tagged m.entries) in
    let held : (t : Tag) → finite.get (unlisted m ks) t ≡ find tag_cmp t left = λ t.
    get_passing tag_cmp_total tag_cmp_exact (λ t. not (is_listed ks t)) (finite.from_entries (tagged m.entries)) t
    ∙ ap (λ v. cond (not (is_listed ks t)) v None) (get-from_entries tag_cmp_total (tagged m.entries) t)
    ∙ sym (find_passing tag_cmp_total tag_cmp_exact (λ t. not (is_listed ks t)) t (tagged m.entries)) in
    let entries = retained tag_cmp_total tag_cmp_exact (covers command) (unlisted m ks) left (distinct_passing tag_cmp_total tag_cmp_exact (λ t. not (is_listed ks t)) (tagged m.entries) apart) held in
    subst (IsPermutation (finite.values (only_covered command (unlisted m ks)))) (values_of_told command ks m.entries (all_own m (λ q e there. (keeping q e there).own) d))
    (IsPermutation-map (λ (e : Tag × Entry). e.1) _ _ entries)

pub told_if : (command : Command) (ks : List Key) (e : Entry) → covers command e.tag ≡ true → is_listed ks e.tag ≡ false → is_told command ks e ≡ true
told_if command ks e covered unlisted = ap (λ b. b && not (is_listed ks e.tag)) covered ∙ ap not unlisted

pub not_covered : (command : Command) (ks : List Key) (e : Entry) → covers command e.tag ≡ false → is_told command ks e ≡ false
not_covered command ks e uncovered = ap (λ b. b && not (is_listed ks e.tag)) uncovered

pub not_held : (command : Command) (ks : List Key) (e : Entry) → covers command e.tag ≡ true → is_listed ks e.tag ≡ true → is_told command ks e ≡ false
not_held command ks e covered listed = ap (λ b. b && not (is_listed ks e.tag)) covered ∙ ap not listed

pub all_blocks : (m : BTreeMap Key Entry) → IsStrictlySortedBy key_cmp (keys_of m.entries) → IsKeeping key_cmp m → All (λ (e : Entry). IsBlock e.tag) (map (λ (e : Key × Entry). e.1) m.entries)
all_blocks m sorted keeping = λ k e lt.
    let es : List (Key × Entry) = m.entries in
    let there : k < length es = omega (arith, length-map es (λ (p : Key × Entry). p.1), lt) in
    let here : Key × Entry = slice_index_or es k (Configuration 0 None, e) in
    let at = get_or-map (λ (p : Key × Entry). p.1) es k (Configuration 0 None, e) e there in
    let kept = keeping here.0 here.1 (found es (IsDistinct-from_sorted key_cmp (keys_of es) sorted) k (Configuration 0 None, e) there) in
    subst (λ (x : Entry). IsBlock x.tag) (sym at) (subst IsBlock (sym kept.own) kept.well_formed)

-- ---- what callers learn
pub len_told : (command : Command) (m : Entries) (list : List Entry) → IsPermutation (finite.values (only_covered command m)) list → length list + finite.len (without_covered command m) ≡ finite.len m
len_told command m list all =
    let parted = len_parted tag_cmp_total tag_cmp_exact (covers command) m in
    let long = length_permutation _ _ all in
    let same = length-map (finite.entries (only_covered command m)) (λ (e : Tag × Entry). e.1) in
    let counted = len-entries (only_covered command m) in
    omega (arith, parted, long, same, counted)

covered_in : (command : Command) (m : Entries) (e : Entry) → finite.get (only_covered command m) e.tag ≡ Some e → IsCoveredIn m command e
covered_in command m e there = both (covers command e.tag) (finite.get m e.tag) refl refl (sym (get_passing tag_cmp_total tag_cmp_exact (covers command) m e.tag) ∙ there)
  where
    both : (c : Bool) (o : Option Entry) → covers command e.tag ≡ c → finite.get m e.tag ≡ o → cond c o None ≡ Some e → IsCoveredIn m command e
    both true o c h is = record { held = h ∙ is; covered = c }
    both false o c h is = cc

pub all_covered : (command : Command) (m : Entries) (list : List Entry) → AreOwn m → IsPermutation (finite.values (only_covered command m)) list → All (IsCoveredIn m command) list
all_covered command m list own all =
    let mine : (t : Tag) (e : Entry) → finite.get (only_covered command m) t ≡ Some e → e.tag ≡ t = λ t e there. own t e (was (covers command t) (finite.get m t) e (sym (get_passing tag_cmp_total tag_cmp_exact (covers command) m t) ∙ there)) in
    let here = All-permutation (λ (e : Entry). finite.get (only_covered command m) e.tag ≡ Some e) _ list all (values_own (only_covered command m) mine) in
    λ k e lt. covered_in command m _ (here k e lt)
  where
    was : (c : Bool) (o : Option Entry) (e : Entry) → cond c o None ≡ Some e → o ≡ Some e
    was true o e is = is
    was false o e is = cc
