-- The entries of an ordered map but the listed ones, as a finite map of tags: its entry at a tag, and its length.
use Rattle.std.proofs.Common.{IfSome, ◌≡◌, zero, suc, ◌+◌, ◌-◌, ◌≤◌, Bool, true, false, true≢false, not, filter, ◌&&◌, ◌||◌, Option, Some, None, is_some, refl, sym, ◌∙◌, ap, subst, List, [], ◌∷◌, ◌++◌, length, arith, cond}
use Rattle.std.specs.declared.cmp.Ordering.{Ordering}
use Rattle.std.specs.declared.cmp.Ordering.TheVariants.{Less, Equal, Greater}
use Rattle.std.specs.Ordering.{eq_by_cmp, is_eq}
use Rattle.std.specs.Cmp.{tied_itself, eq_by_cmp_equiv, Equal-is}
use Rattle.std.specs.List.{list_any}
use Rattle.std.specs.List.Sorted.{IsStrictlySortedBy}
use Rattle.std.specs.Map.{lookup, keys_of}
use Rattle.std.specs.BTreeMap.{BTreeMap, is_at, Updates}
use Rattle.std.specs.BTreeMap as tree
use Rattle.std.specs.FinMap as finite
use Rattle.std.specs.FinMap.{find, get-from_entries, len-insert, len-remove, get-empty, len-empty, empty_of_len, get-retain_keys, get-insert, get-remove, same_map}
use Rattle.std.proofs.lemmas.Bool.{false_from_ne_true}
use Rattle.std.proofs.lemmas.List.Folds.{list_any-append}
use Rattle.std.proofs.lemmas.Map.{lookup-none}
use Rattle.std.proofs.lemmas.Map.Views.{tells_apart}
use Rattle.std.proofs.lemmas.Map.Entries.{none_past_head}
use Rattle.std.proofs.lemmas.Map.Keys.{IsDistinct-from_sorted, sorted_tail}
use Rattle.caches.specs.declared.tag.Scope.TheVariants.{Global, Of}
use Rattle.caches.specs.declared.tag.Tag.{Tag}
use Rattle.caches.specs.declared.tag.Tag.TheVariants.{Ste, Cd, S1, S2, El2, Atc}
use Rattle.caches.specs.declared.tag.Entry.{Entry}
use Rattle.caches.specs.declared.key.Stage.TheVariants.{Two, One}
use Rattle.caches.specs.declared.key.Key.{Key}
use Rattle.caches.specs.declared.key.Key.TheVariants.{Configuration, Machine, Hypervisor, Endpoint}
use Rattle.caches.specs.Keys.{key_of, tag_of, passes_key}
use Rattle.caches.specs.TagOrder.{tag_cmp, tag_cmp_total, tag_cmp_exact}
use Rattle.caches.specs.Held.{Entries, without_passing}
use Rattle.caches.specs.Sweep.{IsWithout}
use Rattle.caches.specs.Unlisted.{tagged, is_listed, unlisted}
use Rattle.caches.proofs.KeyOrder.{key_cmp, key_total, key_exact}
use Rattle.caches.proofs.Pruned.{none_either}

-- ---- tags and keys
pub tag_back : (t : Tag) → tag_of (key_of t) ≡ t
tag_back (Ste sid) = refl
tag_back (Cd sid ssid) = refl
tag_back (S1 vmid Global page span) = refl
tag_back (S1 vmid (Of a) page span) = refl
tag_back (S2 vmid page span) = refl
tag_back (El2 Global page span) = refl
tag_back (El2 (Of a) page span) = refl
tag_back (Atc sid ssid page span) = refl

pub key_back : (q : Key) → key_of (tag_of q) ≡ q
key_back (Configuration s None) = refl
key_back (Configuration s (Some c)) = refl
key_back (Machine v p n Two) = refl
key_back (Machine v p n (One None)) = refl
key_back (Machine v p n (One (Some a))) = refl
key_back (Hypervisor p n None) = refl
key_back (Hypervisor p n (Some a)) = refl
key_back (Endpoint v p n c) = refl

same_test : (r s : Ordering) → (r ≡ Equal → s ≡ Equal) → (s ≡ Equal → r ≡ Equal) → is_eq r ≡ is_eq s
same_test Equal s f g = sym (ap is_eq (f refl))
same_test Less s f g = elim s as (λ s. (s ≡ Equal → Less ≡ Equal) → false ≡ is_eq s) [ Less ↦ λ h. refl | Equal ↦ λ h. let e : Less ≡ Equal = h refl in cc | Greater ↦ λ h. refl ] g
same_test Greater s f g = elim s as (λ s. (s ≡ Equal → Greater ≡ Equal) → false ≡ is_eq s) [ Less ↦ λ h. refl | Equal ↦ λ h. let e : Greater ≡ Equal = h refl in cc | Greater ↦ λ h. refl ] g

pub same_key : (t : Tag) (x : Key) → eq_by_cmp tag_cmp t (tag_of x) ≡ eq_by_cmp key_cmp (key_of t) x
same_key t x = same_test (tag_cmp t (tag_of x)) (key_cmp (key_of t) x)
    (λ e. subst (λ y. key_cmp (key_of t) y ≡ Equal) (ap key_of (tag_cmp_exact t (tag_of x) e) ∙ key_back x) (tied_itself key_total (key_of t)))
    (λ e. subst (λ y. tag_cmp t y ≡ Equal) (sym (tag_back t) ∙ ap tag_of (key_exact (key_of t) x e)) (tied_itself tag_cmp_total t))

same_tags : (t q : Tag) → eq_by_cmp tag_cmp t q ≡ eq_by_cmp key_cmp (key_of t) (key_of q)
same_tags t q = ap (λ y. eq_by_cmp tag_cmp t y) (sym (tag_back q)) ∙ same_key t (key_of q)

-- ---- look-ups
pub same_option : {X : Type 0} (a b : Option X) → ((v : X) → a ≡ Some v → b ≡ Some v) → ((v : X) → b ≡ Some v → a ≡ Some v) → a ≡ b
same_option (Some x) b f g = sym (f x refl)
same_option None (Some y) f g = g y refl
same_option None None f g = refl

pub find_tagged : (t : Tag) (es : List (Key × Entry)) → find tag_cmp t (tagged es) ≡ lookup (is_at (key_cmp (key_of t))) es
find_tagged t [] = refl
find_tagged t (e ∷ es) = ap (λ b. cond b (Some e.1) (find tag_cmp t (tagged es))) (same_key t e.0) ∙ ap (cond (eq_by_cmp key_cmp (key_of t) e.0) (Some e.1)) (find_tagged t es)

found : (m : BTreeMap Key Entry) (t : Tag) → finite.get (finite.from_entries {R = tag_cmp} (tagged m.entries)) t ≡ tree.get key_cmp m (key_of t)
found m t = get-from_entries tag_cmp_total (tagged m.entries) t ∙ find_tagged t m.entries

turned : {A : Type 0} (b : Bool) (x y : A) → cond (not b) x y ≡ cond b y x
turned true x y = refl
turned false x y = refl

pub get_unlisted : (m : BTreeMap Key Entry) (ks : List Key) (t : Tag) → finite.get (unlisted m ks) t ≡ cond (is_listed ks t) None (tree.get key_cmp m (key_of t))
get_unlisted m ks t = get-retain_keys (finite.from_entries (tagged m.entries)) (λ t. not (is_listed ks t)) t (λ x e. ap (λ y. not (is_listed ks y)) (sym (tag_cmp_exact t x e)))
    ∙ turned (is_listed ks t) _ _ ∙ ap (cond (is_listed ks t) None) (found m t)

-- ---- the length
abbrev Fresh : List (Tag × Entry) → Type 0
Fresh [] = Unit {0}
Fresh (e ∷ es) = (find tag_cmp e.0 es ≡ None) × Fresh es

len_fresh : (es : List (Tag × Entry)) → Fresh es → finite.len (finite.from_entries {R = tag_cmp} es) ≡ length es
len_fresh [] h = len-empty tag_cmp Entry
len_fresh (e ∷ es) h =
    let none : is_some (finite.get (finite.from_entries {R = tag_cmp} es) e.0) ≡ false = ap is_some (get-from_entries tag_cmp_total es e.0 ∙ h.0) in
    let rest = len_fresh es h.1 in
    len-insert tag_cmp_total (finite.from_entries es) e.0 e.1 ∙ ap (λ b. cond b (finite.len (finite.from_entries {R = tag_cmp} es)) (finite.len (finite.from_entries {R = tag_cmp} es) + 1)) none ∙ omega arith

length_tagged : (es : List (Key × Entry)) → length (tagged es) ≡ length es
length_tagged [] = refl
length_tagged (e ∷ es) = let h = length_tagged es in omega arith

fresh_tagged : (es : List (Key × Entry)) → IsStrictlySortedBy key_cmp (keys_of es) → Fresh (tagged es)
fresh_tagged [] s = tt
fresh_tagged (e ∷ es) s =
    let none : lookup (is_at (key_cmp e.0)) es ≡ None = lookup-none (is_at (key_cmp e.0)) es (none_past_head (eq_by_cmp_equiv key_total) e.0 e es (IsDistinct-from_sorted key_cmp (keys_of (e ∷ es)) s) (ap is_eq (tied_itself key_total e.0))) in
    (find_tagged (tag_of e.0) es ∙ ap (λ k. lookup (is_at (key_cmp k)) es) (key_back e.0) ∙ none, fresh_tagged es (sorted_tail key_cmp e.0 (keys_of es) s))

pub len_unlisted : (m : BTreeMap Key Entry) → tree.IsOrdered key_cmp m → finite.len (unlisted m []) ≡ length m.entries
len_unlisted m s =
    let all : unlisted m [] ≡ finite.from_entries (tagged m.entries) = same_map tag_cmp_total tag_cmp_exact _ _ (λ t. get_unlisted m [] t ∙ sym (found m t)) in
    ap finite.len all ∙ len_fresh (tagged m.entries) (fresh_tagged m.entries s) ∙ length_tagged m.entries

-- Nothing is in an empty map.
pub unlisted_empty : (m : BTreeMap Key Entry) → tree.IsEmpty m → unlisted m [] ≡ finite.empty
unlisted_empty m none = same_map tag_cmp_total tag_cmp_exact _ _ (λ t. get_unlisted m [] t ∙ ap (lookup (is_at (key_cmp (key_of t)))) none ∙ sym (get-empty tag_cmp t))

-- ---- tests
pub get_without : (p : Tag → Bool) (m : Entries) (t : Tag) → finite.get (without_passing p m) t ≡ cond (p t) None (finite.get m t)
get_without p m t = get-retain_keys m (λ t. not (p t)) t (λ x e. ap (λ y. not (p y)) (sym (tag_cmp_exact t x e))) ∙ turned (p t) _ _

-- ---- one entry put in or taken out
flip : (x y : Tag) → eq_by_cmp tag_cmp x y ≡ eq_by_cmp tag_cmp y x
flip x y = (eq_by_cmp_equiv tag_cmp_total).symm x y

-- Whether a key is that of a tag.
at_tag : (k : Key) (t : Tag) → eq_by_cmp key_cmp k (key_of t) ≡ eq_by_cmp tag_cmp t (tag_of k)
at_tag k t = ap (λ x. eq_by_cmp key_cmp x (key_of t)) (sym (key_back k)) ∙ sym (same_tags (tag_of k) t) ∙ flip (tag_of k) t

pub listed_none : (ks : List Key) (t : Tag) → length ks ≡ 0 → is_listed ks t ≡ false
listed_none [] t e = refl
listed_none (k ∷ ks) t e = absurd (omega (arith, e))

listed_push : (ks : List Key) (k : Key) (t : Tag) → is_listed (ks ++ k ∷ []) t ≡ (eq_by_cmp tag_cmp t (tag_of k) || is_listed ks t)
listed_push ks k t = list_any-append (λ key. eq_by_cmp tag_cmp t (tag_of key)) ks (k ∷ []) ∙ turned_round (is_listed ks t) (eq_by_cmp tag_cmp t (tag_of k))
  where
    turned_round : (a b : Bool) → (a || (b || false)) ≡ (b || a)
    turned_round true true = refl
    turned_round true false = refl
    turned_round false true = refl
    turned_round false false = refl

none_if_either : {X : Type 0} (a b : Bool) (o : Option X) → cond (a || b) None o ≡ cond a None (cond b None o)
none_if_either true b o = refl
none_if_either false b o = refl

pub either_order : {X : Type 0} (a b : Bool) (o : Option X) → cond (a || b) None o ≡ cond b None (cond a None o)
either_order true true o = refl
either_order true false o = refl
either_order false true o = refl
either_order false false o = refl

-- What passes a test goes from the map, listed or not.
pub unlisted_without : (p : Tag → Bool) (m n : BTreeMap Key Entry) (ks : List Key) → IsWithout key_cmp (passes_key p) m n → unlisted n ks ≡ without_passing p (unlisted m ks)
unlisted_without p m n ks w = same_map tag_cmp_total tag_cmp_exact _ _ (λ t.
    let o = tree.get key_cmp m (key_of t) in
    get_unlisted n ks t ∙ ap (cond (is_listed ks t) None) (w (key_of t) ∙ ap (λ u. cond (p u) None o) (tag_back t))
    ∙ sym (none_if_either (is_listed ks t) (p t) o) ∙ either_order (is_listed ks t) (p t) o
    ∙ sym (get_without p (unlisted m ks) t ∙ ap (cond (p t) None) (get_unlisted m ks t)))

-- A key that is listed counts as removed.
pub unlisted_push : (m : BTreeMap Key Entry) (ks : List Key) (k : Key) → unlisted m (ks ++ k ∷ []) ≡ finite.remove (unlisted m ks) (tag_of k)
unlisted_push m ks k = same_map tag_cmp_total tag_cmp_exact _ _ (λ t. get_unlisted m (ks ++ k ∷ []) t
    ∙ ap (λ b. cond b None (tree.get key_cmp m (key_of t))) (listed_push ks k t) ∙ none_if_either (eq_by_cmp tag_cmp t (tag_of k)) (is_listed ks t) (tree.get key_cmp m (key_of t))
    ∙ sym (get-remove tag_cmp_total (unlisted m ks) (tag_of k) t ∙ ap (cond (eq_by_cmp tag_cmp t (tag_of k)) None) (get_unlisted m ks t)))

-- It may as well be taken out of the map.
pub unlisted_taken : (m n : BTreeMap Key Entry) (ks : List Key) (k : Key) → Updates key_cmp m n k None → unlisted n ks ≡ unlisted m (ks ++ k ∷ [])
unlisted_taken m n ks k u = same_map tag_cmp_total tag_cmp_exact _ _ (λ t. get_unlisted n ks t ∙ ap (cond (is_listed ks t) None) (u.0 (key_of t) ∙ ap (λ b. cond b None (tree.get key_cmp m (key_of t))) (at_tag k t))
    ∙ sym (get_unlisted m (ks ++ k ∷ []) t ∙ ap (λ b. cond b None (tree.get key_cmp m (key_of t))) (listed_push ks k t) ∙ either_order (eq_by_cmp tag_cmp t (tag_of k)) (is_listed ks t) (tree.get key_cmp m (key_of t))))

-- ---- a key is taken off the list, and its entry put in
module _ (ks js : List Key) (k : Key) (off : (t : Tag) → is_listed js t ≡ (is_listed ks t && not (eq_by_cmp tag_cmp t (tag_of k)))) where
  pub unlisted_put : (m n : BTreeMap Key Entry) (e : Entry) → Updates key_cmp m n k (Some e) → unlisted n js ≡ finite.insert (unlisted m ks) (tag_of k) e
  unlisted_put m n e u = same_map tag_cmp_total tag_cmp_exact _ _ (λ t. get_unlisted n js t ∙ ap (λ b. cond b None (tree.get key_cmp n (key_of t))) (off t)
      ∙ ap (cond (is_listed ks t && not (eq_by_cmp tag_cmp t (tag_of k))) None) (u.0 (key_of t) ∙ ap (λ b. cond b (Some e) (tree.get key_cmp m (key_of t))) (at_tag k t))
      ∙ either_way (is_listed ks t) (eq_by_cmp tag_cmp t (tag_of k)) (tree.get key_cmp m (key_of t))
      ∙ sym (get-insert tag_cmp_total (unlisted m ks) (tag_of k) e t ∙ ap (cond (eq_by_cmp tag_cmp t (tag_of k)) (Some e)) (get_unlisted m ks t)))
    where
      either_way : (l b : Bool) (o : Option Entry) → cond (l && not b) None (cond b (Some e) o) ≡ cond b (Some e) (cond l None o)
      either_way true true o = refl
      either_way true false o = refl
      either_way false true o = refl
      either_way false false o = refl

  -- Where the map has nothing under the key, nothing changes.
  pub unlisted_off : (m n : BTreeMap Key Entry) → n.entries ≡ m.entries → tree.get key_cmp m k ≡ None → unlisted n js ≡ unlisted m ks
  unlisted_off m n same none = same_map tag_cmp_total tag_cmp_exact _ _ (λ t. get_unlisted n js t ∙ ap (λ b. cond b None (tree.get key_cmp n (key_of t))) (off t)
      ∙ ap (λ es. cond (is_listed ks t && not (eq_by_cmp tag_cmp t (tag_of k))) None (lookup (is_at (key_cmp (key_of t))) es)) same
      ∙ elim (eq_by_cmp tag_cmp t (tag_of k)) as (λ b. eq_by_cmp tag_cmp t (tag_of k) ≡ b → cond (is_listed ks t && not b) None (tree.get key_cmp m (key_of t)) ≡ cond (is_listed ks t) None (tree.get key_cmp m (key_of t))) [
        | true ↦ λ at.
            let gone : tree.get key_cmp m (key_of t) ≡ None = subst (λ x. tree.get key_cmp m (key_of x) ≡ None) (sym (tag_cmp_exact t (tag_of k) ((Equal-is (tag_cmp t (tag_of k))).0 at))) (ap (tree.get key_cmp m) (key_back k) ∙ none) in
            none_either (is_listed ks t && false) _ gone ∙ sym (none_either (is_listed ks t) _ gone)
        | false ↦ λ _. ap (λ b. cond b None (tree.get key_cmp m (key_of t))) (and_true (is_listed ks t))
      ] refl
      ∙ sym (get_unlisted m ks t))
    where
      and_true : (b : Bool) → (b && true) ≡ b
      and_true true = refl
      and_true false = refl

-- A list without a key lists the others.
pub listed_without : (ks : List Key) (k : Key) (t : Tag) → is_listed (filter (λ x. not (eq_by_cmp key_cmp x k)) ks) t ≡ (is_listed ks t && not (eq_by_cmp tag_cmp t (tag_of k)))
listed_without [] k t = refl
listed_without (x ∷ ks) k t = elim (eq_by_cmp key_cmp x k) as (λ b. eq_by_cmp key_cmp x k ≡ b → is_listed (cond (not b) (x ∷ filter (λ x. not (eq_by_cmp key_cmp x k)) ks) (filter (λ x. not (eq_by_cmp key_cmp x k)) ks)) t ≡ ((eq_by_cmp tag_cmp t (tag_of x) || is_listed ks t) && not (eq_by_cmp tag_cmp t (tag_of k)))) [
  | true ↦ λ same. listed_without ks k t ∙ absorbed (eq_by_cmp tag_cmp t (tag_of x)) (eq_by_cmp tag_cmp t (tag_of k)) (is_listed ks t) (ap (λ y. eq_by_cmp tag_cmp t (tag_of y)) (tells_apart key_exact x k same))
  | false ↦ λ apart. ap (λ b. eq_by_cmp tag_cmp t (tag_of x) || b) (listed_without ks k t) ∙ spread (eq_by_cmp tag_cmp t (tag_of x)) (eq_by_cmp tag_cmp t (tag_of k)) (is_listed ks t) (λ at.
      false_from_ne_true _ (λ at'.
      let same : tag_of x ≡ tag_of k = sym (tells_apart tag_cmp_exact t (tag_of x) at) ∙ tells_apart tag_cmp_exact t (tag_of k) at' in
      let tie : eq_by_cmp key_cmp x k ≡ true = ap (eq_by_cmp key_cmp x) (sym (key_back k)) ∙ at_tag x (tag_of k) ∙ ap (λ y. eq_by_cmp tag_cmp y (tag_of x)) (sym same) ∙ ap is_eq (tied_itself tag_cmp_total (tag_of x)) in
      absurd (true≢false (sym tie ∙ apart))))
] refl
  where
    absorbed : (a b l : Bool) → a ≡ b → (l && not b) ≡ ((a || l) && not b)
    absorbed true true l e = and_false l
      where
        and_false : (l : Bool) → (l && false) ≡ false
        and_false true = refl
        and_false false = refl
    absorbed false false l e = refl
    absorbed true false l e = absurd (true≢false e)
    absorbed false true l e = absurd (true≢false (sym e))

    spread : (a b l : Bool) → (a ≡ true → b ≡ false) → (a || (l && not b)) ≡ ((a || l) && not b)
    spread true b l e = sym (ap not (e refl))
    spread false b l e = refl

-- Whether a key is listed, as a search by its rank tells.
pub contained : (ks : List Key) (k : Key) → list_any (λ y. eq_by_cmp key_cmp y k) ks ≡ is_listed ks (tag_of k)
contained [] k = refl
contained (x ∷ ks) k = ap (λ b. b || list_any (λ y. eq_by_cmp key_cmp y k) ks) (ap (eq_by_cmp key_cmp x) (sym (key_back k)) ∙ at_tag x (tag_of k)) ∙ ap (λ b. eq_by_cmp tag_cmp (tag_of k) (tag_of x) || b) (contained ks k)

-- Where nothing is, removing changes nothing.
pub unchanged_remove : (m : Entries) (t : Tag) → finite.get m t ≡ None → m ≡ finite.remove m t
unchanged_remove m t none = same_map tag_cmp_total tag_cmp_exact _ _ (λ q. sym (get-remove tag_cmp_total m t q
    ∙ elim (eq_by_cmp tag_cmp q t) as (λ b. eq_by_cmp tag_cmp q t ≡ b → cond b None (finite.get m q) ≡ finite.get m q) [
      | true ↦ λ at. sym (subst (λ x. finite.get m x ≡ None) (sym (tag_cmp_exact q t ((Equal-is (tag_cmp q t)).0 at))) none)
      | false ↦ λ _. refl
    ] refl))

-- ---- what is found, and how many there are
-- What the map has under a key that isn't listed is found.
pub unlisted_has : (m : BTreeMap Key Entry) (ks : List Key) (k : Key) → is_listed ks (tag_of k) ≡ false → finite.get (unlisted m ks) (tag_of k) ≡ tree.get key_cmp m k
unlisted_has m ks k none = get_unlisted m ks (tag_of k) ∙ ap (λ b. cond b None (tree.get key_cmp m (key_of (tag_of k)))) none ∙ ap (tree.get key_cmp m) (key_back k)

pub unlisted_same : (m n : BTreeMap Key Entry) (ks : List Key) → n.entries ≡ m.entries → unlisted n ks ≡ unlisted m ks
unlisted_same m n ks e = ap (λ es. finite.retain_keys (finite.from_entries {R = tag_cmp} (tagged es)) (λ t. not (is_listed ks t))) e

pub none_if_not_some : {X : Type 0} (o : Option X) → is_some o ≡ false → o ≡ None
none_if_not_some None e = refl
none_if_not_some (Some x) e = cc

-- A key that is listed or that the map lacks isn't found.
pub unlisted_lacks : (m : BTreeMap Key Entry) (ks : List Key) (k : Key) → (is_some (tree.get key_cmp m k) && not (is_listed ks (tag_of k))) ≡ false → finite.get (unlisted m ks) (tag_of k) ≡ None
unlisted_lacks m ks k none = get_unlisted m ks (tag_of k) ∙ ap (λ x. cond (is_listed ks (tag_of k)) None (tree.get key_cmp m x)) (key_back k) ∙ lacks (is_listed ks (tag_of k)) (tree.get key_cmp m k) none
  where
    lacks : (b : Bool) (o : Option Entry) → (is_some o && not b) ≡ false → cond b None o ≡ None
    lacks true o e = refl
    lacks false None e = refl
    lacks false (Some x) e = cc

some_length : (m : Entries) (t : Tag) → is_some (finite.get m t) ≡ true → 1 ≤ finite.len m
some_length m t some = elim (finite.len m) as (λ n. finite.len m ≡ n → 1 ≤ n) [
  | zero ↦ λ none. let e : finite.get m t ≡ None = ap (λ x. finite.get x t) (empty_of_len m none) ∙ get-empty tag_cmp t in let f : false ≡ true = sym (ap is_some e) ∙ some in cc
  | suc n ↦ λ _. omega arith
] refl

pub one_less : (m : Entries) (t : Tag) → is_some (finite.get m t) ≡ true → (1 ≤ finite.len m) × (finite.len m - 1 ≡ finite.len (finite.remove m t))
one_less m t some = (some_length m t some, sym (len-remove tag_cmp_total m t ∙ ap (λ b. cond b (finite.len m - 1) (finite.len m)) some))

-- An entry that is found is noted as removed.
pub note_removed : (m n : BTreeMap Key Entry) (ks js after : List Key) (k : Key) → is_some (tree.get key_cmp m k) ≡ true → is_listed ks (tag_of k) ≡ false → unlisted n js ≡ unlisted m ks → after ≡ js ++ k ∷ []
    → (1 ≤ finite.len (unlisted m ks)) × (finite.len (unlisted m ks) - 1 ≡ finite.len (unlisted n after)) × (unlisted n after ≡ finite.remove (unlisted m ks) (tag_of k))
note_removed m n ks js after k some none same more =
    let gone : unlisted n after ≡ finite.remove (unlisted m ks) (tag_of k) = ap (unlisted n) more ∙ unlisted_push n js k ∙ ap (λ x. finite.remove x (tag_of k)) same in
    let less = one_less (unlisted m ks) (tag_of k) (ap is_some (unlisted_has m ks k none) ∙ some) in
    (less.0, less.1 ∙ sym (ap finite.len gone), gone)

-- An entry is put in under its own key, which is taken off the list.
pub put_off : (m n : BTreeMap Key Entry) (ks js : List Key) (k : Key) (e : Entry) (was : Option Entry) → k ≡ key_of e.tag → ((t : Tag) → is_listed js t ≡ (is_listed ks t && not (eq_by_cmp tag_cmp t (tag_of k)))) → (was ≡ tree.get key_cmp m k) × Updates key_cmp m n k (Some e)
    → (cond (is_listed ks (tag_of k)) None was ≡ finite.get (unlisted m ks) e.tag) × (unlisted n js ≡ finite.insert (unlisted m ks) e.tag e)
put_off m n ks js k e was own off put =
    let tag : tag_of k ≡ e.tag = ap tag_of own ∙ tag_back e.tag in (
      ap (cond (is_listed ks (tag_of k)) None) (put.0 ∙ ap (tree.get key_cmp m) (sym (key_back k))) ∙ sym (get_unlisted m ks (tag_of k)) ∙ ap (finite.get (unlisted m ks)) tag,
      unlisted_put ks js k off m n e put.1 ∙ ap (λ t. finite.insert (unlisted m ks) t e) tag,
    )

pub len_put : (m : Entries) (t : Tag) (e : Entry) (was : Option Entry) → was ≡ finite.get m t → finite.len (finite.insert m t e) ≡ cond (is_some was) (finite.len m) (finite.len m + 1)
len_put m t e was is = len-insert tag_cmp_total m t e ∙ ap (λ o. cond (is_some o) (finite.len m) (finite.len m + 1)) (sym is)

-- What a put that succeeds answers, leaves and counts. `now` is what was held.
module _ (m n : BTreeMap Key Entry) (ks js : List Key) (k : Key) (e : Entry) (was held : Option Entry) (now : Entries) (own : k ≡ key_of e.tag) (off : (t : Tag) → is_listed js t ≡ (is_listed ks t && not (eq_by_cmp tag_cmp t (tag_of k))))
    (put : (was ≡ tree.get key_cmp m k) × Updates key_cmp m n k (Some e)) (told : held ≡ cond (is_listed ks (tag_of k)) None was) (view : unlisted m ks ≡ now) where
  pub held_before : held ≡ finite.get now e.tag
  held_before = told ∙ (put_off m n ks js k e was own off put).0 ∙ ap (λ x. finite.get x e.tag) view

  pub held_after : unlisted n js ≡ finite.insert now e.tag e
  held_after = (put_off m n ks js k e was own off put).1 ∙ ap (λ x. finite.insert x e.tag e) view

  pub held_len : finite.len (unlisted n js) ≡ cond (is_some held) (finite.len now) (finite.len now + 1)
  held_len = ap (λ (x : Entries). finite.len x) held_after ∙ len_put now e.tag e held held_before

pub without_none : (p : Tag → Bool) (m : Entries) → finite.len m ≡ 0 → m ≡ without_passing p m
without_none p m none = same_map tag_cmp_total tag_cmp_exact m (without_passing p m) (λ t.
    let gone : finite.get m t ≡ None = ap (λ x. finite.get x t) (empty_of_len m none) ∙ get-empty tag_cmp t in
    gone ∙ sym (get_without p m t ∙ none_either (p t) (finite.get m t) gone))

-- An entry found under a tag has that tag, if every one found does.
pub own_tag : (found : Option Entry) (t : Tag) → ((e : Entry) → found ≡ Some e → e.tag ≡ t) → IfSome found (λ e. e.tag ≡ t)
own_tag None t own = tt
own_tag (Some e) t own = own e refl
