-- What is true of an ordered map, and of its entries that aren't listed, stays true as entries are put in and taken out.
use Rattle.std.proofs.Common.{◌≡◌, ◌<◌, ◌≤◌, ◌^◌, ℕ, Bool, true, false, cond, not, ◌&&◌, ◌||◌, IsSome, Option, Some, None, is_some, refl, sym, ◌∙◌, ap, subst, List, [], ◌∷◌, ◌++◌, length, arith}
use Rattle.std.specs.Ordering.{eq_by_cmp}
use Rattle.std.specs.Cmp.{Equal-is}
use Rattle.std.specs.Map.{lookup}
use Rattle.std.specs.BTreeMap.{BTreeMap, is_at, Updates}
use Rattle.std.specs.BTreeMap as tree
use Rattle.std.specs.FinMap as finite
use Rattle.std.specs.FinMap.{get-empty, get-insert, get-remove, same_map}
use Rattle.std.proofs.lemmas.List.Folds.{list_any-append}
use Rattle.caches.specs.declared.tag.Tag.{Tag}
use Rattle.caches.specs.declared.tag.Entry.{Entry}
use Rattle.caches.specs.declared.key.Key.{Key}
use Rattle.caches.specs.declared.entry_map.EntryMap.TheInside.{Inside}
use Rattle.caches.specs.declared.spans.Spans.{Spans}
use Rattle.caches.specs.Blocks.{IsBlock}
use Rattle.caches.specs.EntryMaps.{unremoved, IsEntryMap}
use Rattle.caches.specs.Held.{Entries, without_passing}
use Rattle.caches.specs.Keys.{key_of, tag_of, page_of, span_of, passes_key, IsKept}
use Rattle.caches.specs.OneStreams.{is_of_substream, HaveNoSubstreams}
use Rattle.caches.specs.Spanned.{IsSpanOf, AreSpansOf}
use Rattle.caches.specs.Sweep.{IsKeeping, IsWithout}
use Rattle.caches.specs.TagOrder.{tag_cmp, tag_cmp_total, tag_cmp_exact}
use Rattle.caches.specs.Unlisted.{is_listed, unlisted, IsPartOf}
use Rattle.std.proofs.lemmas.Map.Views.{tells_apart}
use Rattle.caches.proofs.KeyOrder.{key_cmp, key_exact}
use Rattle.caches.proofs.Kept.{shorter, some_within}
use Rattle.caches.proofs.Pruned.{none_either, some_was, some_not_none}
use Rattle.caches.proofs.Viewed.{get_unlisted, get_without, len_unlisted, one_less, unlisted_lacks, key_back, tag_back}

-- What is held in a map but for the listed ones is an entry of the map.
pub in_map : (m : BTreeMap Key Entry) (ks : List Key) (t : Tag) (e : Entry) → finite.get (unlisted m ks) t ≡ Some e → tree.get key_cmp m (key_of t) ≡ Some e
in_map m ks t e is = some_was (is_listed ks t) _ e (sym (get_unlisted m ks t) ∙ is)

pub held_kept : (m : BTreeMap Key Entry) (ks : List Key) → IsKeeping key_cmp m → (t : Tag) (e : Entry) → finite.get (unlisted m ks) t ≡ Some e → IsKept t e
held_kept m ks keeping t e is = subst (λ u. IsKept u e) (tag_back t) (keeping (key_of t) e (in_map m ks t e is))

some_is : (o : Option Entry) (e : Entry) → o ≡ Some e → IsSome o
some_is (Some x) e is = refl
some_is None e is = cc

pub held_spanned : (s : Spans) (m : BTreeMap Key Entry) (ks : List Key) → AreSpansOf s key_cmp m → (t : Tag) (e : Entry) → finite.get (unlisted m ks) t ≡ Some e → IsSpanOf s (span_of (key_of t))
held_spanned s m ks spanned t e is = spanned (key_of t) (some_is _ e (in_map m ks t e is))

-- ---- nothing is there
module _ (m : BTreeMap Key Entry) (none : tree.IsEmpty m) where
  nothing_at : (q : Key) (e : Entry) → tree.get key_cmp m q ≡ Some e → ⊥
  nothing_at q e there = let no_entry : None ≡ Some e = sym (ap (lookup (is_at (key_cmp q))) none) ∙ there in cc

  pub empty_keeping : IsKeeping key_cmp m
  empty_keeping q e there = absurd (nothing_at q e there)

  pub empty_spanned : (s : Spans) → AreSpansOf s key_cmp m
  empty_spanned s q some = elim (tree.get key_cmp m q) as (λ o. tree.get key_cmp m q ≡ o → IsSome o → IsSpanOf s (span_of q)) [
    | None ↦ λ e h. cc
    | Some x ↦ λ e h. absurd (nothing_at q x e)
  ] refl some

pub empty_main : (entries : Entries) → entries ≡ finite.empty → HaveNoSubstreams entries
empty_main entries none t e is = let no_entry : None ≡ Some e = sym (get-empty {X = Entry} tag_cmp t) ∙ subst (λ m. finite.get m t ≡ Some e) none is in cc

-- ---- entries are taken out
module _ (m n : BTreeMap Key Entry) (part : IsPartOf key_cmp n m) where
  pub part_keeping : IsKeeping key_cmp m → IsKeeping key_cmp n
  part_keeping keeping q e there = keeping q e (part q e there)

  pub part_spanned : (s : Spans) → AreSpansOf s key_cmp m → AreSpansOf s key_cmp n
  part_spanned s spanned q some = elim (tree.get key_cmp n q) as (λ o. tree.get key_cmp n q ≡ o → IsSome o → IsSpanOf s (span_of q)) [
    | None ↦ λ e h. cc
    | Some x ↦ λ e h. spanned q (some_is _ x (part q x e))
  ] refl some

pub part_without : (p : Tag → Bool) (m n : BTreeMap Key Entry) → IsWithout key_cmp (passes_key p) m n → IsPartOf key_cmp n m
part_without p m n w q e there = some_was _ _ e (sym (w q) ∙ there)

pub without_main : (p : Tag → Bool) (m : Entries) → HaveNoSubstreams m → HaveNoSubstreams (without_passing p m)
without_main p m none t e is = none t e (some_was (p t) _ e (sym (get_without p m t) ∙ is))

pub removed_main : (m : Entries) (t : Tag) → HaveNoSubstreams m → HaveNoSubstreams (finite.remove m t)
removed_main m t none u e is = none u e (some_was (eq_by_cmp tag_cmp u t) _ e (sym (get-remove tag_cmp_total m t u) ∙ is))

-- ---- an entry is put in
module _ (m n : BTreeMap Key Entry) (k : Key) (e : Entry) (own : k ≡ key_of e.tag) (put : Updates key_cmp m n k (Some e)) where
  put_keeping : IsKept e.tag e → IsKeeping key_cmp m → IsKeeping key_cmp n
  put_keeping here keeping q x there = elim (is_at (key_cmp k) q) as (λ b. is_at (key_cmp k) q ≡ b → cond b (Some e) (tree.get key_cmp m q) ≡ Some x → IsKept (tag_of q) x) [
    | true ↦ λ at is.
        let same : e ≡ x = cc in
        subst (IsKept (tag_of q)) same (subst (λ t. IsKept t e) (sym (tag_back e.tag) ∙ ap tag_of (sym own ∙ tells_apart key_exact k q at)) here)
    | false ↦ λ _ is. keeping q x is
  ] refl (sym (put.0 q) ∙ there)

  put_spanned : (a b : Spans) → ((s : ℕ) → IsSpanOf a s → IsSpanOf b s) → IsSpanOf b (span_of k) → AreSpansOf a key_cmp m → AreSpansOf b key_cmp n
  put_spanned a b more added spanned q some = elim (is_at (key_cmp k) q) as (λ c. is_at (key_cmp k) q ≡ c → IsSome (cond c (Some e) (tree.get key_cmp m q)) → IsSpanOf b (span_of q)) [
    | true ↦ λ at _. subst (λ x. IsSpanOf b (span_of x)) (tells_apart key_exact k q at) added
    | false ↦ λ _ there. more (span_of q) (spanned q there)
  ] refl (subst IsSome (put.0 q) some)

-- Where no substream's descriptor was put in, none was before, and this isn't one.
put_main : (a b : Bool) (old : Entries) (e : Entry) → (b ≡ false → (a ≡ false) × (is_of_substream e.tag ≡ false)) → (a ≡ false → HaveNoSubstreams old) → b ≡ false → HaveNoSubstreams (finite.insert old e.tag e)
put_main a b old e main none here t x is = elim (eq_by_cmp tag_cmp t e.tag) as (λ c. eq_by_cmp tag_cmp t e.tag ≡ c → cond c (Some e) (finite.get old t) ≡ Some x → is_of_substream t ≡ false) [
  | true ↦ λ at _. ap is_of_substream (tag_cmp_exact t e.tag ((Equal-is (tag_cmp t e.tag)).0 at)) ∙ (main here).1
  | false ↦ λ _ there. none (main here).0 t x there
] refl (sym (get-insert tag_cmp_total old e.tag e t) ∙ is)

pub put_stays : (a b : Inside) (k : Key) (e : Entry) → IsEntryMap key_cmp a → k ≡ key_of e.tag → Updates key_cmp a.map.ordered b.map.ordered k (Some e) → IsBlock e.tag → page_of k < 2 ^ 52
    → ((s : ℕ) → IsSpanOf a.spans s → IsSpanOf b.spans s) → IsSpanOf b.spans (span_of (key_of e.tag)) → (b.substreams ≡ false → (a.substreams ≡ false) × (is_of_substream e.tag ≡ false))
    → unremoved b ≡ finite.insert (unremoved a) e.tag e → b.len ≡ finite.len (unremoved b) → IsEntryMap key_cmp b
put_stays a b k e before own put block page more added main after counted =
    let here : IsKept e.tag e = record { own = refl; well_formed = block; in_space = subst (λ q. page_of q < 2 ^ 52) own page } in
    record {
      counted = counted;
      keeping = put_keeping a.map.ordered b.map.ordered k e own put here before.keeping;
      spanned = put_spanned a.map.ordered b.map.ordered k e own put a.spans b.spans more (subst (λ q. IsSpanOf b.spans (span_of q)) (sym own) added) before.spanned;
      main = λ none. subst HaveNoSubstreams (sym after) (put_main a.substreams b.substreams (unremoved a) e main before.main none);
    }

-- Where a tag's entry is gone, what is left is left without that too.
is_left : (p : Tag → Bool) (m n : BTreeMap Key Entry) → IsWithout key_cmp (passes_key p) m n → (t : Tag) → finite.get (unlisted n []) t ≡ None → (u : Tag) → IsSome (finite.get (unlisted n []) u) → IsSome (finite.get (finite.remove (unlisted m []) t) u)
is_left p m n w t gone u some = subst IsSome (sym (get-remove tag_cmp_total (unlisted m []) t u)) (elim (eq_by_cmp tag_cmp u t) as (λ b. eq_by_cmp tag_cmp u t ≡ b → IsSome (cond b None (finite.get (unlisted m []) u))) [
  | true ↦ λ at. absurd (some_not_none _ some (ap (finite.get (unlisted n [])) (tag_cmp_exact u t ((Equal-is (tag_cmp u t)).0 at)) ∙ gone))
  | false ↦ λ _. subst IsSome (sym (get_unlisted m [] u)) (some_within (passes_key p (key_of u)) _ (subst IsSome (get_unlisted n [] u ∙ w (key_of u)) some))
] refl)

-- Where as many are left as there were, nothing was taken out.
none_gone : (p : Tag → Bool) (m n : BTreeMap Key Entry) → IsWithout key_cmp (passes_key p) m n → tree.IsOrdered key_cmp m → tree.IsOrdered key_cmp n → length n.entries ≡ length m.entries → (q : Key) → tree.get key_cmp n q ≡ tree.get key_cmp m q
none_gone p m n w om on same q = w q ∙ elim (passes_key p q) as (λ b. passes_key p q ≡ b → cond b None (tree.get key_cmp m q) ≡ tree.get key_cmp m q) [
  | false ↦ λ _. refl
  | true ↦ λ covered. elim (tree.get key_cmp m q) as (λ o. tree.get key_cmp m q ≡ o → None ≡ o) [
    | None ↦ λ _. refl
    | Some x ↦ λ there.
        let t = tag_of q in
        let some : is_some (finite.get (unlisted m []) t) ≡ true = ap is_some (get_unlisted m [] t ∙ ap (tree.get key_cmp m) (key_back q) ∙ there) in
        let less = one_less (unlisted m []) t some in
        let gone : finite.get (unlisted n []) t ≡ None = get_unlisted n [] t ∙ ap (tree.get key_cmp n) (key_back q) ∙ w q ∙ ap (λ b. cond b None (tree.get key_cmp m q)) covered in
        let within : finite.len (unlisted n []) ≤ finite.len (finite.remove (unlisted m []) t) = shorter tag_cmp_total (finite.remove (unlisted m []) t) (unlisted n []) (λ u some. is_left p m n w t gone u some) in
        let before = len_unlisted m om in
        let after = len_unlisted n on in
        absurd (omega (arith, same, before, after, within, less.0, less.1))
  ] refl
] refl

pub unlisted_whole : (p : Tag → Bool) (m n : BTreeMap Key Entry) (ks : List Key) → IsWithout key_cmp (passes_key p) m n → tree.IsOrdered key_cmp m → tree.IsOrdered key_cmp n → length n.entries ≡ length m.entries → unlisted n ks ≡ unlisted m ks
unlisted_whole p m n ks w om on same = same_map tag_cmp_total tag_cmp_exact _ _ (λ t. get_unlisted n ks t ∙ ap (cond (is_listed ks t) None) (none_gone p m n w om on same (key_of t)) ∙ sym (get_unlisted m ks t))

-- ---- a list is made anew
either_none : (a s : Bool) (o : Option Entry) → cond a None o ≡ None → cond (a || s) None o ≡ None
either_none true s o e = refl
either_none false s o e = none_either s o e

listed_both : (ks js : List Key) (t : Tag) → is_listed (ks ++ js) t ≡ (is_listed ks t || is_listed js t)
listed_both ks js t = list_any-append (λ key. eq_by_cmp tag_cmp t (tag_of key)) ks js

-- A key that is listed before, or that the map lacks, may be left out.
pub unlisted_skipped : (m : BTreeMap Key Entry) (ks js : List Key) (k : Key) → (is_some (tree.get key_cmp m k) && not (is_listed ks (tag_of k))) ≡ false → unlisted m (ks ++ js) ≡ unlisted m (ks ++ k ∷ js)
unlisted_skipped m ks js k none = same_map tag_cmp_total tag_cmp_exact _ _ (λ t.
    let o = tree.get key_cmp m (key_of t) in
    let a = is_listed ks t in
    get_unlisted m (ks ++ js) t ∙ ap (λ b. cond b None o) (listed_both ks js t)
    ∙ elim (eq_by_cmp tag_cmp t (tag_of k)) as (λ b. eq_by_cmp tag_cmp t (tag_of k) ≡ b → cond (a || is_listed js t) None o ≡ cond (a || (b || is_listed js t)) None o) [
      | true ↦ λ at.
          let gone : cond a None o ≡ None = sym (get_unlisted m ks t) ∙ ap (finite.get (unlisted m ks)) (tag_cmp_exact t (tag_of k) ((Equal-is (tag_cmp t (tag_of k))).0 at)) ∙ unlisted_lacks m ks k none in
          either_none a (is_listed js t) o gone ∙ sym (either_none a true o gone)
      | false ↦ λ _. refl
    ] refl
    ∙ sym (get_unlisted m (ks ++ k ∷ js) t ∙ ap (λ b. cond b None o) (listed_both ks (k ∷ js) t)))
