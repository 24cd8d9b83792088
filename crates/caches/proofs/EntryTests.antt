-- Entries that pass a test, by their tags and by their keys.
use Rattle.std.proofs.Common.{◌≡◌, Bool, true, false, cond, IsSome, Option, Some, None, refl, sym, ◌∙◌, ap, subst, List}
use Rattle.std.specs.Option.{option_map_or}
use Rattle.std.specs.BTreeMap.{BTreeMap}
use Rattle.std.specs.BTreeMap as tree
use Rattle.std.specs.FinMap as finite
use Rattle.std.specs.FinMap.{same_map}
use Rattle.caches.specs.declared.tag.Tag.{Tag}
use Rattle.caches.specs.declared.tag.Entry.{Entry}
use Rattle.caches.specs.declared.key.Key.{Key}
use Rattle.caches.specs.Held.{Entries, AreOwn, holds_passing, without_evicted, without_passing}
use Rattle.caches.specs.Keys.{key_of, passes_key}
use Rattle.caches.specs.Sweep.{has_passing, IsRidOf, IsWithout}
use Rattle.caches.specs.TagOrder.{tag_cmp_total, tag_cmp_exact}
use Rattle.caches.specs.Unlisted.{is_listed, unlisted, IsPartOf}
use Rattle.caches.proofs.KeyOrder.{key_cmp}
use Rattle.caches.proofs.Pruned.{none_either, some_not_none, some_was}
use Rattle.caches.proofs.Viewed.{get_unlisted, get_without, key_back, unlisted_without}

pub is_there : {X : Type 0} (o : Option X) (x : X) → o ≡ Some x → IsSome o
is_there o x is = subst IsSome (sym is) refl

-- What is still there passes as it did.
pub as_before : {X : Type 0} (p : X → Bool) (b : Bool) (now old : Option X) → now ≡ cond b None old → IsSome now → option_map_or p now false ≡ option_map_or p old false
as_before p true now old is some = absurd (some_not_none now some is)
as_before p false now old is some = ap (λ o. option_map_or p o false) is

-- Two tests that agree on all that is held leave the same.
pub same_without : (p r : Tag → Bool) (m : Entries) → ((t : Tag) → IsSome (finite.get m t) → p t ≡ r t) → without_passing p m ≡ without_passing r m
same_without p r m agree = same_map tag_cmp_total tag_cmp_exact _ _ (λ t. get_without p m t
    ∙ elim (finite.get m t) as (λ o. finite.get m t ≡ o → cond (p t) None o ≡ cond (r t) None o) [
      | None ↦ λ _. none_either (p t) None refl ∙ sym (none_either (r t) None refl)
      | Some x ↦ λ is. ap (λ b. cond b None (Some x)) (agree t (is_there (finite.get m t) x is))
    ] refl
    ∙ sym (get_without r m t))

-- A test of the tags of entries is one of the tags that they are held under.
pub by_own_tags : (p : Tag → Bool) (m : Entries) → AreOwn m → without_evicted (λ (e : Entry). p e.tag) m ≡ without_passing p m
by_own_tags p m own = same_without (holds_passing (λ (e : Entry). p e.tag) m) p m (λ t some.
    elim (finite.get m t) as (λ o. finite.get m t ≡ o → IsSome o → option_map_or (λ (e : Entry). p e.tag) o false ≡ p t) [
      | None ↦ λ _ none. cc
      | Some e ↦ λ is _. ap p (own t e is)
    ] refl some)

-- What passes a test goes from the map, listed or not.
module _ (p : Entry → Bool) (m n : BTreeMap Key Entry) (rid : IsRidOf key_cmp p m n) where
  pub part_rid : IsPartOf key_cmp n m
  part_rid q e there = some_was _ _ e (sym (rid q) ∙ there)

  pub unlisted_rid : (ks : List Key) → unlisted n ks ≡ without_evicted p (unlisted m ks)
  unlisted_rid ks =
      let by_tag : Tag → Bool = λ t. has_passing key_cmp p m (key_of t) in
      let without : IsWithout key_cmp (passes_key by_tag) m n = λ q. rid q ∙ ap (λ k. cond (has_passing key_cmp p m k) None (tree.get key_cmp m q)) (sym (key_back q)) in
      unlisted_without by_tag m n ks without
      ∙ same_without by_tag (holds_passing p (unlisted m ks)) (unlisted m ks) (λ t some. sym (as_before p (is_listed ks t) _ _ (get_unlisted m ks t) some))
