-- Evictions of all tags that pass a test, one after another.
use Rattle.std.proofs.Common.{◌≡◌, Bool, true, false, true≢false, ◌&&◌, ◌||◌, cond, Option, None, refl, sym, ◌∙◌, ap, List, [], ◌∷◌, ◌++◌, filter, map}
use Rattle.std.specs.List.{list_any}
use Rattle.std.specs.Ordering.{eq_by_cmp}
use Rattle.std.specs.Cmp.{Equal-is}
use Rattle.std.specs.FinMap as finite
use Rattle.std.specs.FinMap.{contains_key-keys, get-remove, same_map}
use Rattle.caches.specs.declared.tag.Tag.{Tag}
use Rattle.caches.specs.declared.tag.Entry.{Entry}
use Rattle.caches.specs.Held.{Entries, Evict, History, evictions, held, without_passing}
use Rattle.caches.specs.TagOrder.{tag_cmp, tag_cmp_total, tag_cmp_exact}
use Rattle.caches.proofs.Viewed.{get_without, none_if_not_some}

-- whether a tag is among some
abbrev pub among : Tag → List Tag → Bool
among tag tags = list_any (λ other. eq_by_cmp tag_cmp tag other) tags

either : (a b : Bool) (o : Option Entry) → cond a None (cond b None o) ≡ cond (a || b) None o
either true b o = refl
either false b o = refl

pub get_evicted : (tags : List Tag) (h : History) (t : Tag) → finite.get (held (map Evict tags ++ h)) t ≡ cond (among t tags) None (finite.get (held h) t)
get_evicted [] h t = refl
get_evicted (x ∷ xs) h t = get-remove tag_cmp_total (held (map Evict xs ++ h)) x t ∙ ap (cond (eq_by_cmp tag_cmp t x) None) (get_evicted xs h t) ∙ either (eq_by_cmp tag_cmp t x) (among t xs) (finite.get (held h) t)

-- Of some tags, those that pass a test are among the passing ones, and no others.
among_passing : (p : Tag → Bool) (tags : List Tag) (t : Tag) → among t (filter p tags) ≡ (p t && among t tags)
among_passing p [] t = sym (none (p t))
  where
    none : (b : Bool) → (b && false) ≡ false
    none true = refl
    none false = refl
among_passing p (x ∷ xs) t = elim (p x) as (λ b. p x ≡ b → among t (cond b (x ∷ filter p xs) (filter p xs)) ≡ (p t && (eq_by_cmp tag_cmp t x || among t xs))) [
  | true ↦ λ is. ap (λ b. eq_by_cmp tag_cmp t x || b) (among_passing p xs t) ∙ with_one (eq_by_cmp tag_cmp t x) (p t) (among t xs) (λ at. ap p (tag_cmp_exact t x ((Equal-is (tag_cmp t x)).0 at)) ∙ is)
  | false ↦ λ is. among_passing p xs t ∙ without_one (eq_by_cmp tag_cmp t x) (p t) (among t xs) (λ at. ap p (tag_cmp_exact t x ((Equal-is (tag_cmp t x)).0 at)) ∙ is)
] refl
  where
    with_one : (a b c : Bool) → (a ≡ true → b ≡ true) → (a || (b && c)) ≡ (b && (a || c))
    with_one true true c h = refl
    with_one true false c h = absurd (true≢false (sym (h refl)))
    with_one false b c h = refl

    without_one : (a b c : Bool) → (a ≡ true → b ≡ false) → (b && c) ≡ (b && (a || c))
    without_one true true c h = absurd (true≢false (h refl))
    without_one true false c h = refl
    without_one false b c h = refl

-- Evicting all tags that pass is to keep the others.
pub evicted_are : (p : Tag → Bool) (m : Entries) (h : History) → m ≡ held h → without_passing p m ≡ held (evictions p m ++ h)
evicted_are p m h is = same_map tag_cmp_total tag_cmp_exact _ _ (λ t.
    get_without p m t ∙ gone t (p t) (among t (finite.keys m)) refl
    ∙ ap (λ b. cond b None (finite.get m t)) (sym (among_passing p (finite.keys m) t))
    ∙ ap (λ x. cond (among t (filter p (finite.keys m))) None (finite.get x t)) is
    ∙ sym (get_evicted (filter p (finite.keys m)) h t))
  where
    gone : (t : Tag) (b a : Bool) → among t (finite.keys m) ≡ a → cond b None (finite.get m t) ≡ cond (b && a) None (finite.get m t)
    gone t true true e = refl
    gone t true false e = sym (none_if_not_some (finite.get m t) (contains_key-keys m t ∙ e))
    gone t false a e = refl
