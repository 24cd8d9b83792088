-- What `held` has at a tag is the fill that nothing later ends.
use Rattle.std.proofs.Common.{◌≡◌, true, false, cond, Option, Some, None, refl, sym, ◌∙◌, ap, subst, [], ◌∷◌, ◌++◌, All}
use Rattle.std.specs.Ordering.{is_eq}
use Rattle.std.specs.Cmp.{tied_itself, Equal-is}
use Rattle.std.specs.FinMap as finite
use Rattle.std.specs.FinMap.{get-empty, get-insert, get-remove, same_map}
use Rattle.std.proofs.lemmas.List.Elements.{All-nil, All-cons, All-head, All-tail}
use Rattle.caches.specs.declared.tag.Tag.{Tag}
use Rattle.caches.specs.declared.tag.Entry.{Entry}
use Rattle.caches.specs.Covers.{covers}
use Rattle.caches.specs.Held.{Item, Fill, Evict, Take, History, held, ends, IsStanding, HeldAre, Entries}
use Rattle.caches.specs.TagOrder.{tag_cmp, tag_cmp_total, tag_cmp_exact}
use Rattle.caches.proofs.Viewed.{get_without, same_option}

-- An item that doesn't end the entry of a tag leaves it; one that does leaves none, or its own entry.
standing_more : (i : Item) (h : History) (e : Entry) → ends i e.tag ≡ false → IsStanding h e → IsStanding (i ∷ h) e
standing_more i h e n s = record { later = i ∷ s.later; earlier = s.earlier; split = ap (λ r. i ∷ r) s.split; unended = All-cons (λ j. ends j e.tag ≡ false) i s.later n s.unended }

given : Item → Option Entry
given (Fill e) = Some e
given (Evict u) = None
given (Take c) = None

get_held : (i : Item) (h : History) (t : Tag) → finite.get (held (i ∷ h)) t ≡ cond (ends i t) (given i) (finite.get (held h) t)
unfolding given
get_held (Fill e) h t = get-insert tag_cmp_total (held h) e.tag e t
get_held (Evict u) h t = get-remove tag_cmp_total (held h) u t
get_held (Take c) h t = get_without (covers c) (held h) t

-- what is held at a tag
abbrev StandsAt : History → Tag → Entry → Type 0
StandsAt h t e = (e.tag ≡ t) × IsStanding h e

ended_by : (i : Item) (h : History) (t : Tag) (e : Entry) → ends i t ≡ true → given i ≡ Some e → StandsAt (i ∷ h) t e
unfolding given
ended_by (Fill x) h t e y g =
    let same : t ≡ x.tag = tag_cmp_exact t x.tag ((Equal-is (tag_cmp t x.tag)).0 y) in
    let entry : x ≡ e = cc in
    (sym (ap (λ (z : Entry). z.tag) entry) ∙ sym same, record { later = []; earlier = h; split = ap (λ z. Fill z ∷ h) entry; unended = All-nil (λ j. ends j e.tag ≡ false) })
ended_by (Evict u) h t e y g = cc
ended_by (Take c) h t e y g = cc

first_ends : (e : Entry) → (ends (Fill e) e.tag ≡ true) × (given (Fill e) ≡ Some e)
unfolding given
first_ends e = (ap is_eq (tied_itself tag_cmp_total e.tag), refl)

stands_held : (i : Item) (h : History) (e : Entry) → (IsStanding h e → finite.get (held h) e.tag ≡ Some e) → (later earlier : History) → i ∷ h ≡ later ++ Fill e ∷ earlier → All (λ j. ends j e.tag ≡ false) later → finite.get (held (i ∷ h)) e.tag ≡ Some e
stands_held i h e below [] earlier s free =
    let first : i ≡ Fill e = cc in
    get_held i h e.tag ∙ ap (λ j. cond (ends j e.tag) (given j) (finite.get (held h) e.tag)) first ∙ ap (λ b. cond b (given (Fill e)) (finite.get (held h) e.tag)) (first_ends e).0 ∙ (first_ends e).1
stands_held i h e below (j ∷ later) earlier s free =
    let first : i ≡ j = cc in
    let rest : h ≡ later ++ Fill e ∷ earlier = cc in
    let kept : ends i e.tag ≡ false = ap (λ k. ends k e.tag) first ∙ All-head (λ j. ends j e.tag ≡ false) j later free in
    get_held i h e.tag ∙ ap (λ b. cond b (given i) (finite.get (held h) e.tag)) kept ∙ below (record { later = later; earlier = earlier; split = rest; unended = All-tail (λ j. ends j e.tag ≡ false) j later free })

held_stands : (i : Item) (h : History) (t : Tag) (e : Entry) → (finite.get (held h) t ≡ Some e → StandsAt h t e) → finite.get (held (i ∷ h)) t ≡ Some e → StandsAt (i ∷ h) t e
held_stands i h t e below is =
    elim (ends i t) as (λ b. ends i t ≡ b → cond b (given i) (finite.get (held h) t) ≡ Some e → StandsAt (i ∷ h) t e) [
      | true ↦ λ y g. ended_by i h t e y g
      | false ↦ λ n g. let s = below g in (s.0, standing_more i h e (ap (ends i) s.0 ∙ n) s.1)
    ] refl (sym (get_held i h t) ∙ is)

nothing_stands : (e : Entry) (later earlier : History) → [] ≡ later ++ Fill e ∷ earlier → finite.get (held []) e.tag ≡ Some e
nothing_stands e [] earlier s = cc
nothing_stands e (j ∷ later) earlier s = cc

pub held_are : (h : History) → HeldAre h (held h)
held_are [] t e = (λ is. let n = get-empty {X = Entry} tag_cmp t in cc, λ s. nothing_stands e s.later s.earlier s.split)
held_are (i ∷ h) t e = (held_stands i h t e (held_are h t e).0, λ s. stands_held i h e (held_are h t e).1 s.later s.earlier s.split s.unended)

from_standing : (h : History) (m : Entries) → HeldAre h m → (t : Tag) (e : Entry) → StandsAt h t e → finite.get m t ≡ Some e
from_standing h m is t e s = subst (λ u. finite.get m u ≡ Some e) s.0 ((is t e).1 s.1)

pub held_only : (h : History) (m : Entries) → HeldAre h m → m ≡ held h
held_only h m is = same_map tag_cmp_total tag_cmp_exact m (held h) (λ t. same_option _ _ (λ e is_at. from_standing h (held h) (held_are h) t e ((is t e).0 is_at)) (λ e is_at. from_standing h m is t e ((held_are h t e).0 is_at)))
