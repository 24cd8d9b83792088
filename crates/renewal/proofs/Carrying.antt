-- Entries are put in one by one.
use Rattle.std.proofs.Common.{◌≡◌, ◌<◌, ◌≤◌, ◌+◌, ℕ, Bool, true, false, cond, is_some, List, [], ◌∷◌, length, get_or, Option, Some, None, refl, sym, ap, ◌∙◌, subst, arith}
use Rattle.std.specs.Prelude.{IfSome, All}
use Rattle.std.specs.List.{AllWithin}
use Rattle.std.specs.Map.{values_of}
use Rattle.std.specs.Ordering.{eq_by_cmp}
use Rattle.std.specs.Cmp.{eq_by_cmp_equiv}
use Rattle.std.specs.FinMap as finite
use Rattle.std.specs.FinMap.{find, get-entries, get-insert, get-empty, len-insert, len-empty}
use Rattle.std.proofs.lemmas.List.Elements.{All-head, All-tail, AllWithin-none, AllWithin-more, All-from_all_within, at_read}
use Rattle.std.proofs.lemmas.Map.Views.{tells_apart}
use Rattle.caches.specs.declared.tag.Tag.{Tag}
use Rattle.caches.specs.declared.tag.Entry.{Entry}
use Rattle.caches.specs.TagOrder.{tag_cmp, tag_cmp_total, tag_cmp_exact}
use Rattle.caches.specs.Held.{Entries}
use Rattle.renewal.specs.Carried.{reborn, reborn_if, IsUnderItsTag, IsReborn}

-- If it is held under its own tag it is in, reborn.
abbrev pub IsIn : Entries → Entries → Entry → Type 0
IsIn held now e = finite.get held e.tag ≡ Some e → finite.get now e.tag ≡ Some (reborn e)

-- The first `many` of the list are in, nothing that isn't held is, and there are no more than these.
pub record AreIn (held : Entries) (list : List Entry) (many : ℕ) (now : Entries) : Type 0 where
  pub done : AllWithin (IsIn held now) list 0 many
  pub only : (tag : Tag) (e : Entry) → finite.get now tag ≡ Some e → IsReborn held tag e
  pub few : finite.len now ≤ many

pub none_in : (held : Entries) (list : List Entry) (now : Entries) → now ≡ finite.empty → AreIn held list 0 now
none_in held list now empty = record {
  done = AllWithin-none (IsIn held now) list 0;
  only = λ tag e at. let none = ap (λ (m : Entries). finite.get m tag) empty ∙ get-empty {X = Entry} tag_cmp tag in absurd (cc);
  few = (let none = ap (λ (m : Entries). finite.len m) empty ∙ len-empty tag_cmp Entry in omega (arith, none));
}

module _ (held now : Entries) (x : Entry) (own : finite.get held x.tag ≡ Some x) where
  abbrev next : Entries
  next = finite.insert now x.tag (reborn x)

  -- Under a tag is the new entry or what was there.
  either : (tag : Tag) (P : Option Entry → Type 0) → (tag ≡ x.tag → P (Some (reborn x))) → P (finite.get now tag) → P (finite.get next tag)
  either tag P here there =
      subst P (sym (get-insert tag_cmp_total now x.tag (reborn x) tag))
      (elim (eq_by_cmp tag_cmp tag x.tag) as (λ b. eq_by_cmp tag_cmp tag x.tag ≡ b → P (cond b (Some (reborn x)) (finite.get now tag))) [
        | true ↦ λ same. here (tells_apart tag_cmp_exact tag x.tag same)
        | false ↦ λ apart. there
      ] refl)

  new_in : (e : Entry) → finite.get held e.tag ≡ Some e → e.tag ≡ x.tag → Some (reborn x) ≡ Some (reborn e)
  new_in e its same = let one : Some x ≡ Some e = sym own ∙ ap (finite.get held) (sym same) ∙ its in let is : x ≡ e = cc in ap (λ (y : Entry). Some (reborn y)) is

  here : finite.get next x.tag ≡ Some (reborn x)
  here = get-insert tag_cmp_total now x.tag (reborn x) x.tag ∙ ap (λ (b : Bool). cond b (Some (reborn x)) (finite.get now x.tag)) ((eq_by_cmp_equiv tag_cmp_total).refl x.tag)

  one_longer : (many : ℕ) → finite.len now ≤ many → finite.len next ≤ many + 1
  one_longer many few =
      elim (is_some (finite.get now x.tag)) as (λ b. finite.len next ≡ cond b (finite.len now) (finite.len now + 1) → finite.len next ≤ many + 1) [
        | true ↦ λ same. omega arith
        | false ↦ λ more. omega arith
      ] (len-insert tag_cmp_total now x.tag (reborn x))

  pub one_more_in : (list : List Entry) (many : ℕ) → many < length list → x ≡ get_or list many x → AreIn held list many now → AreIn held list (many + 1) next
  one_more_in list many below at was = record {
    done = AllWithin-more (IsIn held next) list 0 many
        (λ k d first before its. either _ (λ (o : Option Entry). o ≡ Some (reborn (get_or list k d))) (new_in _ its) (was.done k d first before its))
        (at_read list (IsIn held next) many x below at (λ its. here));
    only = λ tag e.
        either tag (λ (o : Option Entry). o ≡ Some e → IsReborn held tag e)
        (λ same is. let is : reborn x ≡ e = cc in record { own = ap (λ (y : Entry). y.tag) (sym is) ∙ sym same; was = x; held = ap (finite.get held) same ∙ own; entry_is = sym is })
        (was.only tag e);
    few = one_longer many was.few;
  }

-- ---- all of them

-- What holds of all values holds of the one that is found.
found : (P : Entry → Type 0) (tag : Tag) (es : List (Tag × Entry)) → All P (values_of es) → IfSome (find tag_cmp tag es) P
found P tag [] all = tt
found P tag (p ∷ es) all =
    elim (eq_by_cmp tag_cmp tag p.0) as (λ b. IfSome (cond b (Some p.1) (find tag_cmp tag es)) P) [
      | true ↦ All-head P p.1 (values_of es) all
      | false ↦ found P tag es (All-tail P p.1 (values_of es) all)
    ]

module _ (held now : Entries) (are : AreIn held (finite.values held) (length (finite.values held)) now) where
  by_old : (tag : Tag) (old : Option Entry) → finite.get held tag ≡ old → IfSome old (λ e. e.tag ≡ tag) → IfSome old (IsIn held now) → finite.get now tag ≡ reborn_if old
  by_old tag None was own is =
      elim (finite.get now tag) as (λ new. finite.get now tag ≡ new → new ≡ None) [
        | None ↦ λ at. refl
        | Some e ↦ λ at. let other = (are.only tag e at).held in absurd (cc)
      ] refl
  by_old tag (Some e) was own is = ap (finite.get now) (sym own) ∙ is (ap (finite.get held) own ∙ was)

  pub each_in : (tag : Tag) → IsUnderItsTag held tag → finite.get now tag ≡ reborn_if (finite.get held tag)
  each_in tag own =
      by_old tag (finite.get held tag) refl own
      (subst (λ (o : Option Entry). IfSome o (IsIn held now)) (sym (get-entries held tag)) (found (IsIn held now) tag (finite.entries held) (All-from_all_within (IsIn held now) (finite.values held) are.done)))
