-- Maps that lost some of the entries that pass a test.
use Rattle.std.proofs.Common.{◌≡◌, ◌≤◌, ◌%◌, ◌^◌, Bool, true, false, ◌&&◌, ◌⊎◌, inl, inr, cond, IsSome, Option, Some, None, refl, sym, ◌∙◌, ap, subst, List, [], ◌∷◌, length, arith}
use Rattle.std.specs.declared.cmp.Ordering.{Ordering}
use Rattle.std.specs.declared.ops.Bound.{Bound}
use Rattle.std.specs.Map.{lookup}
use Rattle.std.specs.BTreeMap.{BTreeMap, get, is_at}
use Rattle.std.specs.BTreeMap.Range.{range_contains}
use Rattle.caches.specs.declared.tag.Entry.{Entry}
use Rattle.caches.specs.declared.key.Key.{Key}
use Rattle.caches.specs.Keys.{IsKept, tag_of, key_of, page_of, span_of}
use Rattle.caches.specs.Blocks.{IsBlock}
use Rattle.caches.specs.declared.key.Stage.TheVariants.{Two, One}
use Rattle.caches.specs.declared.key.Key.TheVariants.{Configuration, Machine, Hypervisor, Endpoint}
use Rattle.caches.proofs.KeyOrder.{key_cmp}
use Rattle.caches.specs.Sweep.{is_swept, IsPruned, IsWithout, IsKeeping}
use Rattle.caches.proofs.Sweeping.{not_both}

pub some_not_none : {X : Type 0} (o : Option X) → IsSome o → o ≡ None → ⊥
some_not_none None s e = cc
some_not_none (Some x) s e = cc

pub none_either : {X : Type 0} (b : Bool) (o : Option X) → o ≡ None → cond b None o ≡ None
none_either true o e = refl
none_either false o e = e

none_of_empty : {K X : Type 0} (t : K → Bool) (es : List (K × X)) → length es ≡ 0 → lookup t es ≡ None
none_of_empty t [] e = refl
none_of_empty t (x ∷ es) e = absurd (omega arith)

module _ {K X : Type 0} (R : K → K → Ordering) (p : K → Bool) where
  module _ (lo hi : Bound K) (m n : BTreeMap K X) (after : (q : K) → get R n q ≡ cond (is_swept R p lo hi q) None (get R m q)) where
    pub without_from_swept : ((q : K) → p q ≡ true → range_contains R lo hi q ≡ true) → IsWithout R p m n
    without_from_swept reach q =
        elim (p q) as (λ b. p q ≡ b → get R n q ≡ cond (range_contains R lo hi q && b) None (get R m q) → get R n q ≡ cond b None (get R m q)) [
          | true ↦ λ e h. h ∙ ap (λ t. cond (t && true) None (get R m q)) (reach q e)
          | false ↦ λ e h. h ∙ elim (range_contains R lo hi q) as (λ t. cond (t && false) None (get R m q) ≡ get R m q) [ true ↦ refl | false ↦ refl ]
        ] refl (after q)

    -- The same if only the map's own keys need be in the range.
    pub without_from_kept : ((q : K) (e : X) → p q ≡ true → get R m q ≡ Some e → range_contains R lo hi q ≡ true) → IsWithout R p m n
    without_from_kept reach q =
        elim (get R m q) as (λ o. get R m q ≡ o → get R n q ≡ cond (p q) None (get R m q)) [
          | None ↦ λ e. (after q ∙ none_either _ _ e) ∙ sym (none_either _ _ e)
          | Some x ↦ λ e. elim (p q) as (λ b. p q ≡ b → get R n q ≡ cond (range_contains R lo hi q && b) None (get R m q) → get R n q ≡ cond b None (get R m q)) [
            | true ↦ λ is h. h ∙ ap (λ t. cond (t && true) None (get R m q)) (reach q x is e)
            | false ↦ λ is h. h ∙ elim (range_contains R lo hi q) as (λ t. cond (t && false) None (get R m q) ≡ get R m q) [ true ↦ refl | false ↦ refl ]
          ] refl (after q)
        ] refl

  -- Nothing is removed from an empty map.
  pub without_nothing : (m : BTreeMap K X) → length m.entries ≡ 0 → IsWithout R p m m
  without_nothing m e q =
      let none : get R m q ≡ None = none_of_empty (is_at (R q)) m.entries e in
      none ∙ sym (none_either (p q) (get R m q) none)

  pub pruned_trans : (l m n : BTreeMap K X) → IsPruned R p l m → IsPruned R p m n → IsPruned R p l n
  pruned_trans l m n f g q =
      elim (g q) as (λ _. (get R n q ≡ get R l q) ⊎ ((p q ≡ true) × (get R n q ≡ None))) [
        | inl e ↦ elim (f q) as (λ _. (get R n q ≡ get R l q) ⊎ ((p q ≡ true) × (get R n q ≡ None))) [
          | inl d ↦ inl (e ∙ d)
          | inr d ↦ inr (d.0, e ∙ d.1)
        ]
        | inr e ↦ inr e
      ]

  pub none_pruned : (m n : BTreeMap K X) → IsPruned R p m n → (q : K) → get R m q ≡ None → get R n q ≡ None
  none_pruned m n f q e = elim (f q) as (λ _. get R n q ≡ None) [ inl d ↦ d ∙ e | inr d ↦ d.1 ]

  pub without_from_pruned : (m n : BTreeMap K X) → IsPruned R p m n → ((q : K) → p q ≡ true → get R n q ≡ None) → IsWithout R p m n
  without_from_pruned m n f clean q =
      elim (p q) as (λ b. p q ≡ b → get R n q ≡ cond b None (get R m q)) [
        | true ↦ λ e. clean q e
        | false ↦ λ e. elim (f q) as (λ _. get R n q ≡ get R m q) [ inl d ↦ d | inr d ↦ absurd (not_both (p q) e d.0) ]
      ] refl

  pub some_before : (m n : BTreeMap K X) → IsPruned R p m n → (q : K) → IsSome (get R n q) → IsSome (get R m q)
  some_before m n f q s = elim (f q) as (λ _. IsSome (get R m q)) [ inl e ↦ subst IsSome e s | inr e ↦ absurd (some_not_none _ s e.1) ]

pub some_was : {X : Type 0} (b : Bool) (o : Option X) (x : X) → cond b None o ≡ Some x → o ≡ Some x
some_was true o x e = cc
some_was false o x e = e

pub page_back : (q : Key) → page_of (key_of (tag_of q)) ≡ page_of q
page_back (Configuration s None) = refl
page_back (Configuration s (Some c)) = refl
page_back (Machine v p n Two) = refl
page_back (Machine v p n (One c)) = refl
page_back (Hypervisor p n c) = refl
page_back (Endpoint v p n c) = refl

-- blocks of the map are well formed, by their keys
pub aligned_key : (q : Key) → IsBlock (tag_of q) → (span_of q ≤ 52) × (page_of q % 2 ^ span_of q ≡ 0)
aligned_key (Configuration s None) h = (omega arith, refl)
aligned_key (Configuration s (Some c)) h = (omega arith, refl)
aligned_key (Machine v p n Two) h = (h.0.at_most, h.0.multiple)
aligned_key (Machine v p n (One c)) h = (h.at_most, h.multiple)
aligned_key (Hypervisor p n c) h = (h.at_most, h.multiple)
aligned_key (Endpoint v p n c) h = (h.at_most, h.multiple)

pub keeping_pruned : (p : Key → Bool) (m n : BTreeMap Key Entry) → IsPruned key_cmp p m n → IsKeeping key_cmp m → IsKeeping key_cmp n
keeping_pruned p m n f h q e is =
    elim (f q) as (λ _. IsKept (tag_of q) e) [
      | inl same ↦ h q e (sym same ∙ is)
      | inr gone ↦ let no_entry : None ≡ Some e = sym gone.1 ∙ is in cc
    ]

-- An option is none if each value it could have is refuted.
pub none_unless : {X : Type 0} (o : Option X) → ((x : X) → o ≡ Some x → o ≡ None) → o ≡ None
none_unless None h = refl
none_unless (Some x) h = h x refl
