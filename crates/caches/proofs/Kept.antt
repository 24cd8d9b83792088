-- The calls leave valid caches, within the capacity.
use Rattle.std.proofs.Common.{◌≡◌, ℕ, ◌+◌, ◌≤◌, ◌<◌, Bool, true, false, T, ◌&&◌, cond, ◌⊎◌, inl, inr, IsSome, Option, Some, None, is_some, refl, sym, ◌∙◌, ap, subst, List, [], ◌∷◌, arith}
use Rattle.std.specs.Prelude.{Result, Ok, Err}
use Rattle.std.specs.declared.cmp.Ordering.{Ordering}
use Rattle.std.specs.declared.cmp.Ordering.TheVariants.{Less, Equal, Greater}
use Rattle.std.specs.Ordering.{eq_by_cmp, is_eq, is_lt}
use Rattle.std.specs.Cmp.{IsTotalOrder, eq_by_cmp_equiv}
use Rattle.std.specs.List.{IsDistinct, AllByRecursion}
use Rattle.std.specs.Map.{lookup, keys_of}
use Rattle.std.specs.FinMap as finite
use Rattle.std.specs.FinMap.{FinMap, find, is_sorted, entries_sorted, get-entries, len-entries, contains_key-keys, len-insert, get-remove, len-empty}
use Rattle.std.specs.FinMap.Entries.{below_all}
use Rattle.std.proofs.lemmas.Map.Steps.{length-le_from_keys}
use Rattle.std.proofs.lemmas.Map.Entries.{length-keys_of}
use Rattle.std.proofs.lemmas.Map.Keys.{IsDistinct-cons}
use Rattle.caches.specs.declared.tag.Tag.{Tag}
use Rattle.caches.specs.declared.tag.Entry.{Entry}
use Rattle.caches.specs.declared.fault.CacheFault.{CacheFault}
use Rattle.caches.specs.declared.caches.Caches.TheInside.{Inside}
use Rattle.caches.specs.TagOrder.{tag_cmp, tag_cmp_total}
use Rattle.caches.specs.Held.{Entries, without_passing}
use Rattle.caches.specs.Stored.{IsFilled}
use Rattle.caches.specs.Views.{AreCaches}
use Rattle.caches.proofs.Viewed.{get_without}

left : (a b : Bool) → T (a && b) → T a
left true b p = tt
left false b p = p

right : (a b : Bool) → T (a && b) → T b
right true b p = p
right false b p = absurd p

lt_apart : (r : Ordering) → T (is_lt r) → is_eq r ≡ false
lt_apart Less p = refl
lt_apart Equal p = absurd p
lt_apart Greater p = refl

module _ {K X : Type 0} (R : K → K → Ordering) where
  apart_below : (x : K) (es : List (K × X)) → T (below_all R x es) → AllByRecursion (λ y. eq_by_cmp R x y ≡ false) (keys_of es)
  apart_below x [] h = tt
  apart_below x (e ∷ es) h = (lt_apart (R x e.0) (left _ _ h), apart_below x es (right _ _ h))

  pub distinct_sorted : (es : List (K × X)) → T (is_sorted R es) → IsDistinct (eq_by_cmp R) (keys_of es)
  unfolding IsDistinct
  distinct_sorted [] h = tt
  distinct_sorted (e ∷ es) h = IsDistinct-cons (eq_by_cmp R) e.0 (keys_of es) (apart_below e.0 es (left _ _ h)) (distinct_sorted es (right _ _ h))

  pub find_lookup : (q : K) (es : List (K × X)) → find R q es ≡ lookup (eq_by_cmp R q) es
  find_lookup q [] = refl
  find_lookup q (e ∷ es) = ap (cond (eq_by_cmp R q e.0) (Some e.1)) (find_lookup q es)

-- a map with fewer keys is shorter
pub shorter : {K X : Type 0} {R : K → K → Ordering} (o : IsTotalOrder R) (m n : FinMap R X) → ((q : K) → IsSome (finite.get n q) → IsSome (finite.get m q)) → finite.len n ≤ finite.len m
shorter {R = R} o m n h =
    let keys = length-le_from_keys (eq_by_cmp_equiv o) (finite.keys n) (finite.entries m) (distinct_sorted R (finite.entries n) (entries_sorted n))
    (λ q e. subst IsSome (get-entries m q ∙ find_lookup R q (finite.entries m)) (h q (contains_key-keys n q ∙ e))) in
    omega (arith, keys, len-entries n, len-entries m, length-keys_of (finite.entries n))

pub some_within : {X : Type 0} (b : Bool) (o : Option X) → IsSome (cond b None o) → IsSome o
some_within true o h = cc
some_within false o h = h

-- Removing what passes a test leaves valid caches.
less_are : (a b : Inside) → b.capacity ≡ a.capacity → AreCaches a → (p : Tag → Bool) → ((t : Tag) → finite.get b.held t ≡ cond (p t) None (finite.get a.held t)) → AreCaches b
less_are a b same h p less =
    let shrinks = shorter tag_cmp_total a.held b.held (λ t s. some_within (p t) _ (subst IsSome (less t) s)) in
    let room = h.room in
    let limit = h.limit in
    record { limit = omega (arith, same, limit); room = omega (arith, same, shrinks, room) }

pub len_without : (p : Tag → Bool) (m : Entries) → finite.len (without_passing p m) ≤ finite.len m
len_without p m = shorter tag_cmp_total m (without_passing p m) (λ t s. some_within (p t) _ (subst IsSome (get_without p m t) s))

pub are_without : (p : Tag → Bool) (a b : Inside) → b.capacity ≡ a.capacity → AreCaches a → b.held ≡ without_passing p a.held → AreCaches b
are_without p a b same h e = less_are a b same h p (λ t. ap (λ m. finite.get m t) e ∙ get_without p a.held t)

pub are_evicted : (a b : Inside) (t : Tag) → b.capacity ≡ a.capacity → AreCaches a → b.held ≡ finite.remove a.held t → AreCaches b
are_evicted a b t same h e = less_are a b same h (λ q. eq_by_cmp tag_cmp q t) (λ q. ap (λ m. finite.get m q) e ∙ get-remove tag_cmp_total a.held t q)

pub are_empty : (a : Inside) → a.capacity ≤ 65536 → a.held ≡ finite.empty → AreCaches a
are_empty a h e = record { limit = h; room = subst (λ m. finite.len m ≤ a.capacity) (sym e) (omega (arith, len-empty tag_cmp Entry)) }

-- ---- a put
one_more : (b : Bool) (n limit : ℕ) → n ≤ limit → (b ≡ true) ⊎ (n < limit) → cond b n (n + 1) ≤ limit
one_more true n limit h e = h
one_more false n limit h e = elim e as (λ _. n + 1 ≤ limit) [ inl f ↦ cc | inr f ↦ omega arith ]

room_of : (o : Option Entry) (n limit : ℕ) → (o ≡ None → n < limit) → (is_some o ≡ true) ⊎ (n < limit)
room_of None n limit h = inr (h refl)
room_of (Some x) n limit h = inl refl

are_filled : (a b : Inside) (x : Entry) → b.capacity ≡ a.capacity → AreCaches a → (is_some (finite.get a.held x.tag) ≡ true) ⊎ (finite.len a.held < a.capacity) → b.held ≡ finite.insert a.held x.tag x → AreCaches b
are_filled a b x same h room e =
    let longer : finite.len (finite.insert a.held x.tag x) ≤ a.capacity = subst (λ n. n ≤ a.capacity) (sym (len-insert tag_cmp_total a.held x.tag x)) (one_more (is_some (finite.get a.held x.tag)) (finite.len a.held) a.capacity h.room room) in
    let limit = h.limit in
    let fits : finite.len b.held ≤ a.capacity = subst (λ n. finite.len n ≤ a.capacity) (sym e) longer in
    record { limit = omega (arith, same, limit); room = omega (arith, same, fits) }

pub put_are : (a b : Inside) (x : Entry) (r : Result (Option Entry) CacheFault) → b.capacity ≡ a.capacity → AreCaches a → (finite.get a.held x.tag ≡ None → finite.len a.held < a.capacity) → IsFilled a.held x b.held r → AreCaches b
put_are a b x (Ok was) same h room p = are_filled a b x same h (room_of _ _ _ room) p.1
put_are a b x (Err f) same h room p =
    let limit = h.limit in
    let old = h.room in
    let fits : finite.len b.held ≤ a.capacity = subst (λ n. finite.len n ≤ a.capacity) (sym p.1) old in
    record { limit = omega (arith, same, limit); room = omega (arith, same, fits) }
