-- A walk that begins at a key, after what had it was taken out of the map.
use Rattle.std.proofs.Common.{◌≡◌, Bool, true, not, ◌&&◌, cond, IsSome, Option, Some, None, sym, ◌∙◌, ap, subst, refl}
use Rattle.std.specs.declared.cmp.Ordering.{Ordering}
use Rattle.std.specs.declared.cmp.Ordering.TheVariants.{Less, Equal, Greater}
use Rattle.std.specs.declared.ops.Bound.{Bound}
use Rattle.std.specs.declared.ops.Bound.TheVariants.{Included, Excluded, Unbounded}
use Rattle.std.specs.Ordering.{is_lt, is_le}
use Rattle.std.specs.BTreeMap.{BTreeMap, get}
use Rattle.std.specs.BTreeMap.Range.{range_contains, is_from_start, is_past_end}
use Rattle.caches.specs.declared.key.Key.{Key}
use Rattle.caches.specs.declared.tag.Entry.{Entry}
use Rattle.caches.specs.Sweep.{IsNext, is_gone}
use Rattle.caches.proofs.KeyOrder.{key_cmp, key_exact}
use Rattle.caches.proofs.Rest.{none_some}
use Rattle.caches.proofs.Sweeping.{both_true, left_true, right_true}

-- The walk may be said to begin at this bound: at the key, or behind it if the map hasn't it.
abbrev pub BeginsAt : BTreeMap Key Entry → Key → Bound Key → Type 0
BeginsAt m from (Included k) = k ≡ from
BeginsAt m from (Excluded k) = (k ≡ from) × (get key_cmp m from ≡ None)
BeginsAt m from Unbounded = ⊥

-- Everything that passes the test before some such bound is taken out.
pub record IsSweptUpTo (p : Key → Bool) (first end : Bound Key) (old m : BTreeMap Key Entry) (from : Key) : Type 0 where
  pub begin : Bound Key
  pub begins : BeginsAt m from begin
  pub kept : (q : Key) → get key_cmp m q ≡ cond (is_gone key_cmp p first end begin q) None (get key_cmp old q)
  pub starts : (q : Key) → is_from_start key_cmp begin q ≡ true → is_from_start key_cmp first q ≡ true

at_most : (r : Ordering) → is_lt r ≡ true → is_le r ≡ true
at_most Less e = refl
at_most Equal e = cc
at_most Greater e = cc

narrowed : (a b c : Bool) → (a ≡ true → c ≡ true) → (a && b) ≡ true → (c && b) ≡ true
narrowed a b c h e = both_true c b (h (left_true a b e)) (right_true a b e)

abbrev within : Bound Key → Key → Bool
within end q = not (is_past_end key_cmp end q)

module _ (p : Key → Bool) (m : BTreeMap Key Entry) (from : Key) (end : Bound Key) where
  behind : (q : Key) → range_contains key_cmp (Excluded from) end q ≡ true → range_contains key_cmp (Included from) end q ≡ true
  behind q h = narrowed (is_lt (key_cmp from q)) (within end q) (is_le (key_cmp from q)) (at_most (key_cmp from q)) h

  module _ (gone : get key_cmp m from ≡ None) where
    apart : (q : Key) → IsSome (get key_cmp m q) → (r : Ordering) → key_cmp from q ≡ r → is_le r ≡ true → is_lt r ≡ true
    apart q there Less e l = refl
    apart q there Equal e l = absurd (none_some _ (ap (get key_cmp m) (sym (key_exact from q e)) ∙ gone) there)
    apart q there Greater e l = cc

    past_it : (found : Option Key) → IsNext key_cmp p m (Included from) end found → IsNext key_cmp p m (Excluded from) end found
    past_it None next = λ q inside passes. next q (behind q inside) passes
    past_it (Some key) next = record {
      within = narrowed (is_le (key_cmp from key)) (within end key) (is_lt (key_cmp from key)) (apart key next.there (key_cmp from key) refl) next.within;
      passes = next.passes;
      there = next.there;
      least = λ q inside passes there. next.least q (behind q inside) passes there;
    }

  -- the next key from the key on is the next from such a bound
  pub next_from : (found : Option Key) (begin : Bound Key) → BeginsAt m from begin → IsNext key_cmp p m (Included from) end found → IsNext key_cmp p m begin end found
  next_from found (Included k) is next = subst (λ (x : Key). IsNext key_cmp p m (Included x) end found) (sym is) next
  next_from found (Excluded k) is next = subst (λ (x : Key). IsNext key_cmp p m (Excluded x) end found) (sym is.0) (past_it is.1 found next)
  next_from found Unbounded is next = absurd is
