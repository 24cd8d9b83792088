-- What removal by ranges uses: the next key that passes a test, and what a sweep removes.
use Rattle.std.specs.Prelude.{◌≡◌, ◌⊎◌, cond, Bool, true, false, not, ◌&&◌, IsSome, Option, Some, None}
use Rattle.std.specs.declared.cmp.Ordering.{Ordering}
use Rattle.std.specs.declared.ops.Bound.{Bound}
use Rattle.std.specs.declared.ops.Bound.TheVariants.{Unbounded}
use Rattle.std.specs.Option.{MatchOption, option_map_or}
use Rattle.std.specs.BTreeMap.{BTreeMap}
use Rattle.std.specs.BTreeMap as tree
use Rattle.std.specs.BTreeMap.Range.{IsLeBy, range_contains, is_from_start}
use Rattle.caches.specs.declared.tag.Entry.{Entry}
use Rattle.caches.specs.declared.key.Key.{Key}
use Rattle.caches.specs.Keys.{tag_of, IsKept}

-- Each entry of the map is under the key of its tag, whose block is well formed.
abbrev pub IsKeeping : (Key → Key → Ordering) → BTreeMap Key Entry → Type 0
IsKeeping cmp m = (key : Key) (entry : Entry) → tree.get cmp m key ≡ Some entry → IsKept (tag_of key) entry

-- The key is in the map, within the bounds, and passes the test, and no other such key comes before it.
pub record IsNextKey {K X : Type 0} (cmp : K → K → Ordering) (p : K → Bool) (m : BTreeMap K X) (from end : Bound K) (key : K) : Type 0 where
  pub within : range_contains cmp from end key ≡ true
  pub passes : p key ≡ true
  pub there : IsSome (tree.get cmp m key)
  pub least : (q : K) → range_contains cmp from end q ≡ true → p q ≡ true → IsSome (tree.get cmp m q) → IsLeBy cmp key q

-- the least key of the map that is within the bounds and passes the test, or none
abbrev pub IsNext : {K X : Type 0} → (K → K → Ordering) → (K → Bool) → BTreeMap K X → Bound K → Bound K → Option K → Type 0
IsNext {K} cmp p m from end found = MatchOption found
    ((q : K) → range_contains cmp from end q ≡ true → p q ≡ true → tree.get cmp m q ≡ None)
    (IsNextKey cmp p m from end)

module _ {K : Type 0} (cmp : K → K → Ordering) where
  -- what a sweep from first to end removes
  abbrev pub is_swept : (K → Bool) → Bound K → Bound K → K → Bool
  is_swept p first end q = range_contains cmp first end q && p q

  -- what it has removed before it reaches a bound
  abbrev pub is_gone : (K → Bool) → Bound K → Bound K → Bound K → K → Bool
  is_gone p first end from q = not (is_from_start cmp from q) && is_swept p first end q

-- n is m, perhaps without some of what passes the test.
abbrev pub IsPruned : {K X : Type 0} → (K → K → Ordering) → (K → Bool) → BTreeMap K X → BTreeMap K X → Type 0
IsPruned {K} cmp p m n = (q : K) → (tree.get cmp n q ≡ tree.get cmp m q) ⊎ ((p q ≡ true) × (tree.get cmp n q ≡ None))

-- n is m without everything that passes the test.
abbrev pub IsWithout : {K X : Type 0} → (K → K → Ordering) → (K → Bool) → BTreeMap K X → BTreeMap K X → Type 0
IsWithout {K} cmp p m n = (q : K) → tree.get cmp n q ≡ cond (p q) None (tree.get cmp m q)

-- ---- by a test of entries

-- The map has an entry under the key, which passes.
abbrev pub has_passing : (Key → Key → Ordering) → (Entry → Bool) → BTreeMap Key Entry → Key → Bool
has_passing cmp passes m key = option_map_or passes (tree.get cmp m key) false

-- the least key from a bound on whose entry passes, or none
abbrev pub IsNextPassing : (Key → Key → Ordering) → (Entry → Bool) → BTreeMap Key Entry → Bound Key → Option Key → Type 0
IsNextPassing cmp passes m from found = IsNext cmp (has_passing cmp passes m) m from Unbounded found

-- n is m without the entries that pass.
abbrev pub IsRidOf : (Key → Key → Ordering) → (Entry → Bool) → BTreeMap Key Entry → BTreeMap Key Entry → Type 0
IsRidOf cmp passes m n = IsWithout cmp (has_passing cmp passes m) m n
