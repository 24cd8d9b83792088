-- What a walk back along the blocks of an owner comes to.
use Rattle.std.specs.Prelude.{◌≡◌, ◌⊎◌, ℕ, ◌≤◌, Bool, true, IsSome, Some, None}
use Rattle.std.specs.declared.cmp.Ordering.{Ordering}
use Rattle.std.specs.declared.cmp.Ordering.TheVariants.{Less}
use Rattle.std.specs.BTreeMap.{BTreeMap}
use Rattle.std.specs.BTreeMap as tree
use Rattle.caches.specs.declared.tag.Entry.{Entry}
use Rattle.caches.specs.declared.key.Key.{Key}
use Rattle.caches.specs.declared.key.Owner.{Owner}
use Rattle.caches.specs.declared.walk.Walked.{Walked}
use Rattle.caches.specs.declared.walk.Walked.TheVariants.{Covered, NoneFrom}
use Rattle.caches.specs.Keys.{owner_of, page_of}

module _ (cmp : Key → Key → Ordering) (p : Key → Bool) (m : BTreeMap Key Entry) (end : Key) where
  -- The key is in the map, before the end, and passes the test, and no other such key comes after it.
  pub record IsLastKey (key : Key) : Type 0 where
    pub before : cmp key end ≡ Less
    pub passes : p key ≡ true
    pub there : IsSome (tree.get cmp m key)
    pub last : (q : Key) → cmp key q ≡ Less → cmp q end ≡ Less → p q ≡ true → tree.get cmp m q ≡ None

  -- Nothing that passes the test and is before the end begins at the page or after it. The page isn't past `first`, and
  -- it is 0 or that of a key of the owner before the end.
  pub record IsNoneFrom (owner : Owner) (first page : ℕ) : Type 0 where
    pub none : (q : Key) → p q ≡ true → cmp q end ≡ Less → page ≤ page_of q → tree.get cmp m q ≡ None
    pub low : page ≤ first
    pub begins : (page ≡ 0) ⊎ ((k : Key) × (owner_of k ≡ Some owner) × (page_of k ≡ page) × (cmp k end ≡ Less))

  -- what a walk back from the end may answer
  abbrev pub IsWalked : Owner → ℕ → Walked → Type 0
  IsWalked owner first (Covered key) = IsLastKey key
  IsWalked owner first (NoneFrom page) = IsNoneFrom owner first page
