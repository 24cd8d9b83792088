-- What the last invalidations say of a walk.
use Rattle.std.specs.Prelude.{◌≡◌, ◌≤◌, ℕ, List, length, Some, slice_get}
use Rattle.caches.specs.declared.tag.Tag.{Tag}
use Rattle.transactions.specs.declared.recent_invalidations.Invalidation.{Invalidation}
use Rattle.transactions.specs.Coverage.{WordsCover}

-- As many are kept as there is room for, and the oldest of them was taken since the walk began.
pub record IsBeforeOldest (kept : List Invalidation) (began : ℕ) : Type 0 where
  pub full : length kept ≡ 65
  pub oldest : Invalidation
  pub first : slice_get kept 0 ≡ Some oldest
  pub since : began ≤ oldest.place

-- One of those kept was taken since the walk began and covers the tag.
pub record HasCovering (kept : List Invalidation) (began : ℕ) (tag : Tag) : Type 0 where
  pub index : ℕ
  pub invalidation : Invalidation
  pub at : slice_get kept index ≡ Some invalidation
  pub since : began ≤ invalidation.place
  pub covering : WordsCover invalidation.raw tag
