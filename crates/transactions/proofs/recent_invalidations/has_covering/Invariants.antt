use Rattle.std.proofs.Common.{◌≡◌, ◌<◌, ◌≤◌, ℕ, Some}
use Rattle.std.specs.Prelude.{slice_get}
use Rattle.transactions.specs.declared.recent_invalidations.Invalidation.{Invalidation}
use Rattle.transactions.specs.Coverage.{WordsCover}
use Rattle.transactions.proofs.recent_invalidations.has_covering.Given as goal

abbrev pub invariant-loop-index : goal.invariant-loop-index
invariant-loop-index l =
    (k : ℕ) (one : Invalidation) → k < l.index → slice_get l.kept.items k ≡ Some one → l.began ≤ one.place → ¬ WordsCover one.raw l.tag
