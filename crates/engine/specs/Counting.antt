-- The counts of the commands taken.
use Rattle.std.specs.Prelude.{◌≡◌, ◌≤◌, ◌+◌, ◌*◌, ℕ, Bool, true, false, cond, not, List, [], ◌∷◌}
use Rattle.cmdcodec.specs.declared.raw.Raw.{Raw}
use Rattle.cmdcodec.specs.Opcodes.{is_sync}
use Rattle.ringcore.specs.Limits.{most_reserved}
use Rattle.ringcore.specs.declared.world.event.Outcome.{Outcome}
use Rattle.ringcore.specs.declared.world.event.Outcome.TheVariants.{Applied, Replaced}
use Rattle.ringcore.specs.world.World.{Taken}
use Rattle.caches.specs.Limits.{most_entries}

-- the number of commands applied, of commands replaced, of CMD_SYNCs among both, and of entries removed by
-- those applied
pub record CountsValue : Type 0 where
  pub applied : ℕ
  pub replaced : ℕ
  pub syncs : ℕ
  pub removed : ℕ

abbrev pub taken : CountsValue → ℕ
taken c = c.applied + c.replaced

abbrev pub none_counted : CountsValue
none_counted = record { applied = 0; replaced = 0; syncs = 0; removed = 0 }

abbrev pub syncs_with : Raw → ℕ → ℕ
syncs_with raw syncs = cond (is_sync raw) (syncs + 1) syncs

abbrev pub counted_applied : Raw → ℕ → CountsValue → CountsValue
counted_applied raw removed c = record c { applied = c.applied + 1; syncs = syncs_with raw c.syncs; removed = c.removed + removed }

abbrev pub counted_replaced : Raw → CountsValue → CountsValue
counted_replaced raw c = record c { replaced = c.replaced + 1; syncs = syncs_with raw c.syncs }

-- No more are taken than a ring ever has, and a command removes no more entries than caches may hold.
pub record AreCounts (c : CountsValue) : Type 0 where
  pub few : taken c ≤ most_reserved
  pub syncs : c.syncs ≤ taken c
  pub removed : c.removed ≤ most_entries * taken c

-- ---- of a whole list of commands taken

-- how many of the commands taken pass the test
abbrev pub how_many : (Taken → Bool) → List Taken → ℕ
how_many is_so [] = 0
how_many is_so (t ∷ ts) = cond (is_so t) 1 0 + how_many is_so ts

abbrev pub is_applied : Outcome → Bool
is_applied Applied = true
is_applied Replaced = false

-- The counts are of this list: how many were applied, how many replaced, and how many are a CMD_SYNC.
pub record AreCountsOf (list : List Taken) (c : CountsValue) : Type 0 where
  pub applied : c.applied ≡ how_many (λ t. is_applied t.outcome) list
  pub replaced : c.replaced ≡ how_many (λ t. not (is_applied t.outcome)) list
  pub syncs : c.syncs ≡ how_many (λ t. is_sync t.raw) list
