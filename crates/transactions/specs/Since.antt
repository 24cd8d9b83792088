-- What was taken since so many commands were.
use Rattle.std.specs.Prelude.{◌≡◌, ◌≤◌, ◌<◌, ℕ, suc, List, [], ◌∷◌, ◌++◌, drop}
use Rattle.std.specs.Prelude.{Some, slice_get, if◌then◌else◌}
use Rattle.circular_buffer.specs.Buffer.{keep_last}
use Rattle.ringcore.specs.world.World.{Taken}
use Rattle.caches.specs.declared.tag.Tag.{Tag}
use Rattle.engine.specs.Settled.{HasCovered}
use Rattle.engine.specs.Counting.{how_many}
use Rattle.transactions.specs.declared.recent_invalidations.Invalidation.{Invalidation}
use Rattle.cmdcodec.specs.declared.raw.Raw.{Raw}
use Rattle.cmdcodec.specs.declared.command.Command.{Command}
use Rattle.engine.specs.declared.verdict.Verdict.{Verdict}
use Rattle.engine.specs.declared.verdict.Verdict.TheVariants.{Applied, Stopped, Replaced}
use Rattle.transactions.specs.declared.used.Used.{Used}
use Rattle.transactions.specs.Coverage.{is_invalidation, was_invalidation, HasConcerned}

-- A command taken at this place or later has covered the tag.
pub record HasCoveredSince (list : List Taken) (began : ℕ) (tag : Tag) : Type 0 where
  pub place : ℕ
  pub taken : Taken
  pub at : slice_get list place ≡ Some taken
  pub since : began ≤ place
  pub covered : HasCovered taken tag

-- A command taken at this place or later has concerned what is used.
pub record HasConcernedSince (list : List Taken) (began : ℕ) (used : Used) : Type 0 where
  pub place : ℕ
  pub taken : Taken
  pub at : slice_get list place ≡ Some taken
  pub since : began ≤ place
  pub concerned : HasConcerned taken used

-- More than 64 invalidations were taken at this place or later.
abbrev pub IsTooOld : List Taken → ℕ → Type 0
IsTooOld list began = 64 < how_many was_invalidation (drop began list)

-- the invalidations of a list whose first command has this place, each with its place
abbrev pub invalidations : ℕ → List Taken → List Invalidation
invalidations place [] = []
invalidations place (t ∷ ts) =
    if was_invalidation t
    then record { place = place; raw = t.raw } ∷ invalidations (suc place) ts
    else invalidations (suc place) ts

-- the last 65 invalidations of all that was taken
abbrev pub last_invalidations : List Taken → List Invalidation
last_invalidations list = keep_last 65 (invalidations 0 list)

-- what is kept once one more came
abbrev pub kept_with : List Invalidation → Invalidation → List Invalidation
kept_with kept new = keep_last 65 (kept ++ new ∷ [])

-- what is kept once a command with these words was applied at this place
abbrev pub recent_with : ℕ → Raw → Command → List Invalidation → List Invalidation
recent_with place raw command kept =
    if is_invalidation command then kept_with kept (record { place = place; raw = raw }) else kept

-- what is kept after a verdict on the command at this place
abbrev pub recent_after : ℕ → Raw → Verdict → List Invalidation → List Invalidation
recent_after place raw (Applied command removed) kept = recent_with place raw command kept
recent_after place raw (Stopped ill) kept = kept
recent_after place raw (Replaced ill) kept = kept
