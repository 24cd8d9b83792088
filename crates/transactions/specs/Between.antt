-- Between the crate's private functions: no clause of a public one names these.
use Rattle.std.specs.Prelude.{◌≡◌, ◌≤◌, ◌<◌, ℕ, true, List, [], ◌∷◌, ◌++◌}
use Rattle.std.specs.Prelude.{Option, None, Some, count_by, map, ◌⊎◌}
use Rattle.std.specs.Prelude.{slice_get, slice_set}
use Rattle.cmdcodec.specs.declared.raw.Raw.{Raw}
use Rattle.cmdcodec.specs.Opcodes.{is_sync}
use Rattle.cmdcodec.specs.Legality.{first_ill}
use Rattle.cmdcodec.specs.Spelling.{Spells}
use Rattle.cmdcodec.specs.declared.command.Command.{Command}
use Rattle.ringcore.specs.declared.world.event.Outcome.TheVariants.{Applied as AsApplied}
use Rattle.ringcore.specs.world.World.{Taken}
use Rattle.ring.specs.consumer.Completing.{with_outcome}
use Rattle.caches.specs.declared.tag.Tag.{Tag}
use Rattle.caches.specs.Blocks.{IsBlock}
use Rattle.engine.specs.declared.verdict.Verdict.TheVariants.{Applied}
use Rattle.engine.specs.Counting.{taken}
use Rattle.transactions.specs.declared.walk.WalkFault.{WalkFault}
use Rattle.transactions.specs.declared.walk.WalkFault.TheVariants.{Overtaken, TooOld}
use Rattle.transactions.specs.declared.walk.WalkFault.TheVariants.{OtherUnit, Refused}
use Rattle.transactions.specs.RecentInvalidations.{IsBeforeOldest, HasCovering}
use Rattle.transactions.specs.declared.outstanding.OutstandingTransaction.{OutstandingTransaction}
use Rattle.transactions.specs.declared.used.Used.{Used}
use Rattle.transactions.specs.Since.{recent_with}
use Rattle.transactions.specs.Outstanding.{Slots, cover, is_covered, HasNoRoom}
use Rattle.transactions.specs.Outstanding.{HasCoveredOutstanding}
use Rattle.transactions.specs.Transactions.{TransactionValue, IsBegun}
use Rattle.transactions.specs.Tracking.{TrackedValue, TrackingValue, IsTracked, StaysTracked}
use Rattle.transactions.specs.TrackedVerdicts.{HasJudgedTracked}
use Rattle.transactions.specs.TrackedRuns.{EndsRun}
use Rattle.engine.specs.declared.verdict.Judgement.{Judgement}
use Rattle.engine.specs.QueueUnits.{HasJudgedNext}
use Rattle.transactions.specs.TrackedQueueUnits.{TrackedQueueValue, tracked_in, CoversBy}
use Rattle.transactions.specs.TrackedQueueUnits.{TookNext}

-- A slot was free and has this transaction now, or none was free.
abbrev pub IsInsertAnswer : Slots → OutstandingTransaction → Slots → Option ℕ → Type 0
IsInsertAnswer old o new None = (new ≡ old) × HasNoRoom old
IsInsertAnswer old o new (Some slot) =
    (slice_get old slot ≡ Some None) × (new ≡ slice_set old slot (Some o))

-- A transaction began that uses this, which was born then, or no slot was free.
abbrev pub IsBegunIfRoom :
    TrackedValue → Used → ℕ → TrackedValue → Option TransactionValue → Type 0
IsBegunIfRoom old used born new None = (new ≡ old) × HasNoRoom old.outstanding
IsBegunIfRoom old used born new (Some token) = IsBegun old used born new token

-- The same and these are taken now, if the command needn't wait.
abbrev pub TakesTracked : Raw → TrackedValue → TrackedValue → List Taken → Type 0
TakesTracked raw old new more =
    (list : List Taken) → IsTracked old list
    → (is_sync raw ≡ true → first_ill raw ≡ None → ¬ HasCoveredOutstanding old.outstanding list)
    → IsTracked new (list ++ more)

-- A legal command that needn't wait was applied, and the same and this one are taken now; or it
-- ends a run, and nothing changed.
abbrev pub IsApplyAnswer : Raw → TrackedValue → TrackedValue → Option ℕ → Type 0
IsApplyAnswer raw old new None = (new ≡ old) × EndsRun old raw
IsApplyAnswer raw old new (Some removed) =
    ((command : Command) × HasJudgedTracked raw old new (Applied command removed))
    × StaysTracked old new (with_outcome AsApplied raw ∷ [])

-- A command that these words spell was applied at this place.
pub record IsNoted (place : ℕ) (raw : Raw) (command : Command)
    (old new : TrackingValue) : Type 0 where
  pub recent : new.recent ≡ recent_with place raw command old.recent
  pub outstanding : new.outstanding ≡ map (cover command) old.outstanding
  pub next_number : new.next_number ≡ old.next_number

abbrev pub HasNoted : ℕ → Raw → TrackingValue → TrackingValue → Type 0
HasNoted place raw old new =
    (command : Command) → Spells raw command → IsNoted place raw command old new

-- The queue's unit judged words; and whatever it was tracked for, it is for what it took now if
-- they needn't wait.
pub record HasTakenQueue (raw : Raw) (old new : TrackedQueueValue)
    (judgement : Judgement) : Type 0 where
  pub judged : HasJudgedNext raw old.queue new.queue judgement
  pub covers : CoversBy raw judgement old.outstanding new.outstanding
  pub next_number : new.next_number ≡ old.next_number
  pub walks : new.walks ≡ old.walks
  pub takes : (more : List Taken) × TookNext raw old.queue.unit judgement more
      × TakesTracked raw (tracked_in old) (tracked_in new) more

-- How many transactions a command has to wait for, if it has to: for those that are covered, if it
-- is a legal CMD_SYNC.
abbrev pub IsWaitAnswer : Raw → Slots → Option ℕ → Type 0
IsWaitAnswer raw slots None =
    is_sync raw ≡ true → first_ill raw ≡ None → count_by is_covered slots ≡ 0
IsWaitAnswer raw slots (Some transactions) =
    (is_sync raw ≡ true) × (first_ill raw ≡ None)
    × (transactions ≡ count_by is_covered slots) × (0 < transactions)

-- Why a walk is refused before the caches are asked, by what is kept.
abbrev pub IsRefusal : TrackedValue → ℕ → Tag → Option WalkFault → Type 0
IsRefusal t began tag None =
    ¬ IsBlock tag ⊎
    (IsBlock tag × (began ≤ taken t.unit.counts) × ¬ IsBeforeOldest t.recent began
    × ¬ HasCovering t.recent began tag)
IsRefusal t began tag (Some Overtaken) =
    IsBlock tag × (began ≤ taken t.unit.counts) × ¬ IsBeforeOldest t.recent began
    × HasCovering t.recent began tag
IsRefusal t began tag (Some TooOld) =
    IsBlock tag × (began ≤ taken t.unit.counts) × IsBeforeOldest t.recent began
IsRefusal t began tag (Some OtherUnit) = IsBlock tag × (taken t.unit.counts < began)
IsRefusal t began tag (Some (Refused fault)) = ⊥
