-- A run of commands that a tracked unit and the consumer of a ring take together.
use Rattle.std.specs.Prelude.{◌≡◌, ◌≤◌, ◌+◌, ◌⊎◌, ℕ, true, false, List, [], ◌∷◌, take}
use Rattle.cmdcodec.specs.declared.raw.Raw.{Raw}
use Rattle.cmdcodec.specs.declared.command.Command.{Command}
use Rattle.ringcore.specs.Limits.{most_reserved}
use Rattle.ring.specs.consumer.Taking.{TookNone, TookUnwritten}
use Rattle.engine.specs.declared.answer.RunAnswer.{RunAnswer}
use Rattle.engine.specs.declared.answer.RunAnswer.TheVariants as answer
use Rattle.engine.specs.declared.completion.Completion.{Completion}
use Rattle.engine.specs.declared.verdict.Verdict.TheVariants.{Applied, Stopped, Replaced}
use Rattle.engine.specs.Completions.{AreTold}
use Rattle.engine.specs.Counting.{taken}
use Rattle.engine.specs.Engines.{HasCompletedRun, IsIllegal}
use Rattle.engine.specs.Stops.{IsStopped}
use Rattle.transactions.specs.declared.tracked_verdict.TrackedVerdict.TheVariants as verdict
use Rattle.transactions.specs.declared.tracked_run.TrackedRun.{TrackedRun}
use Rattle.transactions.specs.declared.tracked_run.TrackedRun.TheVariants.{Ran, Waiting}
use Rattle.transactions.specs.Tracking.{TrackedValue}
use Rattle.transactions.specs.TrackedVerdicts.{HasJudgedTracked, HasToWait}
use Rattle.transactions.specs.Together.{IsStep, HasTaken, HasLeft}

-- These were applied in turn, and removed `removed` entries in total. Each was judged as it came,
-- so each legal CMD_SYNC among them had no transaction to wait for.
abbrev pub AreAppliedTracked : List Raw → ℕ → TrackedValue → TrackedValue → Type 0
AreAppliedTracked [] removed old new = (removed ≡ 0) × (new ≡ old)
AreAppliedTracked (raw ∷ raws) removed old new =
    (between : TrackedValue) × (command : Command) × (first : ℕ) × (rest : ℕ)
    × HasJudgedTracked raw old between (Applied command first)
    × AreAppliedTracked raws rest between new × (removed ≡ first + rest)

-- A run ends ahead of an illegal command, and of a legal CMD_SYNC that has to wait.
abbrev pub EndsRun : TrackedValue → Raw → Type 0
EndsRun tracked raw = IsIllegal raw ⊎ HasToWait tracked raw

-- The first `count` of the commands read were applied and completed; the one after them, if any,
-- ends the run.
abbrev pub HasAppliedRun : ℕ → ℕ → ℕ → IsStep
HasAppliedRun most count removed from old to new =
    HasCompletedRun most count (λ raws. AreAppliedTracked raws removed old new) (EndsRun new)
    from new to

-- What a run of the unit's own did, by its answer.
abbrev pub HasRunUnit : ℕ → RunAnswer → IsStep
HasRunUnit most answer.Empty from old to new = TookNone false from to × (new ≡ old)
HasRunUnit most answer.Drained from old to new = TookNone true from to × (new ≡ old)
HasRunUnit most answer.Unwritten from old to new = TookUnwritten most from to × (new ≡ old)
HasRunUnit most (answer.Applied count removed) from old to new =
    HasAppliedRun most count removed from old to new
HasRunUnit most (answer.Replaced ill) from old to new = HasTaken most (Replaced ill) from old to new
HasRunUnit most (answer.Stopped ill) from old to new =
    HasLeft most (verdict.Judged (Stopped ill)) from old to new
HasRunUnit most answer.StillStopped from old to new =
    IsStopped old.unit.stop.mode × (new ≡ old) × (to ≡ from)
HasRunUnit most answer.Exhausted from old to new =
    (most_reserved ≤ taken old.unit.counts) × (new ≡ old) × (to ≡ from)

-- What a run did. It waits only for a legal CMD_SYNC that comes first, which stays in the ring.
abbrev pub HasRun : ℕ → TrackedRun → IsStep
HasRun most (Ran answer) from old to new = HasRunUnit most answer from old to new
HasRun most (Waiting transactions) from old to new =
    HasLeft most (verdict.Waiting transactions) from old to new

-- What a run told, by its answer: what the commands that it applied complete, and else nothing.
abbrev pub HasTold : ℕ → TrackedRun × ℕ → List Completion → List Completion → IsStep
HasTold most (Ran (answer.Applied count removed), many) before after from old to new =
    (did : HasAppliedRun most count removed from old to new)
    × AreTold (take count did.pending.raws) before after many
HasTold most (other, many) before after from old to new = AreTold [] before after many
