-- What a tracked unit does with a command.
use Rattle.std.specs.Prelude.{◌≡◌, ◌<◌, ◌↔◌, ℕ, true, List, [], None, count_by}
use Rattle.cmdcodec.specs.declared.raw.Raw.{Raw}
use Rattle.cmdcodec.specs.Opcodes.{is_sync}
use Rattle.cmdcodec.specs.Legality.{first_ill}
use Rattle.ringcore.specs.world.World.{Taken}
use Rattle.engine.specs.Units.{HasJudged, took}
use Rattle.engine.specs.declared.verdict.Verdict.{Verdict}
use Rattle.transactions.specs.declared.tracked_verdict.TrackedVerdict.{TrackedVerdict}
use Rattle.transactions.specs.declared.tracked_verdict.TrackedVerdict.TheVariants.{Judged, Waiting}
use Rattle.transactions.specs.Outstanding.{covered_by, is_covered, HasCoveredOutstanding}
use Rattle.transactions.specs.Tracking.{TrackedValue, IsTracked}

-- the commands that it takes
abbrev pub took_by : Raw → TrackedVerdict → List Taken
took_by raw (Judged verdict) = took raw verdict
took_by raw (Waiting transactions) = []

abbrev pub IsLegalSync : Raw → Type 0
IsLegalSync raw = (is_sync raw ≡ true) × (first_ill raw ≡ None)

-- how many outstanding transactions a CMD_SYNC that comes now has to wait for: those that are
-- covered
abbrev pub waited_for : TrackedValue → ℕ
waited_for tracked = count_by is_covered tracked.outstanding

-- The unit judged it, and the outstanding transactions that it covers are covered. If it is a legal
-- CMD_SYNC, it had none to wait for.
pub record HasJudgedTracked (raw : Raw) (old new : TrackedValue) (verdict : Verdict)
    : Type 0 where
  pub judged : HasJudged raw old.unit new.unit verdict
  pub covered : new.outstanding ≡ covered_by verdict old.outstanding
  pub next_number : new.next_number ≡ old.next_number
  pub none_waited_for : IsLegalSync raw → waited_for old ≡ 0

-- It is a legal CMD_SYNC that has to wait.
abbrev pub HasToWait : TrackedValue → Raw → Type 0
HasToWait tracked raw = IsLegalSync raw × (0 < waited_for tracked)

-- It has to wait for so many outstanding transactions, and nothing changed.
abbrev pub HasToWaitFor : Raw → TrackedValue → TrackedValue → ℕ → Type 0
HasToWaitFor raw old new transactions =
    (new ≡ old) × (transactions ≡ waited_for old) × HasToWait old raw

abbrev pub IsTrackedVerdict : Raw → TrackedValue → TrackedValue → TrackedVerdict → Type 0
IsTrackedVerdict raw old new (Judged verdict) = HasJudgedTracked raw old new verdict
IsTrackedVerdict raw old new (Waiting transactions) = HasToWaitFor raw old new transactions

abbrev pub IsWaiting : TrackedVerdict → Type 0
IsWaiting (Judged verdict) = ⊥
IsWaiting (Waiting transactions) = Unit {0}

-- It waits exactly if the command is a legal CMD_SYNC and a transaction is outstanding that a
-- command concerns which was taken since what it uses was born.
abbrev pub WaitsExactly : Raw → TrackedValue → TrackedVerdict → Type 0
WaitsExactly raw old answer =
    (list : List Taken) → IsTracked old list
    → IsWaiting answer ↔ (IsLegalSync raw × HasCoveredOutstanding old.outstanding list)
