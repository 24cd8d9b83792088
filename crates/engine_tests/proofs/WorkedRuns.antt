-- What a run of a tracked engine may not do: for each part of its definitions a case in which they are false. CMD_SYNC with
-- CS SIG_NONE is the command that comes; it is legal.
use Rattle.std.proofs.Common.{◌≡◌, ℕ, true, false, List, [], ◌∷◌, length, take, Some, None, inl, inr, refl, sym, ◌∙◌, arith}
use Rattle.std.specs.Prelude.{slice_get}
use Rattle.cmdcodec.specs.declared.raw.Raw.{Raw}
use Rattle.cmdcodec.specs.declared.ill.Ill.{Ill}
use Rattle.cmdcodec.specs.Opcodes.{opcode_named}
use Rattle.engine.specs.declared.answer.RunAnswer.TheVariants.{Applied, Stopped}
use Rattle.engine.specs.declared.completion.Completion.{Completion}
use Rattle.engine.specs.Completions.{completions_of}
use Rattle.transactions.specs.declared.tracked_run.TrackedRun.TheVariants.{Ran, Waiting}
use Rattle.transactions.specs.Outstanding.{Slots}
use Rattle.transactions.specs.Tracking.{TrackedValue}
use Rattle.transactions.specs.TrackedVerdicts.{waited_for, IsLegalSync, HasToWaitFor}
use Rattle.transactions.specs.Together.{TrackedConsumer}
use Rattle.transactions.specs.TrackedRuns.{AreAppliedTracked, HasAppliedRun, HasTold}
use Rattle.engine_tests.proofs.WorkedOutstanding.{used}

abbrev sync : Raw
sync = record { lo = 0x46; hi = 0 }

legal_sync : IsLegalSync sync
unfolding opcode_named
legal_sync = (refl, refl)

-- ---- what a CMD_SYNC waits for

-- Of three slots one is free, one has a transaction that is covered, and one has another.
abbrev slots : Slots
slots = None ∷ Some (record (used 5 0) { covered = true }) ∷ Some (record (used 6 0) { covered = false }) ∷ []

-- It waits for one of the two.
pub uncovered_is_not_waited_for : (tracked : TrackedValue) → waited_for (record tracked { outstanding = slots }) ≡ 1
uncovered_is_not_waited_for tracked = refl

-- It is told how many they are.
pub wait_for_one_is_not_for_two : (old new : TrackedValue) → HasToWaitFor sync old new 2 → ¬ (waited_for old ≡ 1)
wait_for_one_is_not_for_two old new has one = let two = has.1 in omega (arith, two, one)

-- ---- what a run applies, and where it ends

-- A CMD_SYNC that has to wait isn't applied.
pub sync_that_waits_is_not_applied : (removed : ℕ) (old new : TrackedValue) → AreAppliedTracked (sync ∷ []) removed old new → ¬ (waited_for old ≡ 1)
sync_that_waits_is_not_applied removed old new (between, command, first, rest, one, none, sum) waits =
    let free = one.none_waited_for legal_sync in omega (arith, free, waits)

-- Nor where another command comes before it.
pub sync_behind_another_is_not_applied : (raw : Raw) (removed : ℕ) (old new : TrackedValue) (are : AreAppliedTracked (raw ∷ sync ∷ []) removed old new) → ¬ (waited_for are.0 ≡ 1)
sync_behind_another_is_not_applied raw removed old new (between, command, first, rest, one, more, sum) waits =
    sync_that_waits_is_not_applied rest between new more waits

-- A run doesn't end ahead of a CMD_SYNC that has nothing to wait for.
pub run_goes_on_at_a_sync : (most count removed : ℕ) (from to : TrackedConsumer) (old new : TrackedValue) (did : HasAppliedRun most count removed from old to new)
    → slice_get did.pending.raws count ≡ Some sync → ¬ (waited_for new ≡ 0)
run_goes_on_at_a_sync most count removed from to old new did at free = elim (did.longest sync at) [
  | inl ill ↦ let none : None ≡ Some ill.0 = sym legal_sync.1 ∙ ill.1 in absurd (cc)
  | inr has ↦ let some = has.1 in absurd (omega (arith, some, free))
]

-- ---- what a run tells

pub wait_tells_nothing : (most transactions many : ℕ) (before after : List Completion) (from to : TrackedConsumer) (old new : TrackedValue)
    → HasTold most (Waiting transactions, many) before after from old to new → many ≡ 0
wait_tells_nothing most transactions many before after from to old new told = told.many_are

pub stop_tells_nothing : (most many : ℕ) (ill : Ill) (before after : List Completion) (from to : TrackedConsumer) (old new : TrackedValue)
    → HasTold most (Ran (Stopped ill), many) before after from old to new → many ≡ 0
stop_tells_nothing most many ill before after from to old new told = told.many_are

-- Nothing is told of commands that weren't applied.
pub applied_alone_are_told : (most count removed many : ℕ) (before after : List Completion) (from to : TrackedConsumer) (old new : TrackedValue)
    (told : HasTold most (Ran (Applied count removed), many) before after from old to new) → many ≡ length (completions_of (take count told.0.pending.raws))
applied_alone_are_told most count removed many before after from to old new told = told.1.many_are
