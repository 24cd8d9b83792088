-- What a run of the engine does to it, and what C gets of it.
use Rattle.std.specs.Prelude.{◌≡◌, ◌≤◌, ◌↔◌, ◌⊎◌, ℕ, max, min, List, length}
use Rattle.ring.specs.Runs.{raws_by}
use Rattle.ring.specs.consumer.Completing.{taken_of}
use Rattle.engine.specs.declared.answer.RunAnswer.{RunAnswer}
use Rattle.engine.specs.declared.answer.RunAnswer.TheVariants.{Empty, Drained, Unwritten, Applied, Stopped, Replaced, StillStopped, Exhausted}
use Rattle.engine.specs.declared.completion.Completion.{Completion}
use Rattle.engine.specs.Completions.{HasTold, AreToCells}
use Rattle.engine.specs.Settled.{IsSettled}
use Rattle.engine.specs.Stops.{IsStopped}
use Rattle.engine.specs.Units.{OnlyRemoves}
use Rattle.engine.specs.declared.answer.Registers.{Registers}
use Rattle.engine.specs.Engines.{EngineValue, HasGrown, HasRun, HasLooked, IsExhausted}
use Rattle.smmuq_c.specs.Statuses.{ill_number}
use Rattle.smmuq_c.specs.declared.status.Status.{Status}
use Rattle.smmuq_c.specs.declared.status.Status.TheVariants as status
use Rattle.smmuq_c.specs.declared.status.Status.TheVariants.{Done, ShortBuffer}
use Rattle.smmuq_c.specs.declared.words.RunWords.{RunWords}
use Rattle.smmuq_c.specs.declared.words.RegisterWords.{RegisterWords}

-- cut to 1 to 64
abbrev pub run_length : ℕ → ℕ
run_length most = min (max most 1) 64

abbrev pub run_status : RunAnswer → Status
run_status Empty = status.RingEmpty
run_status Drained = status.RingDrained
run_status Unwritten = status.RingUnwritten
run_status (Applied count removed) = Done
run_status (Stopped ill) = status.Illegal ill
run_status (Replaced ill) = status.Replaced
run_status StillStopped = status.StillStopped
run_status Exhausted = status.Exhausted

abbrev pub no_run : RunWords
no_run = record { count = 0; removed = 0; ill = 0 }

abbrev pub run_words : RunAnswer → RunWords
run_words (Applied count removed) = record { count = count; removed = removed; ill = 0 }
run_words (Stopped ill) = record { count = 0; removed = 0; ill = ill_number ill }
run_words (Replaced ill) = record { count = 0; removed = 0; ill = ill_number ill }
run_words other = no_run

-- The status and the words are those of what the engine did, with at most so many commands. It is settled for all that
-- it took.
pub record HasRunFor (most : ℕ) (told : RunWords) (old new : EngineValue) (status : Status) : Type 0 where
  pub answer : RunAnswer
  pub ran : HasRun (run_length most) old new answer
  pub history : HasGrown old new
  pub settled : IsSettled new.unit.caches.entries (taken_of new.consumer.trail)
  pub removes : OnlyRemoves old.unit new.unit
  pub still : (answer ≡ StillStopped) ↔ IsStopped old.unit.stop.mode
  pub exhausted : (answer ≡ Exhausted) ↔ IsExhausted old.unit
  pub ring_is : new.consumer.ring ≡ old.consumer.ring
  pub status_is : status ≡ run_status answer
  pub told_is : told ≡ run_words answer

-- ---- with what it completed

-- It ran. What the commands that it applied complete stands first in the buffer, and how much that is is told. Each
-- CMD_SYNC that it ever took is to a completion cell, so that none of them is left out.
pub record HasRunTelling (most : ℕ) (told : RunWords) (before after : List Completion) (count : ℕ) (old new : EngineValue) (status : Status) : Type 0 where
  pub room : 1 ≤ length before
  pub ran : HasRunFor (min most (length before)) told old new status
  pub completions : HasTold (run_length (min most (length before))) old new (ran.answer, count) before after
  pub cells : AreToCells (raws_by new.consumer.trail)

-- There is no room to tell of a command: nothing was done.
pub record HadNoRoomToTell (before : List Completion) (old new : EngineValue) (status : Status) : Type 0 where
  pub none : length before ≡ 0
  pub new_is : new ≡ old
  pub status_is : status ≡ ShortBuffer

abbrev pub HasRunCompletions : ℕ → RunWords → List Completion → List Completion → ℕ → EngineValue → EngineValue → Status → Type 0
HasRunCompletions most told before after count old new status =
    HadNoRoomToTell before old new status ⊎ HasRunTelling most told before after count old new status

-- ---- registers

abbrev pub register_words : Registers → RegisterWords
register_words found = record { prod = found.prod; cons = found.cons; gerror = found.gerror; gerrorn = found.gerrorn }

-- The engine looked, and its registers at that moment are told.
pub record HasToldRegisters (told : RegisterWords) (old new : EngineValue) (status : Status) : Type 0 where
  pub found : Registers
  pub looked : HasLooked old new found
  pub ring_is : new.consumer.ring ≡ old.consumer.ring
  pub told_is : told ≡ register_words found
  pub status_is : status ≡ Done
