-- What the status of a schedule says.
use Rattle.std.specs.Prelude.{ℕ, List, Option}
use Rattle.script.specs.declared.status.Status.{Status}
use Rattle.script.specs.Statuses.{Tells, ExitsAs}
use Rattle.script.specs.Giving.{Answers}
use Rattle.schedule.specs.ScheduleText.{schedules}

-- Of a reader that had this input and has `rest` left, and a writer that held `before` and holds `after`.
abbrev pub Schedules : Status → Option (List ℕ) → Option (List ℕ) → Option (List ℕ) → Option (List ℕ) → Type 0
Schedules status input rest before after = Tells (Answers schedules) status input rest before after

-- It ended with the exit status of a run.
abbrev pub ExitsAsSchedule : ℕ → Option (List ℕ) → Option (List ℕ) → Option (List ℕ) → Option (List ℕ) → Type 0
ExitsAsSchedule exit input rest before after = ExitsAs (Answers schedules) exit input rest before after
