-- What is told of a stress run.
use Rattle.std.specs.Prelude.{◌≡◌, ℕ, List, Result, Ok, Err, IfOk, IsOk, ◌⊎◌, codes, ⊤}
use Rattle.command_line.specs.declared.stress_numbers.StressNumbers.{StressNumbers}
use Rattle.command_line.specs.declared.subcommand.Subcommand.{Subcommand}
use Rattle.command_line.specs.declared.subcommand.Subcommand.TheVariants.{Stress}
use Rattle.script.specs.Writing.{no_memory_line}
use Rattle.script.specs.declared.status.Status.{Status}
use Rattle.script.specs.declared.status.Status.TheVariants.{Good, Refused, NoMemory, ReadFailed, WriteFailed, Endless}
use Rattle.script.specs.Statuses.{exit_status}
use Rattle.stress.specs.Plans.{IsPlan, PlanValue}
use Rattle.stress.specs.Reports.{ReportValue, IsAsPlanned, IsOfARun, IsUnfinished}
use Rattle.stress.specs.ReportText.{report_text}
use Rattle.stress.specs.declared.fault.StressFault.{StressFault}
use Rattle.stress.specs.declared.fault.StressFault.TheVariants as faults
use Rattle.program.specs.Watching.{HasFailed, Seen, Tells}

-- what these numbers plan
abbrev pub plan_of : StressNumbers → PlanValue
plan_of numbers = record { log2 = numbers.log2; senders = numbers.senders; batches = numbers.batches; turns = numbers.turns; every = numbers.bare }

-- If a stress run is asked for, its numbers are those of a plan.
abbrev pub HasPlan : Subcommand → Type 0
HasPlan (Stress numbers) = IsPlan (plan_of numbers)
HasPlan other = ⊤

-- A report has the numbers of the plan, and is that of a run of a ring with an engine.
abbrev pub IsOfPlan : PlanValue → Result ReportValue StressFault → Type 0
IsOfPlan plan ran = IfOk ran (λ report. IsAsPlanned plan report × IsOfARun plan report)

-- the line of a run that didn't come to its end
abbrev pub unfinished_line : List ℕ
unfinished_line = codes "unfinished\n"

-- What the status says of the result of a run, and of what was told. Memory may run out over the text of a report, too.
abbrev pub Stresses : Status → Result ReportValue StressFault → Seen → Seen → Type 0
Stresses Good ran before after = (report : ReportValue) × (ran ≡ Ok report) × Tells before after (report_text report)
Stresses Refused ran before after = (ran ≡ Err faults.Unfinished) × Tells before after unfinished_line
Stresses NoMemory ran before after = (IsOk ran ⊎ (ran ≡ Err faults.NoMemory)) × Tells before after no_memory_line
Stresses WriteFailed ran before after = HasFailed after
Stresses ReadFailed ran before after = ⊥
Stresses Endless ran before after = ⊥

-- It ended with the exit status of a run of this plan. One that is told as unfinished was made and given up for a
-- cause.
pub record ExitsAsStress (exit : ℕ) (plan : PlanValue) (before after : Seen) : Type 0 where
  pub ran : Result ReportValue StressFault
  pub of_plan : IsOfPlan plan ran
  pub unfinished : ran ≡ Err faults.Unfinished → IsUnfinished plan
  pub status : Status
  pub exit_is : exit ≡ exit_status status
  pub told : Stresses status ran before after
