use Rattle.std.proofs.Common.{subst, sym}
use Rattle.command_line.specs.declared.subcommand.Subcommand.{Subcommand}
use Rattle.program.specs.Explaining.{Explains}
use Rattle.program.specs.Stressing.{HasPlan}
use Rattle.replay.specs.ReplayText.{replays}
use Rattle.schedule.specs.ScheduleText.{schedules}
use Rattle.script.specs.Giving.{Answers, MayAnswer}
use Rattle.program.proofs.Explained.{tells_of_script}
use Rattle.program.proofs.running.serve.Goals as goal

pub stress_to_exit-requires-after_bounds : goal.stress_to_exit-requires-after_bounds
stress_to_exit-requires-after_bounds g c κs within = subst HasPlan c.in-Stress.is c.requires

pub returns-in-Replay-clause-explained : goal.returns-in-Replay-clause-explained
returns-in-Replay-clause-explained g c =
    let ran = c.replay_to_last_line-status in
    let exit = c.exit_of_script in
    subst (λ (s : Subcommand). Explains s exit.result (g.I.Read.remaining c.args.input.now) c.args.output.now ran.new.output c.args.faults.now exit.new.faults) (sym c.in-Replay.is)
    (tells_of_script (MayAnswer replays) ran.result.0 exit.result ran.result.1 _ _ _ _ _ exit.ensures.exit ran.ensures.last exit.ensures.explained)

pub returns-in-Schedule-clause-explained : goal.returns-in-Schedule-clause-explained
returns-in-Schedule-clause-explained g c =
    let ran = c.schedule_to_last_line-status in
    let exit = c.exit_of_script-in-Schedule in
    subst (λ (s : Subcommand). Explains s exit.result (g.I.Read.remaining c.args.input.now) c.args.output.now ran.new.output c.args.faults.now exit.new.faults) (sym c.in-Schedule.is)
    (tells_of_script (Answers schedules) ran.result.0 exit.result ran.result.1 _ _ _ _ _ exit.ensures.exit ran.ensures.last exit.ensures.explained)
