use Rattle.script.specs.Giving.{Answers}
use Rattle.script.proofs.ServesLemmas.{refused_by, tells}
use Rattle.schedule.specs.ScheduleText.{schedules}
use Rattle.schedule.proofs.serving.schedule_to_last_line.Goals as goal

pub returns-clause-schedules : goal.returns-clause-schedules
returns-clause-schedules g c = tells (Answers schedules) c.play-served.result.0 c.status_of.result _ _ _ _ c.status_of.ensures c.play-served.ensures.serves

pub returns-clause-last : goal.returns-clause-last
returns-clause-last g c = refused_by c.play-served.result.0 c.status_of.result c.status_of.ensures c.play-served.ensures.last
