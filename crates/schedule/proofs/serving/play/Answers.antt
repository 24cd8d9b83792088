use Rattle.std.proofs.Common.{refl}
use Rattle.std.proofs.lemmas.Result.{IfOk-weaker}
use Rattle.script.specs.Kinds.{HasNoChoice}
use Rattle.script.specs.Giving.{MayAnswer, Answers}
use Rattle.script.proofs.GivingLemmas.{answers_come}
use Rattle.script.proofs.ServesLemmas.{ended_comes, serves_comes}
use Rattle.schedule.specs.ScheduleText.{schedules}
use Rattle.schedule.proofs.serving.play.Goals as goal

no_choice : HasNoChoice schedules
no_choice number wanting request state = refl

pub returns-clause-serves : goal.returns-clause-serves
returns-clause-serves g c = serves_comes (MayAnswer schedules) (Answers schedules) (answers_come schedules no_choice) _ _ _ _ _ c.serve_to_last_line.ensures.serves

pub returns-clause-last : goal.returns-clause-last
returns-clause-last g c =
    IfOk-weaker c.serve_to_last_line.result.0 _ _ (λ ending ended refused.
    ended_comes (MayAnswer schedules) (Answers schedules) (answers_come schedules no_choice) c.serve_to_last_line.result.1 _ _ _ (ended refused)) c.serve_to_last_line.ensures.last
