use Rattle.std.proofs.lemmas.Result.{IfOk-weaker}
use Rattle.script.specs.Giving.{MayGive, MayAnswer}
use Rattle.script.proofs.GivingLemmas.{may_come}
use Rattle.script.proofs.ServesLemmas.{ended_by, serves_comes}
use Rattle.script.proofs.session.serve_to_last_line.Goals as goal

pub returns-clause-serves : goal.returns-clause-serves
returns-clause-serves g c =
    let kind = g.K.ScriptKind.kind in
    let stands = g.K.ScriptKind.stands in
    let kept = c.new-session.result.kept in
    serves_comes (MayGive kind stands kept) (MayAnswer kind) (may_come kind stands kept c.new-session.ensures) _ _ _ _ _ (record {
      answer = c.serve-served.ensures.answer;
      end = c.serve-served.ensures.end;
      memory = c.serve-served.ensures.memory;
      beginning = c.serve-served.ensures.beginning;
      read = c.serve-served.ensures.read;
      endless = c.serve-served.ensures.endless;
    })

pub returns-clause-last : goal.returns-clause-last
returns-clause-last g c =
    let kind = g.K.ScriptKind.kind in
    let stands = g.K.ScriptKind.stands in
    let kept = c.new-session.result.kept in
    IfOk-weaker c.serve-served.result _ _ (λ ending written refused.
    ended_by (MayGive kind stands kept) (MayAnswer kind) (may_come kind stands kept c.new-session.ensures) c.serve-served.new.interpreter.last _ _ _ ending refused written) c.serve-served.ensures.last
