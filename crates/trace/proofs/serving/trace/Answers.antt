use Rattle.script.proofs.ServesLemmas.{tells, serves_comes}
use Rattle.trace.specs.Logs.{Gives, MayTell}
use Rattle.trace.proofs.Lines.{comes_first}
use Rattle.trace.proofs.serving.trace.Goals as goal

pub returns : goal.returns
returns g c =
    let serve = c.serve-served.ensures in
    tells MayTell c.serve-served.result c.status_of-status.result _ _ _ _ c.status_of-status.ensures
    (serves_comes (Gives c.new-answering.result.trace) MayTell (comes_first c.new-answering.result.trace c.new-answering.ensures) _ _ _ _ _ (record {
      answer = serve.answer;
      end = serve.end;
      memory = serve.memory;
      beginning = serve.beginning;
      read = serve.read;
      endless = serve.endless;
    }))
