use Rattle.smmuq_c.proofs.Objects.{stop_of_unit, stop_of_engine}
use Rattle.smmuq_c.proofs.Unchanged.{acknowledged_rest, acknowledged_none, acknowledged_ok, acknowledged_err}
use Rattle.smmuq_c.proofs.stop_calls.acknowledge.Goals as goal

pub returns-in-Unit : goal.returns-in-Unit
returns-in-Unit c =
    let e = c.acknowledge.ensures in
    let r = c.acknowledge.result in
    let remedy = c.in-Some.remedy in
    let old = c.in-Unit.unit in
    let new = c.acknowledge.new.self in
    stop_of_unit remedy c.in-Some.ensures c.in-Unit.is (acknowledged_rest remedy old new r e.ok e.err) (acknowledged_none remedy old new r e.ok e.err e.tracked) (record {
      answer = r;
      answered = e.answer;
      ok = acknowledged_ok remedy old new r e.ok;
      err = acknowledged_err remedy old new r e.err;
      status_is = c.acknowledgement_status.ensures;
    })

pub returns-in-Engine : goal.returns-in-Engine
returns-in-Engine c =
    let e = c.acknowledge-in-Engine.ensures in stop_of_engine c.in-Some.remedy c.in-Some.ensures c.until_then.ensures c.in-Engine.is e.consumer e.settled e.acknowledged
