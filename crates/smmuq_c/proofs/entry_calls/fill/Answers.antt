use Rattle.smmuq_c.proofs.Objects.{said_unit, said_engine}
use Rattle.smmuq_c.proofs.Unchanged.{filled_rest, filled_none, filled_ok, filled_err}
use Rattle.smmuq_c.proofs.entry_calls.fill.Goals as goal

pub returns-in-Unit : goal.returns-in-Unit
returns-in-Unit c =
    let e = c.fill.ensures in
    let r = c.fill.result in
    let tag = c.in-Some.tag in
    let value = c.args.value in
    let old = c.in-Unit.unit in
    let new = c.fill.new.self in
    said_unit _ _ tag c.in-Some.ensures c.in-Unit.is (filled_rest tag value old new r e.ok e.err) (filled_none tag value old new r e.ok e.err e.tracked) (record {
      answer = r;
      answered = e.answer;
      ok = filled_ok tag value old new r e.ok;
      err = filled_err tag value old new r e.err;
      status_is = c.fill_status.ensures;
    })

pub returns-in-Engine : goal.returns-in-Engine
returns-in-Engine c = let e = c.fill-in-Engine.ensures in said_engine _ _ c.in-Some.tag c.in-Some.ensures c.in-Engine.is e.consumer e.settled e.filled
