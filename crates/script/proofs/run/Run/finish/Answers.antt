use Rattle.std.proofs.Common.{string_bytes}
use Rattle.std.proofs.lemmas.Result.{err_from_is_err_and}
use Rattle.script.proofs.UnderWay.{under_way_closes, under_way_no_memory, under_way_no_memory_part, told_part}
use Rattle.script.proofs.run.Run.finish.Goals as goal

pub returns-in_err-send_text-in-Ok-clause-err : goal.returns-in_err-send_text-in-Ok-clause-err
returns-in_err-send_text-in-Ok-clause-err g c =
    let returned = err_from_is_err_and c.from_residual.result c.from_residual.ensures.1 in
    let may = g.I.Interpreter.gives c.args.interpreter.now in
    let served = c.serve_last.new.self in
    rw returned.1 (λ first rest end input before u.
    told_part (g.I.Interpreter.gives first) input rest before _ _ _ u.told (string_bytes served.text) c.in-Ok.ending (g.met.I.Interpreter.cut first) u.read
    (under_way_closes (g.I.Interpreter.gives first) may _ _ _ _ c.args.self.now served c.in-Ok.ending u end c.in-Ok.ensures.closes) u.written c.in_err-send_text-in-Ok.ensures.err)

pub returns-in-Err-clause-memory : goal.returns-in-Err-clause-memory
returns-in-Err-clause-memory g c is_memory first rest input before u =
    under_way_no_memory (g.I.Interpreter.gives first) (g.I.Interpreter.gives c.args.interpreter.now) _ _ _ _ _ c.args.self.now c.serve_last.new.self u c.in-Err.ensures.halts
    (c.give_up.ensures.told is_memory)

pub returns-in-Err-clause-err : goal.returns-in-Err-clause-err
returns-in-Err-clause-err g c first rest end input before u =
    under_way_no_memory_part (g.I.Interpreter.gives first) (g.I.Interpreter.gives c.args.interpreter.now) _ _ _ _ _ c.args.self.now c.serve_last.new.self u c.in-Err.ensures.halts
    c.give_up.ensures.part
