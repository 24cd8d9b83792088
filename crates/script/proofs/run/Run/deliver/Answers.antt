use Rattle.std.proofs.Common.{string_bytes, inl, inr}
use Rattle.std.proofs.lemmas.Result.{err_from_is_err_and}
use Rattle.script.specs.declared.ending.Ending.TheVariants.{Refused}
use Rattle.script.specs.Endings.{EndsKnown}
use Rattle.script.specs.Knowing.{Leads}
use Rattle.script.proofs.Pauses.{ended_or_not}
use Rattle.script.proofs.UnderWay.{under_way_lines, under_way_sent, under_way_part, under_way_stops, under_way_no_memory, under_way_no_memory_part, told_part}
use Rattle.script.proofs.run.Run.deliver.Goals as goal

pub returns-in_err-send_text-in-Ok-clause-err : goal.returns-in_err-send_text-in-Ok-clause-err
returns-in_err-send_text-in-Ok-clause-err g c =
    let returned = err_from_is_err_and c.from_residual.result c.from_residual.ensures.1 in
    let failed = c.in_err-send_text-in-Ok.ensures.err in
    let old = c.args.self.now in
    let served = c.serve_lines.new.self in
    let may = g.I.Interpreter.gives c.args.interpreter.now in
    let then_may = g.I.Interpreter.gives c.serve_lines.new.interpreter in
    rw returned.1 (λ first rest input before u.
    let cut = g.met.I.Interpreter.cut first in
    elim (ended_or_not c.in-Ok.pause) [
      | inl ended ↦
          told_part (g.I.Interpreter.gives first) input rest before _ _ _ u.told (string_bytes served.text) Refused cut u.read
          (under_way_stops (g.I.Interpreter.gives first) may _ _ _ _ old served u (c.in-Ok.ensures.stops ended)) u.written failed
      | inr goes_on ↦
          under_way_part (g.I.Interpreter.gives first) then_may input rest before _ _ served cut (g.met.I.Interpreter.begins c.serve_lines.new.interpreter)
          (under_way_lines (g.I.Interpreter.gives first) may then_may _ _ _ _ old served u (c.in-Ok.ensures.goes_on goes_on)) failed
    ])

pub returns-in_ok-send_text-in-Ok-clause-goes_on :
    goal.returns-in_ok-send_text-in-Ok-clause-goes_on
returns-in_ok-send_text-in-Ok-clause-goes_on g c on first rest input before u =
    let may = g.I.Interpreter.gives c.args.interpreter.now in
    let then_may = g.I.Interpreter.gives c.serve_lines.new.interpreter in
    let served = c.serve_lines.new.self in
    let sent = c.in_ok-send_text-in-Ok.ensures in
    under_way_sent (g.I.Interpreter.gives first) then_may _ _ _ _ _ served c.send_text.new.self
    (under_way_lines (g.I.Interpreter.gives first) may then_may _ _ _ _ c.args.self.now served u (c.in-Ok.ensures.goes_on on)) sent.same sent.ok.0 sent.ok.1

pub returns-in-Err-clause-memory : goal.returns-in-Err-clause-memory
returns-in-Err-clause-memory g c is_memory first rest input before u =
    under_way_no_memory (g.I.Interpreter.gives first) (g.I.Interpreter.gives c.args.interpreter.now) _ _ _ _ _ c.args.self.now c.serve_lines.new.self u c.in-Err.ensures.halts
    (c.give_up.ensures.told is_memory)

pub returns-in-Err-clause-err : goal.returns-in-Err-clause-err
returns-in-Err-clause-err g c first rest input before u =
    under_way_no_memory_part (g.I.Interpreter.gives first) (g.I.Interpreter.gives c.args.interpreter.now) _ _ _ _ _ c.args.self.now c.serve_lines.new.self u c.in-Err.ensures.halts
    c.give_up.ensures.part

pub returns-in_ok-send_text-in-Ok-clause-learns : goal.returns-in_ok-send_text-in-Ok-clause-learns
returns-in_ok-send_text-in-Ok-clause-learns g c on first last rest input before u =
    let knows = g.I.Interpreter.knows in
    let may = Leads knows last c.args.interpreter.now in
    let then_may = Leads knows last c.serve_lines.new.interpreter in
    let served = c.serve_lines.new.self in
    let sent = c.in_ok-send_text-in-Ok.ensures in
    under_way_sent (Leads knows last first) then_may _ _ _ _ _ served c.send_text.new.self
    (under_way_lines (Leads knows last first) may then_may _ _ _ _ c.args.self.now served u (c.in-Ok.ensures.learns on last)) sent.same sent.ok.0 sent.ok.1

pub returns-in_ok-send_text-in-Ok-clause-passes : goal.returns-in_ok-send_text-in-Ok-clause-passes
returns-in_ok-send_text-in-Ok-clause-passes g c on first last rest input before u =
    let is_last = g.I.Interpreter.ended_at last in
    let may = EndsKnown (g.I.Interpreter.gives first) is_last in
    let old_may = EndsKnown (g.I.Interpreter.gives c.args.interpreter.now) is_last in
    let then_may = EndsKnown (g.I.Interpreter.gives c.serve_lines.new.interpreter) is_last in
    let served = c.serve_lines.new.self in
    let sent = c.in_ok-send_text-in-Ok.ensures in
    under_way_sent may then_may _ _ _ _ _ served c.send_text.new.self
    (under_way_lines may old_may then_may _ _ _ _ c.args.self.now served u (c.in-Ok.ensures.passes on last)) sent.same sent.ok.0 sent.ok.1
