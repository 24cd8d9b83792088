use Rattle.std.proofs.Common.{◌+◌, length, ap, arith}
use Rattle.std.proofs.lemmas.Result.{err_from_is_err_and, IfOk-weaker, IfErr-weaker, on_err_weaker}
use Rattle.script.specs.Endings.{EndsKnown}
use Rattle.script.specs.Knowing.{Leads}
use Rattle.script.proofs.Pauses.{drained_is_not_ended, full_is_not_ended}
use Rattle.script.proofs.UnderWay.{under_way_begins, under_way_kept, under_way_read, under_way_read_failed, under_way_learned, no_memory_at_once, no_memory_part_at_once}
use Rattle.script.proofs.TakenBytes.{has_read_less, has_read_part, endless_lines}
use Rattle.script.proofs.serving.serve.Goals as goal

pub returns-in-Err-clause-memory : goal.returns-in-Err-clause-memory
returns-in-Err-clause-memory g c is_memory =
    no_memory_at_once (g.I.Interpreter.gives c.args.interpreter.now) _ _ _ (g.met.I.Interpreter.nothing_left c.args.interpreter.now) (c.tell_of_memory.ensures.told is_memory)

pub returns-in-Err-clause-beginning : goal.returns-in-Err-clause-beginning
returns-in-Err-clause-beginning g c =
    no_memory_part_at_once (g.I.Interpreter.gives c.args.interpreter.now) _ _ _ (g.met.I.Interpreter.nothing_left c.args.interpreter.now) c.tell_of_memory.ensures.part

pub returns-in_err-deliver-clause-memory : goal.returns-in_err-deliver-clause-memory
returns-in_err-deliver-clause-memory g c =
    let returned = err_from_is_err_and c.from_residual.result c.from_residual.ensures.1 in
    rw (returned.1, returned.2) (λ is_memory. c.in_err-deliver.ensures.memory is_memory c.args.interpreter.now _ _ _ c.turns.invariant.under_way)

pub returns-in_err-deliver-clause-beginning : goal.returns-in_err-deliver-clause-beginning
returns-in_err-deliver-clause-beginning g c =
    let returned = err_from_is_err_and c.from_residual.result c.from_residual.ensures.1 in
    rw returned.1 (c.in_err-deliver.ensures.err c.args.interpreter.now _ _ _ c.turns.invariant.under_way)

pub returns-in-Ended-clause-answer : goal.returns-in-Ended-clause-answer
returns-in-Ended-clause-answer g c = c.in_ok-deliver.ensures.ended c.in-Ended.is c.args.interpreter.now _ _ _ c.turns.invariant.under_way

pub returns-in_err-read_more-clause-beginning : goal.returns-in_err-read_more-clause-beginning
returns-in_err-read_more-clause-beginning g c =
    let returned = err_from_is_err_and c.from_residual-in_err-read_more.result c.from_residual-in_err-read_more.ensures.1 in
    let delivered = c.in_ok-deliver.ensures.goes_on (drained_is_not_ended _ c.in-Drained.is) c.args.interpreter.now _ _ _ c.turns.invariant.under_way in
    let may = g.I.Interpreter.gives c.args.interpreter.now in
    let then_may = g.I.Interpreter.gives c.deliver.new.interpreter in
    rw returned.1 (under_way_begins may then_may _ _ _ _ c.deliver.new.self (g.met.I.Interpreter.cut c.args.interpreter.now) (g.met.I.Interpreter.begins c.deliver.new.interpreter)
    (under_way_kept may then_may _ _ _ _ _ c.deliver.new.self delivered c.in_err-read_more.ensures.err))

pub returns-in_err-read_more-clause-read : goal.returns-in_err-read_more-clause-read
returns-in_err-read_more-clause-read g c =
    let returned = err_from_is_err_and c.from_residual-in_err-read_more.result c.from_residual-in_err-read_more.ensures.1 in
    let delivered = c.in_ok-deliver.ensures.goes_on (drained_is_not_ended _ c.in-Drained.is) c.args.interpreter.now _ _ _ c.turns.invariant.under_way in
    let drained = c.in_ok-deliver.ensures.drained c.in-Drained.is in
    rw returned.1 (λ _. under_way_read_failed (g.I.Interpreter.gives c.args.interpreter.now) (g.I.Interpreter.gives c.deliver.new.interpreter) _ _ _ _ _ c.deliver.new.self
    (g.met.I.Interpreter.nothing_left c.deliver.new.interpreter) delivered drained.2 drained.0 c.in_err-read_more.ensures.err)

pub returns-then-not-branch-clause-answer : goal.returns-then-not-branch-clause-answer
returns-then-not-branch-clause-answer g c =
    let delivered = c.in_ok-deliver.ensures.goes_on (drained_is_not_ended _ c.in-Drained.is) c.args.interpreter.now _ _ _ c.turns.invariant.under_way in
    let part = c.in_ok-read_more.ensures.part in
    let end = (c.in_ok-read_more.ensures.end c.if-not-branch.true).1 in
    let read = under_way_read (g.I.Interpreter.gives c.args.interpreter.now) (g.I.Interpreter.gives c.deliver.new.interpreter) _ _ _ _ _ c.deliver.new.self c.read_more.new.self
    part.0 delivered c.read_more.ensures.same part.1 part.2 in
    IfOk-weaker c.finish.result _ _ (λ ending written. written c.args.interpreter.now _ end _ _ read) c.finish.ensures.answer

pub returns-then-not-branch-clause-learns : goal.returns-then-not-branch-clause-learns
returns-then-not-branch-clause-learns g c =
    let knows = g.I.Interpreter.knows in
    let first = c.args.interpreter.now in
    let now = c.deliver.new.interpreter in
    let last = c.finish.new.interpreter in
    let delivered = c.in_ok-deliver.ensures.learns (drained_is_not_ended _ c.in-Drained.is) first last _ _ _ (c.turns.invariant.leads last) in
    let part = c.in_ok-read_more.ensures.part in
    let end = (c.in_ok-read_more.ensures.end c.if-not-branch.true).1 in
    let read = under_way_read (Leads knows last first) (Leads knows last now) _ _ _ _ _ c.deliver.new.self c.read_more.new.self part.0 delivered c.read_more.ensures.same part.1 part.2 in
    IfOk-weaker c.finish.result _ _ (λ ending learns finished. under_way_learned knows first now last _ _ _ _ c.read_more.new.self read end (learns finished)) c.finish.ensures.learns

pub returns-then-not-branch-clause-memory : goal.returns-then-not-branch-clause-memory
returns-then-not-branch-clause-memory g c =
    let delivered = c.in_ok-deliver.ensures.goes_on (drained_is_not_ended _ c.in-Drained.is) c.args.interpreter.now _ _ _ c.turns.invariant.under_way in
    let part = c.in_ok-read_more.ensures.part in
    let read = under_way_read (g.I.Interpreter.gives c.args.interpreter.now) (g.I.Interpreter.gives c.deliver.new.interpreter) _ _ _ _ _ c.deliver.new.self c.read_more.new.self
    part.0 delivered c.read_more.ensures.same part.1 part.2 in
    IfErr-weaker c.finish.result _ _ (λ e written is_memory. written is_memory c.args.interpreter.now _ _ _ read) c.finish.ensures.memory

pub returns-then-not-branch-clause-beginning : goal.returns-then-not-branch-clause-beginning
returns-then-not-branch-clause-beginning g c =
    let delivered = c.in_ok-deliver.ensures.goes_on (drained_is_not_ended _ c.in-Drained.is) c.args.interpreter.now _ _ _ c.turns.invariant.under_way in
    let part = c.in_ok-read_more.ensures.part in
    let end = (c.in_ok-read_more.ensures.end c.if-not-branch.true).1 in
    let read = under_way_read (g.I.Interpreter.gives c.args.interpreter.now) (g.I.Interpreter.gives c.deliver.new.interpreter) _ _ _ _ _ c.deliver.new.self c.read_more.new.self
    part.0 delivered c.read_more.ensures.same part.1 part.2 in
    on_err_weaker c.finish.result (λ written. written c.args.interpreter.now _ end _ _ read) c.finish.ensures.err

pub returns-then-not-branch-clause-endless : goal.returns-then-not-branch-clause-endless
returns-then-not-branch-clause-endless g c =
    let part = c.in_ok-read_more.ensures.part in
    let last = c.read_more.new.self in
    let same = ap length (c.in_ok-read_more.ensures.end c.if-not-branch.true).0 in
    let read =
    has_read_part _ _ _ _ 0 c.turns.run c.deliver.new.self last part.0 c.turns.invariant.has_read (c.in_ok-deliver.ensures.takes (drained_is_not_ended _ c.in-Drained.is))
    c.read_more.ensures.same part.1 part.2 (omega arith) in
    IfErr-weaker c.finish.result _ _ (λ e wants. endless_lines _ _ _ (last.lines + 1) last e read (omega arith) wants) c.finish.ensures.error

pub turns-preserved-in-Full : goal.turns-preserved-in-Full
turns-preserved-in-Full g c =
    let first = c.args.interpreter.now in
    let full = full_is_not_ended _ c.in-Full.is in
    let delivered = c.in_ok-deliver.ensures in
    record {
      under_way = delivered.goes_on full first _ _ _ c.turns.invariant.under_way;
      leads = λ last. delivered.learns full first last _ _ _ (c.turns.invariant.leads last);
      passes = λ last. delivered.passes full first last _ _ _ (c.turns.invariant.passes last);
      has_read = has_read_less _ _ _ c.turns.run c.deliver.new.self c.turns.invariant.has_read (delivered.takes full) (delivered.full c.in-Full.is);
    }

pub turns-preserved : goal.turns-preserved
turns-preserved g c =
    let drained = drained_is_not_ended _ c.in-Drained.is in
    let delivered = c.in_ok-deliver.ensures.goes_on drained c.args.interpreter.now _ _ _ c.turns.invariant.under_way in
    let part = c.in_ok-read_more.ensures.part in
    let more = c.in_ok-read_more.ensures.more c.if-not-branch.false in
    let knows = g.I.Interpreter.knows in
    record {
      leads = λ last.
          under_way_read (Leads knows last c.args.interpreter.now) (Leads knows last c.deliver.new.interpreter) _ _ _ _ _ c.deliver.new.self c.read_more.new.self
          part.0 (c.in_ok-deliver.ensures.learns drained c.args.interpreter.now last _ _ _ (c.turns.invariant.leads last)) c.read_more.ensures.same part.1 part.2;
      passes = λ last.
          let is_last = g.I.Interpreter.ended_at last in
          let may = EndsKnown (g.I.Interpreter.gives c.args.interpreter.now) is_last in
          let then_may = EndsKnown (g.I.Interpreter.gives c.deliver.new.interpreter) is_last in
          under_way_read may then_may _ _ _ _ _ c.deliver.new.self c.read_more.new.self
          part.0 (c.in_ok-deliver.ensures.passes drained c.args.interpreter.now last _ _ _ (c.turns.invariant.passes last)) c.read_more.ensures.same part.1 part.2;
      under_way =
          under_way_read (g.I.Interpreter.gives c.args.interpreter.now) (g.I.Interpreter.gives c.deliver.new.interpreter) _ _ _ _ _ c.deliver.new.self c.read_more.new.self
          part.0 delivered c.read_more.ensures.same part.1 part.2;
      has_read =
          has_read_part _ _ _ _ 1 c.turns.run c.deliver.new.self c.read_more.new.self part.0 c.turns.invariant.has_read (c.in_ok-deliver.ensures.takes drained) c.read_more.ensures.same part.1
          part.2 (omega arith);
    }

pub returns-clause-beginning : goal.returns-clause-beginning
returns-clause-beginning g c =
    under_way_begins (g.I.Interpreter.gives c.args.interpreter.now) (g.I.Interpreter.gives c.turns.interpreter) _ _ _ _ c.turns.run
    (g.met.I.Interpreter.cut c.args.interpreter.now) (g.met.I.Interpreter.begins c.turns.interpreter) c.turns.invariant.under_way

pub returns-in-Ended-clause-last : goal.returns-in-Ended-clause-last
returns-in-Ended-clause-last g c =
    c.in_ok-deliver.ensures.last c.in-Ended.is c.args.interpreter.now _ _ _ (c.turns.invariant.passes c.deliver.new.interpreter)

pub returns-then-not-branch-clause-last : goal.returns-then-not-branch-clause-last
returns-then-not-branch-clause-last g c =
    let last = c.finish.new.interpreter in
    let is_last = g.I.Interpreter.ended_at last in
    let may = EndsKnown (g.I.Interpreter.gives c.args.interpreter.now) is_last in
    let then_may = EndsKnown (g.I.Interpreter.gives c.deliver.new.interpreter) is_last in
    let delivered = c.in_ok-deliver.ensures.passes (drained_is_not_ended _ c.in-Drained.is) c.args.interpreter.now last _ _ _ (c.turns.invariant.passes last) in
    let part = c.in_ok-read_more.ensures.part in
    let end = (c.in_ok-read_more.ensures.end c.if-not-branch.true).1 in
    let read = under_way_read may then_may _ _ _ _ _ c.deliver.new.self c.read_more.new.self part.0 delivered c.read_more.ensures.same part.1 part.2 in
    IfOk-weaker c.finish.result _ _ (λ ending written. written c.args.interpreter.now _ end _ _ read) c.finish.ensures.last
